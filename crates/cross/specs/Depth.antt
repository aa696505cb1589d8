-- The shares of a list of orders at a price, by their counted prices in a range.
use Rattle.std.specs.Prelude.{ℕ, min, Bool, true, false, cond, ◌&&◌, List, sum_by, nat_le, nat_lt}
use Rattle.market.specs.declared.order.Side.{Side}
use Rattle.market.specs.declared.order.Side.TheVariants.{Buy, Sell}
use Rattle.market.specs.declared.order.OrderTerms.{OrderTerms}
use Rattle.market.specs.Ranges.{counted_price}

abbrev pub buys : Side → Bool
buys Buy = true
buys Sell = false

abbrev pub sells : Side → Bool
sells Buy = false
sells Sell = true

module _ (lowest highest : ℕ) where
  -- the price at which an order counts
  abbrev pub counts_at : OrderTerms → ℕ
  counts_at o = counted_price lowest highest o.side o.price

  -- the shares of the orders that pass a test
  abbrev pub shares_of : (OrderTerms → Bool) → List OrderTerms → ℕ
  shares_of test os = sum_by (λ o. cond (test o) o.shares 0) os

  -- a buy is willing at its counted price and below, a sell at its counted price and above
  abbrev pub willing_buy : ℕ → OrderTerms → Bool
  willing_buy p o = buys o.side && nat_le p (counts_at o)

  abbrev pub willing_sell : ℕ → OrderTerms → Bool
  willing_sell p o = sells o.side && nat_le (counts_at o) p

  -- B(p) and S(p)
  abbrev pub bought : List OrderTerms → ℕ → ℕ
  bought os p = shares_of (willing_buy p) os

  abbrev pub sold : List OrderTerms → ℕ → ℕ
  sold os p = shares_of (willing_sell p) os

  -- E(p)
  abbrev pub executed : List OrderTerms → ℕ → ℕ
  executed os p = min (bought os p) (sold os p)

  -- the better-priced shares: buys counted above p, and sells counted below it
  abbrev pub bought_above : List OrderTerms → ℕ → ℕ
  bought_above os p = shares_of (λ o. buys o.side && nat_lt p (counts_at o)) os

  abbrev pub sold_below : List OrderTerms → ℕ → ℕ
  sold_below os p = shares_of (λ o. sells o.side && nat_lt (counts_at o) p) os
