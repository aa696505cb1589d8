-- The shares of a list of orders at a price, by their limits: what one pass over a book in a range sums.
use Rattle.std.specs.Prelude.{ℕ, cond, ◌&&◌, nat_le, nat_lt}
use Rattle.market.specs.declared.order.OrderPrice.{OrderPrice}
use Rattle.market.specs.declared.order.OrderPrice.TheVariants.{Market, Limit}
use Rattle.market.specs.declared.order.OrderTerms.{OrderTerms}
use Rattle.cross.specs.Depth.{buys, sells}

-- the limit; in a range every order has one
abbrev pub limit_of : OrderPrice → ℕ
limit_of Market = 0
limit_of (Limit cents) = cents

-- the shares that one order adds to each sum
abbrev pub buy_shares : ℕ → OrderTerms → ℕ
buy_shares p o = cond (buys o.side && nat_le p (limit_of o.price)) o.shares 0

abbrev pub sell_shares : ℕ → OrderTerms → ℕ
sell_shares p o = cond (sells o.side && nat_le (limit_of o.price) p) o.shares 0

abbrev pub buy_shares_above : ℕ → OrderTerms → ℕ
buy_shares_above p o = cond (buys o.side && nat_lt p (limit_of o.price)) o.shares 0

abbrev pub sell_shares_below : ℕ → OrderTerms → ℕ
sell_shares_below p o = cond (sells o.side && nat_lt (limit_of o.price) p) o.shares 0
