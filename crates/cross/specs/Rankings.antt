-- Rankings: which of two orders is served first.
use Rattle.std.specs.Prelude.{◌≡◌, Bool, true, false, cond, not, ◌&&◌, ◌||◌, ◌==◌, nat_le, nat_lt}
use Rattle.market.specs.declared.order.Side.{Side}
use Rattle.market.specs.declared.order.Side.TheVariants.{Buy, Sell}
use Rattle.market.specs.declared.order.OrderPrice.{OrderPrice}
use Rattle.market.specs.declared.order.OrderPrice.TheVariants.{Market, Limit}
use Rattle.market.specs.declared.order.OrderTerms.{OrderTerms}

abbrev pub same_side : Side → Side → Bool
same_side Buy Buy = true
same_side Buy Sell = false
same_side Sell Buy = false
same_side Sell Sell = true

-- whether the first own price is the better one: market is best, then a higher buy limit or a lower sell limit
abbrev pub better_price : Side → OrderPrice → OrderPrice → Bool
better_price side Market Market = false
better_price side Market (Limit b) = true
better_price side (Limit a) Market = false
better_price Buy (Limit a) (Limit b) = nat_lt b a
better_price Sell (Limit a) (Limit b) = nat_lt a b

-- What a ranking owes; `good a b` says that a is at least as good as b.
pub record Laws (good : OrderTerms → OrderTerms → Bool) : Type 0 where
  -- orders of different sides are not compared
  pub one_side : (a b : OrderTerms) → same_side a.side b.side ≡ false → good a b ≡ false
  -- of any two orders of a side, at least one is as good as the other
  pub total : (a b : OrderTerms) → same_side a.side b.side ≡ true → good a b ≡ false → good b a ≡ true
  pub transitive : (a b c : OrderTerms) → good a b ≡ true → good b c ≡ true → good a c ≡ true
  -- a better own price is never beaten
  pub price_first : (a b : OrderTerms) → same_side a.side b.side ≡ true → better_price a.side a.price b.price ≡ true → good b a ≡ false

-- by price, and of the same price by a second rule
abbrev pub by_price_then : (OrderTerms → OrderTerms → Bool) → OrderTerms → OrderTerms → Bool
by_price_then then a b =
    same_side a.side b.side
    && (better_price a.side a.price b.price || (not (better_price a.side b.price a.price) && then a b))

abbrev lower_entry : OrderTerms → OrderTerms → Bool
lower_entry a b = nat_le a.entry b.entry

-- ranking 1: price, displayed first, lower entry number
abbrev pub by_display : OrderTerms → OrderTerms → Bool
by_display = by_price_then (λ a b. cond a.displayed (not b.displayed || lower_entry a b) (not b.displayed && lower_entry a b))

-- ranking 2: price, more shares, lower entry number
abbrev pub by_shares : OrderTerms → OrderTerms → Bool
by_shares = by_price_then (λ a b. nat_lt b.shares a.shares || (a.shares == b.shares && lower_entry a b))
