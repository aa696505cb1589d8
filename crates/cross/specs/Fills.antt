-- The fills of a book at a price, by a ranking.
use Rattle.std.specs.Prelude.{ℕ, ◌-◌, min, Bool, false, cond, not, ◌&&◌, ◌||◌, List, length, sum_by, nat_le, nat_lt, slice_index_or}
use Rattle.std.specs.List.{range_with_len}
use Rattle.market.specs.declared.order.Side.{Side}
use Rattle.market.specs.declared.order.Side.TheVariants.{Buy, Sell}
use Rattle.market.specs.declared.order.OrderPrice.TheVariants.{Market}
use Rattle.market.specs.declared.order.OrderTerms.{OrderTerms}
use Rattle.cross.specs.Depth.{counts_at}
use Rattle.cross.specs.Rankings.{same_side}

-- what `slice_index_or` gives past the end of a list
abbrev pub no_order : OrderTerms
no_order = record { side = Buy; price = Market; shares = 0; entry = 0; displayed = false; stays = false }

-- the order at a place
abbrev pub at_place : List OrderTerms → ℕ → OrderTerms
at_place os i = slice_index_or os i no_order

-- the places of a list
abbrev pub places : List OrderTerms → List ℕ
places os = range_with_len 0 (length os)

-- the shares of a side at the places, as a fill for each place gives them
abbrev pub filled : Side → List OrderTerms → (ℕ → ℕ) → ℕ
filled side os fill = sum_by (λ i. cond (same_side side (at_place os i).side) (fill i) 0) (places os)

-- by a ranking, the order at place i is ahead of the one at j: as good, and better or at the earlier place
abbrev pub ahead : (OrderTerms → OrderTerms → Bool) → List OrderTerms → (i j : ℕ) → Bool
ahead good os i j = good (at_place os i) (at_place os j) && (not (good (at_place os j) (at_place os i)) || nat_lt i j)

module _ (lowest highest : ℕ) where
  -- willing at a price: a buy that counts there or above, a sell that counts there or below
  abbrev pub willing_at : ℕ → Side → ℕ → Bool
  willing_at p Buy counts = nat_le p counts
  willing_at p Sell counts = nat_le counts p

  abbrev pub willing : ℕ → OrderTerms → Bool
  willing p o = willing_at p o.side (counts_at lowest highest o)

  -- better-priced than p: a buy counted above it, a sell counted below it
  abbrev pub better_at : ℕ → Side → ℕ → Bool
  better_at p Buy counts = nat_lt p counts
  better_at p Sell counts = nat_lt counts p

  abbrev pub better_priced : ℕ → OrderTerms → Bool
  better_priced p o = better_at p o.side (counts_at lowest highest o)

  module _ (good : OrderTerms → OrderTerms → Bool) (os : List OrderTerms) where
    -- the shares of the willing orders ahead of a place
    abbrev pub shares_ahead : (p j : ℕ) → ℕ
    shares_ahead p j = sum_by (λ i. cond (willing p (at_place os i) && ahead good os i j) (at_place os i).shares 0) (places os)

    -- the fill of the order at a place, where e shares are executed on each side
    abbrev pub fill : (p e i : ℕ) → ℕ
    fill p e i = cond (willing p (at_place os i)) (min (at_place os i).shares (e - shares_ahead p i)) 0
