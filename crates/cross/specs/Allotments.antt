-- The allotment list: one record for each order of a book, the buys first by rising place, and right behind them the
-- sells by rising place.
use Rattle.std.specs.Prelude.{ℕ, List, ◌++◌, map, length, drop, filter}
use Rattle.std.specs.List.{range_with_len}
use Rattle.market.specs.declared.order.Side.{Side}
use Rattle.market.specs.declared.order.Side.TheVariants.{Buy, Sell}
use Rattle.market.specs.declared.order.OrderTerms.{OrderTerms}
use Rattle.cross.specs.declared.allotment.Allotment.{Allotment}
use Rattle.cross.specs.Fills.{at_place}
use Rattle.cross.specs.Rankings.{same_side}

-- the places of a side among the first n
abbrev pub side_places : Side → List OrderTerms → (n : ℕ) → List ℕ
side_places side os n = filter (λ i. same_side side (at_place os i).side) (range_with_len 0 n)

-- how many orders are of a side
abbrev pub side_count : Side → List OrderTerms → ℕ
side_count side os = length (side_places side os (length os))

abbrev pub allotment : (ℕ → ℕ) → ℕ → Allotment
allotment fill i = record { place = i; fill = fill i }

-- the records of a side among the first n places
abbrev pub side_allotments : Side → List OrderTerms → (ℕ → ℕ) → (n : ℕ) → List Allotment
side_allotments side os fill n = map (allotment fill) (side_places side os n)

-- the records of all orders: the buys, and then the sells
abbrev pub allotments : List OrderTerms → (ℕ → ℕ) → List Allotment
allotments os fill = side_allotments Buy os fill (length os) ++ side_allotments Sell os fill (length os)

-- what the list holds after it held `before`: later records stay
abbrev pub allotted : List OrderTerms → (ℕ → ℕ) → (before : List Allotment) → List Allotment
allotted os fill before = allotments os fill ++ drop (length os) before
