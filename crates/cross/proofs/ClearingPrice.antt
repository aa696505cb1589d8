-- The clearing price is the tie-breaker with its half dropped, moved into the range, and from there to the first price
-- that meets both tests.
use Rattle.std.proofs.Common.{◌≡◌, ℕ, ◌+◌, ◌-◌, ◌/◌, ◌<◌, ◌≤◌, min, max, ◌⊎◌, List, inl, inr, arith}
use Rattle.std.proofs.lemmas.Bool.{cases_lt}
use Rattle.market.specs.declared.order.OrderTerms.{OrderTerms}
use Rattle.cross.specs.Depth.{bought, sold, bought_above, sold_below}
use Rattle.cross.specs.Clearing.{distance, candidates, clearing_price}
use Rattle.cross.proofs.DepthSums.{bought_falls, sold_rises, above_falls, below_rises}
use Rattle.cross.proofs.PriceLists.{Before, before_both, nearest_of_any, nearest_of_before}
use Rattle.cross.proofs.ThreeSteps.{
  BuysServed,
  SellsServed,
  Within,
  Meets,
  candidates_within,
  candidates_meet,
  candidates_rise,
  candidates_some,
  at_candidate,
}

-- the tie-breaker with its half dropped, moved into the range
abbrev pub middle : (lowest highest twice : ℕ) → ℕ
middle lo hi t = max lo (min (t / 2) hi)

-- ---- the middle comes before each price of the range, and a price to one side of it before those further on

middle_before : (lo hi t r : ℕ) → lo ≤ r → r ≤ hi → Before t (middle lo hi t) r
middle_before lo hi t r l h =
    elim (cases_lt (distance t (middle lo hi t)) (distance t r)) [
      | inl n ↦ inl n
      | inr n ↦ inr (omega arith, omega arith)
    ]

above_before : (lo hi t p r : ℕ) → middle lo hi t < p → p ≤ hi → p ≤ r → Before t p r
above_before lo hi t p r m h o = elim (cases_lt p r) [ inl n ↦ inl (omega arith) | inr n ↦ inr (omega arith, o) ]

below_before : (lo hi t p r : ℕ) → p < middle lo hi t → lo ≤ p → r ≤ p → Before t p r
below_before lo hi t p r m l o = elim (cases_lt r p) [ inl n ↦ inl (omega arith) | inr n ↦ inr (omega arith, omega arith) ]

module _ (lo hi : ℕ) (os : List OrderTerms) where
  -- a price is the middle, or lies past it where the next towards it fails a test
  abbrev pub Reached : (twice p : ℕ) → Type 0
  Reached t p =
      (p ≡ middle lo hi t)
      ⊎ (((middle lo hi t < p) × (sold lo hi os (p - 1) < bought_above lo hi os (p - 1)))
      ⊎ ((p < middle lo hi t) × (bought lo hi os (p + 1) < sold_below lo hi os (p + 1))))

  -- where the first test fails it fails below too, and where the second fails it fails above
  not_below : (p r : ℕ) → sold lo hi os p < bought_above lo hi os p → BuysServed lo hi os r → p < r
  not_below p r f b =
      elim (cases_lt p r) [
        | inl h ↦ h
        | inr h ↦ omega (arith, sold_rises lo hi os r p h, above_falls lo hi os r p h)
      ]

  not_above : (p r : ℕ) → bought lo hi os p < sold_below lo hi os p → SellsServed lo hi os r → r < p
  not_above p r f s =
      elim (cases_lt r p) [
        | inl h ↦ h
        | inr h ↦ omega (arith, bought_falls lo hi os p r h, below_rises lo hi os p r h)
      ]

  reached_before : (t p r : ℕ) → lo ≤ p → p ≤ hi → Reached t p
      → lo ≤ r → r ≤ hi → BuysServed lo hi os r → SellsServed lo hi os r
      → Before t p r
  reached_before t p r l h (inl e) lr hr b s = rw e (middle_before lo hi t r lr hr)
  reached_before t p r l h (inr (inl f)) lr hr b s =
      above_before lo hi t p r f.0 h (omega (arith, not_below (p - 1) r f.1 b))
  reached_before t p r l h (inr (inr f)) lr hr b s =
      below_before lo hi t p r f.0 l (omega (arith, not_above (p + 1) r f.1 s))

  -- both come before the other: the clearing price is one that meets both tests, and so is this price
  pub clearing_price_is : (t p : ℕ) → lo ≤ hi
      → lo ≤ p → p ≤ hi → BuysServed lo hi os p → SellsServed lo hi os p → Reached t p
      → clearing_price lo hi t os ≡ p
  clearing_price_is t p o l h b s r =
      let cs = candidates lo hi os in
      let c = clearing_price lo hi t os in
      let some = candidates_some lo hi os o in
      let within = nearest_of_any (Within lo hi os) t cs some (candidates_within lo hi os) in
      let meets = nearest_of_any (Meets lo hi os) t cs some (candidates_meet lo hi os) in
      let first = nearest_of_before t cs (candidates_rise lo hi os) in
      before_both t c p
      (at_candidate lo hi os (Before t c) first p l h b s)
      (reached_before t p c l h r within.0 within.1 meets.0 meets.1)
