-- What a cross leaves of the auction book's shares.
use Rattle.std.specs.Prelude.{ℕ, ◌+◌, ◌-◌, ◌*◌, ◌<◌, ◌≤◌, cond, List, length, sum_by, nat_lt}
use Rattle.market.specs.declared.order.OrderTerms.{OrderTerms}
use Rattle.cross.specs.declared.allotment.Allotment.{Allotment}
use Rattle.cross.specs.Fills.{at_place, places}
use Rattle.auction.specs.declared.settlement.Settlement.{Settlement}

module _ (os : List OrderTerms) where
  -- the unfilled shares of the order at a place that end, since it does not stay, and those that are released
  abbrev pub ends : (place fill : ℕ) → ℕ
  ends i n = cond (at_place os i).stays 0 ((at_place os i).shares - n)

  abbrev pub releases : (place fill : ℕ) → ℕ
  releases i n = cond (at_place os i).stays ((at_place os i).shares - n) 0

  -- by a fill for each place of the book
  abbrev pub settled : (ℕ → ℕ) → Settlement
  settled fill = record {
    filled = sum_by fill (places os);
    ended = sum_by (λ i. ends i (fill i)) (places os);
    released = sum_by (λ i. releases i (fill i)) (places os);
  }

  -- by the records of an allotment list, of which those at later places are another book's
  abbrev pub if_here : (ℕ → ℕ → ℕ) → Allotment → ℕ
  if_here f r = cond (nat_lt r.place (length os)) (f r.place r.fill) 0

  abbrev pub settled_by : List Allotment → Settlement
  settled_by rs = record {
    filled = sum_by (if_here (λ i n. n)) rs;
    ended = sum_by (if_here ends) rs;
    released = sum_by (if_here releases) rs;
  }

  -- with one record more
  abbrev pub counted : Settlement → Allotment → Settlement
  counted s r = record {
    filled = s.filled + if_here (λ i n. n) r;
    ended = s.ended + if_here ends r;
    released = s.released + if_here releases r;
  }

  -- no fill is above its order's shares
  abbrev pub WithinShares : Allotment → Type 0
  WithinShares r = r.place < length os → r.fill ≤ (at_place os r.place).shares

-- sums of so many records at the most
abbrev pub Small : (records : ℕ) → Settlement → Type 0
Small n s = (s.filled ≤ 1000000 * n) × (s.ended ≤ 1000000 * n) × (s.released ≤ 1000000 * n)
