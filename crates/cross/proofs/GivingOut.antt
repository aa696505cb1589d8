-- Shares given out along a queue: where each order gets what a rule says, and each record is one of the queue's, the
-- list holds the records of the rule.
use Rattle.std.proofs.Common.{◌≡◌, ℕ, suc, ◌-◌, ◌<◌, ◌≤◌, min, List, [], ◌∷◌, ◌++◌, length, get_or, take, drop, set, sum_by, sym, refl, ap, ◌∙◌, inl, inr, arith}
use Rattle.std.proofs.lemmas.List.Elements.{All-contains, All-cons, All-head, All-nil, All-tail, All-weaker}
use Rattle.std.proofs.lemmas.List.{drop-set-lt, ext_get_or, get_or-set_other, get_or-set_same, get_or-take, length-set, length-take-le, take-append-drop}
use Rattle.std.proofs.lemmas.List.Sums.{sum_by-cons}
use Rattle.std.proofs.lemmas.Bool.{cases_eq}
use Rattle.std.specs.List.{All, Contains}
use Rattle.market.specs.declared.order.OrderTerms.{OrderTerms}
use Rattle.cross.specs.declared.allotment.Allotment.{Allotment}
use Rattle.cross.specs.declared.queue.Queued.{Queued}
use Rattle.cross.specs.Allotments.{allotment}
use Rattle.cross.specs.Queues.{given_out}

module _ (ask : OrderTerms → ℕ) where
  abbrev asked : Queued → ℕ
  asked q = ask q.order.terms

  abbrev out : List Queued → ℕ → List Allotment → List Allotment
  out = given_out ask

  -- the list keeps its length, and what lies past the records
  pub length_out : (qs : List Queued) (e : ℕ) (l : List Allotment) → length (out qs e l) ≡ length l
  length_out [] e l = refl
  length_out (q ∷ qs) e l = length_out qs (e - asked q) _ ∙ length-set l q.slot _

  pub drop_out : (m : ℕ) (qs : List Queued) (e : ℕ) (l : List Allotment) → All (λ q. q.slot < m) qs → drop m (out qs e l) ≡ drop m l
  drop_out m [] e l a = refl
  drop_out m (q ∷ qs) e l a =
      drop_out m qs (e - asked q) _ (All-tail (λ q. q.slot < m) q qs a) ∙ drop-set-lt m l q.slot _ (All-head (λ q. q.slot < m) q qs a)

  module _ (fill : ℕ → ℕ) where
    -- each gets what the rule says
    abbrev pub Right : List Queued → ℕ → Type 0
    Right [] e = Unit {0}
    Right (q ∷ qs) e = (min (asked q) e ≡ fill q.place) × Right qs (e - asked q)

    pub right_from : (qs : List Queued) (e : ℕ)
        → ((j : ℕ) (d : Queued) → j < length qs → min (asked (get_or qs j d)) (e - sum_by asked (take j qs)) ≡ fill ((get_or qs j d).place))
        → Right qs e
    right_from [] e h = tt
    right_from (q ∷ qs) e h = (
      let first = h 0 q (omega arith) in omega arith,
      right_from qs (e - asked q) (λ j d l.
          let next = h (suc j) d (omega arith) in
          let more = sum_by-cons asked q (take j qs) in
          omega arith),
    )

    -- ---- the records

    module _ (records : List Allotment) (d : Allotment) where
      abbrev Own : Queued → Type 0
      Own q = (q.slot < length records) × (allotment fill q.place ≡ get_or records q.slot d)

      -- what the turn of one order writes
      abbrev turn : Queued → ℕ → List Allotment → List Allotment
      turn q e l = set l q.slot (record { place = q.place; fill = min (asked q) e })

      own_written : (q : Queued) (e : ℕ) (l : List Allotment) → min (asked q) e ≡ fill q.place → Own q → length records ≤ length l
          → get_or (turn q e l) q.slot d ≡ get_or records q.slot d
      own_written q e l r o h =
          get_or-set_same l q.slot _ d (omega arith) ∙ (ap (λ n. record { place = q.place; fill = n }) r ∙ o.1)

      turn_keeps : (q : Queued) (e i : ℕ) (l : List Allotment) → min (asked q) e ≡ fill q.place → Own q → length records ≤ length l
          → get_or l i d ≡ get_or records i d → get_or (turn q e l) i d ≡ get_or records i d
      turn_keeps q e i l r o h w =
          elim (cases_eq i q.slot) [
            | inl same ↦ rw same (own_written q e l r o h)
            | inr apart ↦ get_or-set_other l q.slot i _ d apart ∙ w
          ]

      long_turn : (q : Queued) (e : ℕ) (l : List Allotment) → length records ≤ length l → length records ≤ length (turn q e l)
      long_turn q e l h = rw length-set h

      -- a record once written stays
      stays : (qs : List Queued) (e i : ℕ) (l : List Allotment) → Right qs e → All Own qs → length records ≤ length l
          → get_or l i d ≡ get_or records i d → get_or (out qs e l) i d ≡ get_or records i d
      stays [] e i l r o h w = w
      stays (q ∷ qs) e i l r o h w =
          stays qs (e - asked q) i (turn q e l) r.1 (All-tail Own q qs o) (long_turn q e l h) (turn_keeps q e i l r.0 (All-head Own q qs o) h w)

      -- the record of an order is the one that it owns
      abbrev Rightly : List Allotment → Queued → Type 0
      Rightly l q = get_or l q.slot d ≡ get_or records q.slot d

      each_written : (qs : List Queued) (e : ℕ) (l : List Allotment) → Right qs e → All Own qs → length records ≤ length l
          → All (Rightly (out qs e l)) qs
      each_written [] e l r o h = All-nil (Rightly l)
      each_written (q ∷ qs) e l r o h =
          let rest = All-tail Own q qs o in
          All-cons (Rightly (out (q ∷ qs) e l)) q qs
          (stays qs (e - asked q) q.slot (turn q e l) r.1 rest (long_turn q e l h) (own_written q e l r.0 (All-head Own q qs o) h))
          (each_written qs (e - asked q) (turn q e l) r.1 rest (long_turn q e l h))

      slots_below : (qs : List Queued) → All Own qs → All (λ q. q.slot < length records) qs
      slots_below qs o = All-weaker Own (λ q. q.slot < length records) (λ q own. own.0) qs o

      pub given_records : (qs : List Queued) (e : ℕ) (l : List Allotment) → Right qs e → All Own qs → length records ≤ length l
          → ((i : ℕ) → i < length records → (q : Queued) × Contains qs q × (q.slot ≡ i))
          → out qs e l ≡ records ++ drop (length records) l
      given_records qs e l r o h each =
          let m = length records in
          let after = out qs e l in
          let long : m ≤ length after = omega (arith, length_out qs e l) in
          let at : (i : ℕ) → i < m → get_or after i d ≡ get_or records i d
          = λ i w. let own = each i w in
          rw (sym own.2) (All-contains (Rightly after) qs own.0 (each_written qs e l r o h) own.1) in
          let front : take m after ≡ records
          = ext_get_or d (take m after) records (length-take-le m after long) (λ i w.
          let in_front : i < m = omega (arith, length-take-le m after long) in
          get_or-take m after i d in_front ∙ at i in_front) in
          sym (take-append-drop m after) ∙ (ap (λ xs. xs ++ drop m after) front ∙ ap (λ xs. records ++ xs) (drop_out m qs e l (slots_below qs o)))
