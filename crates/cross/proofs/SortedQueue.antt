-- In a sorted queue of a side what stands before an order is what is ahead of it, so that shares given out along the
-- queue are the fills.
use Rattle.std.proofs.Common.{◌≡◌, ℕ, zero, suc, ◌+◌, ◌-◌, ◌*◌, ◌<◌, ◌≤◌, min, Bool, true, false, cond, ◌&&◌, eqb, List, [], ◌∷◌, ◌++◌, length, get_or, take, drop, sum_by, filter, sym, refl, ap, ◌∙◌, arith}
use Rattle.std.proofs.lemmas.List.Folds.{fold-map}
use Rattle.std.proofs.lemmas.List.Elements.{All-head, All-tail, Contains-get_or}
use Rattle.std.proofs.lemmas.List.{get_or_default, get_or-drop, get_or-map, get_or-take, length-drop, length-map, length-take-le}
use Rattle.std.proofs.lemmas.List.Sorted.{All-permutation, Contains-permutation, sorted_far, length_permutation, sum_by-IsPermutation}
use Rattle.std.proofs.lemmas.List.Sums.{get_or-le-sum_by, sum_by-le, sum_by-cons, sum_by-drop_more, sum_by-take-drop}
use Rattle.std.proofs.lemmas.Bool.{false≢true}
use Rattle.std.proofs.lemmas.Bool.Decides.{nat_tests}
use Rattle.std.specs.List.{All, Contains, range_with_len}
use Rattle.std.specs.List.Sorted.{IsPermutation, IsSortedBy}
use Rattle.market.specs.declared.order.Side.{Side}
use Rattle.market.specs.declared.order.Side.TheVariants.{Buy, Sell}
use Rattle.market.specs.declared.order.OrderTerms.{OrderTerms}
use Rattle.cross.specs.declared.allotment.Allotment.{Allotment}
use Rattle.cross.specs.declared.queue.Queued.{Queued}
use Rattle.cross.specs.Allotments.{allotment, side_allotments, side_count, side_places}
use Rattle.cross.specs.Depth.{buys, sells}
use Rattle.cross.specs.Fills.{ahead, at_place, fill, shares_ahead, willing}
use Rattle.cross.specs.Queues.{Queue, asks, given_out, stands_before}
use Rattle.cross.specs.Rankings.{Laws, same_side}
use Rattle.cross.proofs.FillSums.{before_on_side, same_side_both, same_side_is}
use Rattle.cross.proofs.GivingOut.{given_records, right_from}
use Rattle.cross.proofs.PlaceSums.{same_sums, sum_of_rest}
use Rattle.cross.proofs.Queueing.{OfSide as Mine, as_many, place_is, slot_is}
use Rattle.cross.specs.QueueOrder.{either, ranked}
use Rattle.std.specs.Cmp.{IsStrictWeakOrder}

-- ---- sums

sums_agree : {X : Type 0} (f g : X → ℕ) (xs : List X) → All (λ x. f x ≡ g x) xs → sum_by f xs ≡ sum_by g xs
sums_agree f g [] a = refl
sums_agree f g (x ∷ xs) a =
    rw (sum_by-cons f x xs, sum_by-cons g x xs)
    (omega (arith, All-head (λ x. f x ≡ g x) x xs a, sums_agree f g xs (All-tail (λ x. f x ≡ g x) x xs a)))

sum_kept : {X : Type 0} (test : X → Bool) (f : X → ℕ) (xs : List X) → sum_by f (filter test xs) ≡ sum_by (λ x. cond (test x) (f x) 0) xs
sum_kept test f [] = refl
sum_kept test f (x ∷ xs) =
    let rest = sum_kept test f xs in
    let taken = sum_by-cons f x (filter test xs) in
    let both = sum_by-cons (λ x. cond (test x) (f x) 0) x xs in
    grind arith

-- two elements of a list
two_in_sum : {X : Type 0} (f : X → ℕ) (xs : List X) (i j : ℕ) (d : X) → i < j → j < length xs → f (get_or xs i d) + f (get_or xs j d) ≤ sum_by f xs
two_in_sum f xs i j d l h =
    let first = get_or-le-sum_by f (take j xs) i d (omega (arith, length-take-le j xs (omega arith))) in
    let there : f (get_or xs i d) ≤ sum_by f (take j xs) = rw (sym (get_or-take j xs i d l)) first in
    omega (arith, there, sum_by-take-drop f xs j, sum_by-drop_more f xs j d h)

-- a place stands once among the places
abbrev is_place : ℕ → ℕ → ℕ
is_place p i = cond (eqb i p) 1 0

none_past : (p a n : ℕ) → p < a → sum_by (is_place p) (range_with_len a n) ≡ 0
none_past p a zero h = refl
none_past p a (suc n) h =
    let rest = none_past p (a + 1) n (omega arith) in
    let more = sum_by-cons (is_place p) a (range_with_len (a + 1) n) in
    grind (arith, nat_tests)

once : (p a n : ℕ) → sum_by (is_place p) (range_with_len a n) ≤ 1
once p a zero = omega arith
once p a (suc n) =
    let rest = once p (a + 1) n in
    let past = none_past p (a + 1) n in
    let more = sum_by-cons (is_place p) a (range_with_len (a + 1) n) in
    grind (arith, nat_tests)

apart_sides : (s t : Side) → same_side s t ≡ true → (buys s && sells t) ≡ false
apart_sides Buy Buy e = refl
apart_sides Buy Sell e = absurd (false≢true e)
apart_sides Sell Buy e = refl
apart_sides Sell Sell e = refl

-- which of two stands before the other
abbrev pub earlier : (OrderTerms → OrderTerms → Bool) → Queued → Queued → Bool
earlier good x y = stands_before good x.order.terms x.place y.order.terms y.place

pub earlier_ranks : (good : OrderTerms → OrderTerms → Bool) → Laws good → IsStrictWeakOrder (earlier good)
earlier_ranks good laws = ranked good laws (λ q. q.order.terms) (λ q. q.place)

module _ (good : OrderTerms → OrderTerms → Bool) (laws : Laws good) (side : Side) (os : List OrderTerms) where
  abbrev n : ℕ
  n = length os

  abbrev OfSide : Queued → Type 0
  OfSide = Mine side os

  ahead_earlier : (x y : Queued) → OfSide x → OfSide y → ahead good os x.place y.place ≡ earlier good x y
  ahead_earlier x y a b =
      let sides = apart_sides x.order.terms.side y.order.terms.side (same_side_both side _ _ a.1 b.1) in
      rw (sym a.0, sym b.0, sides) refl

  module _ (lo hi p : ℕ) where
    abbrev asked : Queued → ℕ
    asked q = asks lo hi p q.order.terms

    -- the queue, and what a sort made of it
    module _ (queue qs : List Queued) (of : Queue side os n queue) (moved : IsPermutation queue qs)
        (up : IsSortedBy (earlier good) qs) where
      orders : All OfSide qs
      orders = All-permutation OfSide queue qs moved of.orders

      long : length qs ≡ length queue
      long = length_permutation queue qs moved

      -- a sum by place
      sum_by_place : (f : ℕ → ℕ) → sum_by (λ q. f q.place) qs ≡ sum_by (λ i. cond (same_side side (at_place os i).side) (f i) 0) (range_with_len 0 n)
      sum_by_place f =
          sum_by-IsPermutation (λ q. f q.place) queue qs moved
          ∙ (sym (fold-map (λ n i. n + f i) (λ (q : Queued). q.place) 0 queue) ∙ (ap (sum_by f) of.places ∙ sum_kept (λ i. same_side side (at_place os i).side) f (range_with_len 0 n)))

      apart : (i j : ℕ) (d : Queued) → i < j → j < length qs → (get_or qs i d).place ≡ (get_or qs j d).place → ⊥
      apart i j d l h e =
          let t = (get_or qs j d).place in
          let mine : ℕ → ℕ = λ i. cond (same_side side (at_place os i).side) (is_place t i) 0 in
          let fewer = sum_of_rest mine (is_place t) 0 n (λ i. grind arith) in
          let here : is_place t t ≡ 1 = grind (arith, nat_tests) in
          let there : is_place t (get_or qs i d).place ≡ 1 = rw e here in
          omega (arith, two_in_sum (λ q. is_place t q.place) qs i j d l h, sum_by_place (is_place t), fewer, once t 0 n, here, there)

      not_later : (i j : ℕ) (d : Queued) → i ≤ j → j < length qs → earlier good (get_or qs j d) (get_or qs i d) ≡ false
      not_later i j d l h = sorted_far (earlier good) (earlier_ranks good laws) qs up i j d l h

      of_side : (i : ℕ) (d : Queued) → i < length qs → OfSide (get_or qs i d)
      of_side i d h = orders i d h

      sooner : (i j : ℕ) (d : Queued) → i < j → j < length qs → earlier good (get_or qs i d) (get_or qs j d) ≡ true
      sooner i j d l h =
          let x = get_or qs i d in
          let y = get_or qs j d in
          either good laws y.order.terms x.order.terms y.place x.place (λ e. apart i j d l h (sym e)) (not_later i j d (omega arith) h)

      -- ---- the shares ahead

      -- what one order adds to the shares ahead of another
      abbrev adds : Queued → Queued → ℕ
      adds q x = cond (willing lo hi p (at_place os x.place) && ahead good os x.place q.place) (at_place os x.place).shares 0

      adds_none : (q x : Queued) → OfSide q → OfSide x → earlier good x q ≡ false → adds q x ≤ 0
      adds_none q x a b e = let same = ahead_earlier x q b a ∙ e in grind arith

      adds_all : (q x : Queued) → OfSide q → OfSide x → earlier good x q ≡ true → adds q x ≡ asked x
      adds_all q x a b e =
          let same = ahead_earlier x q b a ∙ e in
          rw b.0 (grind arith)

      ahead_in_queue : (j : ℕ) (d : Queued) → j < length qs → shares_ahead lo hi good os p (get_or qs j d).place ≡ sum_by (adds (get_or qs j d)) qs
      ahead_in_queue j d h =
          let q = get_or qs j d in
          let mine = of_side j d h in
          let on_side : same_side side (at_place os q.place).side ≡ true = rw mine.0 at mine.1 in
          same_sums _ _ 0 n (λ i _.
          let one = before_on_side lo hi good laws os i q.place in
          let own : ahead good os i q.place ≡ true → same_side side (at_place os i).side ≡ true
          = λ a. rw (same_side_is (at_place os i).side (at_place os q.place).side (one a)) on_side in
          grind arith)
          ∙ sym (sum_by_place (λ i. cond (willing lo hi p (at_place os i) && ahead good os i q.place) (at_place os i).shares 0))

      ahead_sum : (j : ℕ) (d : Queued) → j < length qs → shares_ahead lo hi good os p (get_or qs j d).place ≡ sum_by asked (take j qs)
      ahead_sum j d h =
          let q = get_or qs j d in
          let mine = of_side j d h in
          let first : sum_by (adds q) (take j qs) ≡ sum_by asked (take j qs)
          = sums_agree (adds q) asked (take j qs) (λ k e w.
          let l : k < j = omega (arith, length-take-le j qs (omega arith)) in
          rw (get_or-take j qs k e l) (rw (get_or_default qs k e d (omega arith)) (adds_all q (get_or qs k d) mine (of_side k d (omega arith)) (sooner k j d l h)))) in
          let rest : sum_by (adds q) (drop j qs) ≤ length (drop j qs) * 0
          = sum_by-le (adds q) 0 (drop j qs) (λ k e w.
          let l : j + k < length qs = omega (arith, length-drop j qs) in
          rw (get_or-drop j qs k e) (rw (get_or_default qs (j + k) e d l) (adds_none q (get_or qs (j + k) d) mine (of_side (j + k) d l) (not_later j (j + k) d (omega arith) l)))) in
          ahead_in_queue j d h ∙ omega (arith, sum_by-take-drop (adds q) qs j, first, rest)

      module _ (e : ℕ) where
        abbrev rule : ℕ → ℕ
        rule = fill lo hi good os p e

        abbrev records : List Allotment
        records = side_allotments side os rule n

        gets_fill : (j : ℕ) (d : Queued) → j < length qs → min (asked (get_or qs j d)) (e - sum_by asked (take j qs)) ≡ rule (get_or qs j d).place
        gets_fill j d h =
            let mine = of_side j d h in
            rw (sym (ahead_sum j d h), mine.0) (grind arith)

        -- each order of the queue has a record of its own
        many : side_count side os ≡ length queue
        many = as_many side os n queue of

        own_slot : (k : ℕ) (d : Queued) → k < length queue → (get_or queue k d).slot ≡ k
        own_slot = slot_is side os n queue of

        long_records : length records ≡ length queue
        long_records = length-map (side_places side os n) (allotment rule) ∙ many

        abbrev Owns : Allotment → Queued → Type 0
        Owns a q = (q.slot < length records) × (allotment rule q.place ≡ get_or records q.slot a)

        owns : (a : Allotment) → All (Owns a) queue
        owns a k d h = (
          omega (arith, own_slot k d h, long_records),
          ap (allotment rule) (place_is side os n queue of k d h)
              ∙ (sym (get_or-map (allotment rule) (side_places side os n) k 0 a (omega (arith, many)))
              ∙ ap (λ i. get_or records i a) (sym (own_slot k d h))),
        )

        some_of : (xs : List Queued) (i : ℕ) → i < length xs → Queued
        some_of [] i h = absurd (omega arith)
        some_of (x ∷ xs) i h = x

        each_slot : (i : ℕ) → i < length records → (q : Queued) × Contains qs q × (q.slot ≡ i)
        each_slot i h =
            let l : i < length queue = omega (arith, long_records) in
            let d = some_of queue i l in
            (get_or queue i d, Contains-permutation queue qs (get_or queue i d) moved (Contains-get_or queue i d l), own_slot i d l)

        pub fills_given : (list : List Allotment) → side_count side os ≤ length list
            → given_out (asks lo hi p) qs e list ≡ records ++ drop (side_count side os) list
        fills_given list h =
            let none : Allotment = record { place = 0; fill = 0 } in
            given_records (asks lo hi p) rule records none qs e list
            (right_from (asks lo hi p) rule qs e gets_fill)
            (All-permutation (Owns none) queue qs moved (owns none))
            (omega (arith, long_records, many))
            each_slot
            ∙ ap (λ m. records ++ drop m list) (long_records ∙ sym many)
