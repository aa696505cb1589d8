-- The records of a cross of the whole book settle the auction book as its fills do.
use Rattle.std.proofs.Common.{◌≡◌, ℕ, zero, suc, ◌+◌, ◌<◌, ◌≤◌, Bool, true, false, cond, ltb, List, [], ◌∷◌, ◌++◌, map, length, get_or, fold, sum_by, filter, sym, refl, ap, ◌∙◌, subst, arith}
use Rattle.std.proofs.ByRecursion.{All-append, All-from_get_or, All-map}
use Rattle.std.proofs.lemmas.List.{get_or_append_left, get_or-take}
use Rattle.std.proofs.lemmas.List.Sums.{sum_by-append, sum_by-cons}
use Rattle.std.proofs.lemmas.Bool.{cond-false, cond-true, le-ltb, lt-ltb}
use Rattle.std.specs.List.{range_with_len, AllByRecursion as All}
use Rattle.market.specs.declared.order.Side.{Side}
use Rattle.market.specs.declared.order.Side.TheVariants.{Buy, Sell}
use Rattle.market.specs.declared.order.OrderTerms.{OrderTerms}
use Rattle.book.specs.Lists.{joined, most_orders}
use Rattle.book.proofs.Joining.{length_joined}
use Rattle.cross.specs.declared.allotment.Allotment.{Allotment}
use Rattle.cross.specs.Allotments.{allotment, allotments, side_allotments, side_places}
use Rattle.cross.specs.Fills.{at_place, no_order, places}
use Rattle.cross.specs.Rankings.{same_side}
use Rattle.cross.proofs.PlaceSums.{same_sums, sum_of_sums}
use Rattle.auction.specs.Settling.{WithinShares, ends, if_here, releases, settled, settled_by}

-- ---- sums over what a test keeps, over a map, over the first places

sum_kept : (p : ℕ → Bool) (h : ℕ → ℕ) (xs : List ℕ) → sum_by h (filter p xs) ≡ sum_by (λ x. cond (p x) (h x) 0) xs
sum_kept p h [] = refl
sum_kept p h (x ∷ xs) =
    let whole : ℕ → ℕ = λ y. cond (p y) (h y) 0 in
    let one : (b : Bool) → sum_by h (cond b (x ∷ filter p xs) (filter p xs)) ≡ cond b (h x) 0 + sum_by whole xs
    = λ b. elim b as (λ v. sum_by h (cond v (x ∷ filter p xs) (filter p xs)) ≡ cond v (h x) 0 + sum_by whole xs) [
      | true ↦ sum_by-cons h x (filter p xs) ∙ ap (λ n. h x + n) (sum_kept p h xs)
      | false ↦ omega (arith, sum_kept p h xs)
    ] in
    one (p x) ∙ sym (sum_by-cons whole x xs)

fold_mapped : (h : Allotment → ℕ) (f : ℕ → Allotment) (n : ℕ) (xs : List ℕ) → fold (λ a r. a + h r) n (map f xs) ≡ fold (λ a x. a + h (f x)) n xs
fold_mapped h f n [] = refl
fold_mapped h f n (x ∷ xs) = fold_mapped h f (n + h (f x)) xs

sum_none : (g : ℕ → ℕ) (a n : ℕ) → ((j : ℕ) → a ≤ j → g j ≡ 0) → sum_by g (range_with_len a n) ≡ 0
sum_none g a zero h = refl
sum_none g a (suc n) h = sum_by-cons g a (range_with_len (a + 1) n) ∙ omega (arith, h a (omega arith), sum_none g (a + 1) n (λ j l. h j (omega arith)))

-- what counts only before b, of the places from a on
sum_front : (f : ℕ → ℕ) (b a n m : ℕ) → b ≡ a + n → n ≤ m → sum_by (λ i. cond (ltb i b) (f i) 0) (range_with_len a m) ≡ sum_by f (range_with_len a n)
sum_front f b a zero m e l =
    sum_none (λ i. cond (ltb i b) (f i) 0) a m (λ j h. cond-false (ltb j b) (f j) 0 (le-ltb j b (omega (arith, e))))
sum_front f b a (suc n) zero e l = absurd (omega arith)
sum_front f b a (suc n) (suc m) e l =
    let counts : ℕ → ℕ = λ i. cond (ltb i b) (f i) 0 in
    let rest = sum_front f b (a + 1) n m (omega (arith, e)) (omega arith) in
    let here : counts a ≡ f a = cond-true (ltb a b) (f a) 0 (lt-ltb a b (omega (arith, e))) in
    sum_by-cons counts a (range_with_len (a + 1) m) ∙ (omega (arith, here, rest) ∙ sym (sum_by-cons f a (range_with_len (a + 1) n)))

-- ---- the records of an allotment list

side_sum : (h : Allotment → ℕ) (side : Side) (os : List OrderTerms) (fill : ℕ → ℕ)
    → sum_by h (side_allotments side os fill (length os)) ≡ sum_by (λ i. cond (same_side side (at_place os i).side) (h (allotment fill i)) 0) (places os)
side_sum h side os fill =
    fold_mapped h (allotment fill) 0 (side_places side os (length os))
    ∙ sum_kept (λ i. same_side side (at_place os i).side) (λ i. h (allotment fill i)) (places os)

one_side : (s : Side) (n : ℕ) → cond (same_side Buy s) n 0 + cond (same_side Sell s) n 0 ≡ n
one_side Buy n = omega arith
one_side Sell n = omega arith

-- over the records, and over the places
records_sum : (h : Allotment → ℕ) (os : List OrderTerms) (fill : ℕ → ℕ) → sum_by h (allotments os fill) ≡ sum_by (λ i. h (allotment fill i)) (places os)
records_sum h os fill =
    let n = length os in
    let buys : ℕ → ℕ = λ i. cond (same_side Buy (at_place os i).side) (h (allotment fill i)) 0 in
    let sells : ℕ → ℕ = λ i. cond (same_side Sell (at_place os i).side) (h (allotment fill i)) 0 in
    let all : ℕ → ℕ = λ i. h (allotment fill i) in
    let both = same_sums (λ i. buys i + sells i) all 0 n (λ j _. one_side (at_place os j).side (all j)) in
    omega (arith, sum_by-append h (side_allotments Buy os fill n) (side_allotments Sell os fill n), side_sum h Buy os fill, side_sum h Sell os fill, sum_of_sums buys sells (places os), both)

module _ (os filed : List OrderTerms) (fill : ℕ → ℕ) (few : length os ≤ most_orders) where
  room : length os ≤ length (joined os filed)
  room = omega (arith, length_joined os filed)

  -- of the records of the whole book, those at the places of the first count
  first_sum : (f : ℕ → ℕ → ℕ) → sum_by (if_here os f) (allotments (joined os filed) fill) ≡ sum_by (λ i. f i (fill i)) (places os)
  first_sum f =
      records_sum (if_here os f) (joined os filed) fill
      ∙ sum_front (λ i. f i (fill i)) (length os) 0 (length os) (length (joined os filed)) (omega arith) room

  pub settled_of_records : settled_by os (allotments (joined os filed) fill) ≡ settled os fill
  settled_of_records =
      λ i. record { filled = first_sum (λ i n. n) i; ended = first_sum (ends os) i; released = first_sum (releases os) i }

  -- at the places of the first book the whole book has its orders
  pub at_first : (i : ℕ) → i < length os → at_place (joined os filed) i ≡ at_place os i
  at_first i h = get_or-take most_orders (os ++ filed) i no_order (omega arith) ∙ get_or_append_left os filed no_order i h

  pub records_within : ((i : ℕ) → i < length (joined os filed) → fill i ≤ (at_place (joined os filed) i).shares) → All (WithinShares os) (allotments (joined os filed) fill)
  records_within w =
      let n = length (joined os filed) in
      let each : (i : ℕ) → WithinShares os (allotment fill i)
      = λ i h. subst (λ (o : OrderTerms). fill i ≤ o.shares) (at_first i h) (w i (omega (arith, room))) in
      let of_places : (ps : List ℕ) → All (λ i. WithinShares os (allotment fill i)) ps
      = λ ps. All-from_get_or (λ i. WithinShares os (allotment fill i)) ps 0 (λ k _. each (get_or ps k 0)) in
      All-append (WithinShares os) (side_allotments Buy (joined os filed) fill n) (side_allotments Sell (joined os filed) fill n)
      (All-map (WithinShares os) (allotment fill) (side_places Buy (joined os filed) n) (of_places (side_places Buy (joined os filed) n)))
      (All-map (WithinShares os) (allotment fill) (side_places Sell (joined os filed) n) (of_places (side_places Sell (joined os filed) n)))
