-- The places and the records of a side: how many there are, writing them a place at a time, and how the two sides make up the list.
use Rattle.std.proofs.Common.{◌≡◌, ℕ, ◌+◌, ◌-◌, ◌≤◌, Bool, true, false, cond, not, List, [], ◌∷◌, ◌++◌, length, take, drop, filter, sym, refl, ap, ◌∙◌, arith}
use borrow.Rule.Slice.PartMut.{put_mid}
use Rattle.std.proofs.lemmas.List.FromFn.{length-range_with_len, map-range_with_len_more}
use Rattle.std.proofs.lemmas.List.Elements.{filter-append}
use Rattle.std.proofs.lemmas.List.Filters.{length-filter_both}
use Rattle.std.proofs.lemmas.List.{append-nil, drop_all, drop_at, drop-drop, length-append, length-drop, length-map, map-id, take_all, take_at, take_rest, append_assoc}
use Rattle.std.specs.List.{range_with_len}
use Rattle.market.specs.declared.order.Side.{Side}
use Rattle.market.specs.declared.order.Side.TheVariants.{Buy, Sell}
use Rattle.market.specs.declared.order.OrderTerms.{OrderTerms}
use Rattle.cross.specs.declared.allotment.Allotment.{Allotment}
use Rattle.cross.specs.Allotments.{allotment, allotments, allotted, side_allotments, side_count, side_places}
use Rattle.cross.specs.Fills.{at_place}
use Rattle.cross.specs.Rankings.{same_side}

pub counting_more : (k : ℕ) → range_with_len 0 (k + 1) ≡ range_with_len 0 k ++ k ∷ []
counting_more k =
    sym (map-id (range_with_len 0 (k + 1))) ∙ (map-range_with_len_more (λ (i : ℕ). i) 0 k k (omega arith) ∙ ap (λ xs. xs ++ k ∷ []) (map-id (range_with_len 0 k)))

module _ (side : Side) (os : List OrderTerms) where
  abbrev mine : ℕ → Bool
  mine i = same_side side (at_place os i).side

  places_more : (k : ℕ) → side_places side os (k + 1) ≡ side_places side os k ++ cond (mine k) (k ∷ []) []
  places_more k = ap (filter mine) (counting_more k) ∙ filter-append mine (range_with_len 0 k) (k ∷ [])

  pub places_took : (k : ℕ) → mine k ≡ true → side_places side os (k + 1) ≡ side_places side os k ++ k ∷ []
  places_took k e = places_more k ∙ ap (λ b. side_places side os k ++ cond b (k ∷ []) []) e

  pub places_left : (k : ℕ) → mine k ≡ false → side_places side os (k + 1) ≡ side_places side os k
  places_left k e = places_more k ∙ (ap (λ b. side_places side os k ++ cond b (k ∷ []) []) e ∙ append-nil (side_places side os k))

  pub places_within : (k : ℕ) → length (side_places side os k) ≤ k
  places_within k = omega (arith, length-filter_both mine (λ i. not (mine i)) (λ _. refl) (range_with_len 0 k), length-range_with_len 0 k)

  pub took_length : (k : ℕ) → mine k ≡ true → length (side_places side os (k + 1)) ≡ length (side_places side os k) + 1
  took_length k e = ap length (places_took k e) ∙ length-append (side_places side os k) (k ∷ [])

  module _ (fill : ℕ → ℕ) where
    pub length_allotments : (k : ℕ) → length (side_allotments side os fill k) ≡ length (side_places side os k)
    length_allotments k = length-map (side_places side os k) (allotment fill)

not_buy : (s : Side) → same_side Sell s ≡ not (same_side Buy s)
not_buy Buy = refl
not_buy Sell = refl

-- every place is of one side
pub sides_all : (os : List OrderTerms) → length (side_places Buy os (length os)) + length (side_places Sell os (length os)) ≡ length os
sides_all os =
    length-filter_both (λ i. same_side Buy (at_place os i).side) (λ i. same_side Sell (at_place os i).side) (λ i. not_buy (at_place os i).side) (range_with_len 0 (length os))
    ∙ length-range_with_len 0 (length os)

-- there is one record for each order
pub length_all : (os : List OrderTerms) (fill : ℕ → ℕ) → length (allotments os fill) ≡ length os
length_all os fill =
    let buys = side_allotments Buy os fill (length os) in
    let sells = side_allotments Sell os fill (length os) in
    omega (arith, length-append buys sells, length_allotments Buy os fill (length os), length_allotments Sell os fill (length os), sides_all os)

-- the first records of the list are those of the orders, and it has room for them
pub first_records : (os : List OrderTerms) (fill : ℕ → ℕ) (after before : List Allotment) (n : ℕ) → n ≡ length os → after ≡ allotted os fill before
    → take n after ≡ allotments os fill
first_records os fill after before n e w =
    ap (take n) w ∙ take_at (allotments os fill) (drop (length os) before) n (omega (arith, length_all os fill, e))

pub records_fit : (os : List OrderTerms) (fill : ℕ → ℕ) (after before : List Allotment) → after ≡ allotted os fill before → length os ≤ length after
records_fit os fill after before w =
    omega (arith, ap length w, length-append (allotments os fill) (drop (length os) before), length_all os fill)

-- what a list holds once its rear part was lent, and written at its front
pub rear_written : {X : Type 0} (front rear l w part : List X) (n k m : ℕ) → length front ≡ n → w ≡ front ++ drop n l → k ≡ length w - n
    → part ≡ rear ++ drop m (take k (drop n w)) → put_mid n k w part ≡ front ++ (rear ++ drop (n + m) l)
rear_written front rear l w part n k m e w_is k_is part_is =
    let a : take n w ≡ front = ap (take n) w_is ∙ take_at front (drop n l) n e in
    let b : drop n w ≡ drop n l = ap (drop n) w_is ∙ drop_at front (drop n l) n e in
    let long : length (drop n w) ≤ k = simp length-drop (omega arith) in
    let len : length (drop n l) ≤ k = omega (arith, ap length b) in
    let t : take k (drop n l) ≡ drop n l = take_all k (drop n l) len in
    let z : drop k (drop n l) ≡ [] = drop_all k (drop n l) len in
    let d : drop m (drop n l) ≡ drop (n + m) l = drop-drop m n l in
    simp (a, part_is, b, t, z, d, append-nil)

-- the sells, written at the front of the rear part, make the list whole
pub both_written : (os : List OrderTerms) (fill : ℕ → ℕ) (l w part : List Allotment) (n m : ℕ) → n ≡ side_count Buy os → m ≡ side_count Sell os
    → w ≡ side_allotments Buy os fill (length os) ++ drop n l
    → part ≡ side_allotments Sell os fill (length os) ++ drop m (take (length w - n) (drop n w))
    → put_mid n (length w - n) w part ≡ allotted os fill l
both_written os fill l w part n m buys sells w_is part_is =
    let front = side_allotments Buy os fill (length os) in
    let rear = side_allotments Sell os fill (length os) in
    rear_written front rear l w part n (length w - n) m (length_allotments Buy os fill (length os) ∙ sym buys) w_is refl part_is
    ∙ (ap (λ k. front ++ (rear ++ drop k l)) (omega (arith, sides_all os, buys, sells)) ∙ sym (append_assoc front rear (drop (length os) l)))

-- and they have room there
pub sells_fit : (os : List OrderTerms) (l : List Allotment) (n : ℕ) → n ≡ side_count Buy os → length os ≤ length l
    → side_count Sell os ≤ length (take (length l - n) (drop n l))
sells_fit os l n buys h = rw (take_rest l n) (omega (arith, length-drop n l, sides_all os, buys))
