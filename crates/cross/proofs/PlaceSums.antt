-- Sums over the places of a list: what agrees at each place agrees in sum, a sum of sums, a part of a sum, and the
-- sum over the places of a list as the sum over the list.
use Rattle.std.proofs.Common.{◌≡◌, ℕ, zero, suc, ◌+◌, ◌-◌, ◌<◌, ◌≤◌, List, [], ◌∷◌, map, length, get_or, sum_by, sum, sym, refl, ap, ◌∙◌, arith}
use Rattle.std.proofs.lemmas.List.FromFn.{length-range_with_len, get_or-range_with_len, fill_by_all}
use Rattle.std.proofs.lemmas.List.{length-map, get_or-map}
use Rattle.std.proofs.lemmas.List.Sums.{sum_by-cons, sum-map, get_or-le-sum_by}
use Rattle.std.specs.List.{range_with_len}

pub same_sums : (f g : ℕ → ℕ) (a n : ℕ) → ((j : ℕ) → a ≤ j → f j ≡ g j)
    → sum_by f (range_with_len a n) ≡ sum_by g (range_with_len a n)
same_sums f g a zero h = refl
same_sums f g a (suc n) h =
    let rest = same_sums f g (a + 1) n (λ j l. h j (omega arith)) in
    rw (sum_by-cons f, sum_by-cons g) (omega (arith, h a (omega arith)))

pub sum_of_sums : {X : Type 0} (f g : X → ℕ) (xs : List X) → sum_by (λ x. f x + g x) xs ≡ sum_by f xs + sum_by g xs
sum_of_sums f g [] = refl
sum_of_sums f g (x ∷ xs) =
    rw (sum_by-cons (λ x. f x + g x) x xs, sum_by-cons f x xs, sum_by-cons g x xs) (omega (arith, sum_of_sums f g xs))

-- where two sums agree at each place with two others, so do the sums
pub same_pairs : (f g h k : ℕ → ℕ) (a n : ℕ) → ((j : ℕ) → a ≤ j → f j + g j ≡ h j + k j)
    → sum_by f (range_with_len a n) + sum_by g (range_with_len a n) ≡ sum_by h (range_with_len a n) + sum_by k (range_with_len a n)
same_pairs f g h k a n e =
    let ps = range_with_len a n in
    omega (arith, sum_of_sums f g ps, sum_of_sums h k ps, same_sums (λ j. f j + g j) (λ j. h j + k j) a n e)

-- what a sum has more than one that is nowhere larger
pub sum_of_rest : (f g : ℕ → ℕ) (a n : ℕ) → ((j : ℕ) → f j ≤ g j)
    → sum_by g (range_with_len a n) ≡ sum_by (λ j. g j - f j) (range_with_len a n) + sum_by f (range_with_len a n)
sum_of_rest f g a n h =
    let rest : ℕ → ℕ = λ j. g j - f j in
    same_sums g (λ j. rest j + f j) a n (λ j _. omega (arith, h j)) ∙ sum_of_sums rest f (range_with_len a n)

-- what it has more in all is no less than what it has more at any one place
pub more_at_place : (f g : ℕ → ℕ) (n i : ℕ) → i < n → ((j : ℕ) → f j ≤ g j)
    → sum_by f (range_with_len 0 n) + g i ≤ sum_by g (range_with_len 0 n) + f i
more_at_place f g n i l h =
    let ps = range_with_len 0 n in
    let rest : ℕ → ℕ = λ j. g j - f j in
    let there : get_or ps i 0 ≡ i = omega (arith, get_or-range_with_len 0 n i 0 l) in
    let one : rest i ≤ sum_by rest ps = rw there at (get_or-le-sum_by rest ps i 0 (omega (arith, length-range_with_len 0 n))) in
    omega (arith, sum_of_rest f g 0 n h)

-- over places and over the list
pub sum_over_list : {X : Type 0} (f : X → ℕ) (xs : List X) (d : X)
    → sum_by (λ i. f (get_or xs i d)) (range_with_len 0 (length xs)) ≡ sum_by f xs
sum_over_list f xs d =
    let f_at : ℕ → ℕ = λ i. f (get_or xs i d) in
    let each = fill_by_all f_at (map f xs) (length xs) 0 (length-map xs f) (λ k l. get_or-map f xs k d 0 l) in
    sym (sum-map f_at (range_with_len 0 (length xs))) ∙ sym (ap sum each) ∙ sum-map f xs
