-- Pairs of digits, cut off two by two.
use Rattle.std.proofs.Common.{◌≡◌, ℕ, suc, ◌/◌, ◌%◌, ◌≤◌, List, [], ◌∷◌, length, get_or, Option, Some, None, Result, Ok, Err, IfErr, refl, ap, ◌∙◌, arith}
use Rattle.std.specs.Option.{option_and_then}
use Rattle.std.proofs.lemmas.Bool.Decides.{nat_tests}
use Rattle.std.specs.Simd.{first_chunks}
use Rattle.cases.specs.Digits.{byte_of}
use Rattle.cases.specs.Runs.{most_bytes, with_byte, with_pairs}

-- what reads nothing further gives nothing
pub never : {A B : Type 0} (f : A → Option B) (o : Option A) → ((x : A) → f x ≡ None) → option_and_then f o ≡ None
never f None h = refl
never f (Some x) h = h x

-- an odd digit is no pair
pub odd_digits : (xs bs : List ℕ) → length xs % 2 ≡ 1 → with_pairs xs bs ≡ None
odd_digits [] bs h = absurd (omega (arith, h))
odd_digits (x ∷ []) bs h = refl
odd_digits (x ∷ y ∷ more) bs h =
    let less : length more % 2 ≡ 1 = omega (arith, h) in
    never (with_pairs more) (option_and_then (with_byte bs) (byte_of x y)) (λ cs. odd_digits more cs less)

-- bytes, and those of pairs that are cut off behind them
abbrev pub with_cut : List (List ℕ) → (so_far : List ℕ) → Option (List ℕ)
with_cut [] bs = Some bs
with_cut (p ∷ more) bs = option_and_then (with_cut more) (option_and_then (with_byte bs) (byte_of (get_or p 0 0) (get_or p 1 0)))

same_then : {A B : Type 0} (f g : A → Option B) (o : Option A) → ((x : A) → f x ≡ g x) → option_and_then f o ≡ option_and_then g o
same_then f g None h = refl
same_then f g (Some x) h = h x

pub cut : (xs bs : List ℕ) → length xs % 2 ≡ 0 → with_cut (first_chunks 2 (length xs / 2) xs) bs ≡ with_pairs xs bs
cut [] bs h = refl
cut (x ∷ []) bs h = absurd (omega (arith, h))
cut (x ∷ y ∷ more) bs h =
    let less : length more % 2 ≡ 0 = omega (arith, h) in
    let halves : length (x ∷ y ∷ more) / 2 ≡ suc (length more / 2) = omega arith in
    ap (λ n. with_cut (first_chunks 2 n (x ∷ y ∷ more)) bs) halves
    ∙ same_then (with_cut (first_chunks 2 (length more / 2) more)) (with_pairs more) (option_and_then (with_byte bs) (byte_of x y)) (λ cs. cut more cs less)

-- no byte more, where there is no room or the digits are none
pub full : (p : List ℕ) (more : List (List ℕ)) (bs : List ℕ) → most_bytes ≤ length bs → with_cut (p ∷ more) bs ≡ None
full p more bs h =
    let none : (b : ℕ) → with_byte bs b ≡ None = λ b. grind (arith, nat_tests) in
    ap (option_and_then (with_cut more)) (never (with_byte bs) (byte_of (get_or p 0 0) (get_or p 1 0)) none)

pub no_digits : (p : List ℕ) (more : List (List ℕ)) (bs : List ℕ) → byte_of (get_or p 0 0) (get_or p 1 0) ≡ None → with_cut (p ∷ more) bs ≡ None
no_digits p more bs e = ap (λ o. option_and_then (with_cut more) (option_and_then (with_byte bs) o)) e

-- an error of any cause, where there are no bytes
pub whatever : {T E F : Type 0} (P : E → Type 0) (r : Result T E) → F → IfErr r (λ e. P e → F)
whatever P (Ok x) f = tt
whatever P (Err e) f = λ _. f
