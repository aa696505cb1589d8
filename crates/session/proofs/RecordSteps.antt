-- A walk over records of one size: what it does at the k-th of n records.
use Rattle.std.proofs.Common.{◌≡◌, ℕ, suc, ◌+◌, ◌-◌, ◌*◌, ◌/◌, ◌<◌, List, length, Option, sym, ap, ◌∙◌, mul-one, mul-add, arith}
use Rattle.session.specs.declared.field.Field.{Field}
use Rattle.session.specs.Fields.{first_bad}
use Rattle.session.specs.Faults.{first_in, or_else}

-- the fields that a record has, by where it begins
abbrev pub Table : Type 0
Table = List ℕ → ℕ → List Field

first_in_more : (F : Table) (s n : ℕ) (bs : List ℕ) (k : ℕ) → k < n
    → first_in F s (n - k) bs (s * k) ≡ or_else (first_bad (F bs (s * k)) bs (s * k)) (first_in F s (n - (k + 1)) bs (s * (k + 1)))
first_in_more F s n bs k h =
    let e : n - k ≡ suc (n - (k + 1)) = omega arith in
    let next : s * k + s ≡ s * (k + 1) = omega (arith, mul-add s k 1, mul-one s) in
    ap (λ m. first_in F s m bs (s * k)) e
    ∙ ap (λ a. or_else (first_bad (F bs (s * k)) bs (s * k)) (first_in F s (n - (k + 1)) bs a)) next

-- the first bad field from the k-th record of a body on
abbrev pub first_from : Table → ℕ → List ℕ → ℕ → Option ℕ
first_from F s bs k = first_in F s (length bs / s - k) bs (s * k)

-- it is what was found in the k-th record, or else the first from the next on
pub first_from_more : (F : Table) (s : ℕ) (bs : List ℕ) (k : ℕ) (found : Option ℕ) → k < length bs / s
    → found ≡ first_bad (F bs (s * k)) bs (s * k)
    → or_else found (first_from F s bs (k + 1)) ≡ first_from F s bs k
first_from_more F s bs k found h here =
    sym (first_in_more F s (length bs / s) bs k h ∙ ap (λ o. or_else o (first_from F s bs (k + 1))) (sym here))
