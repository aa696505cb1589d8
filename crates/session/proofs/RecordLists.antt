-- Bodies of records of one size, whatever one record is: where no record has a bad field, the body is the records
-- that are read from it, and the records of a list fill a body, have no bad field and read as this list.
use Rattle.std.proofs.Common.{◌≡◌, ℕ, zero, suc, ◌+◌, ◌*◌, List, [], ◌∷◌, map, length, None, refl, mul-zero, mul-one, mul-suc, mul-add, arith}
use Rattle.std.specs.List.{range_with_len}
use Rattle.session.specs.declared.field.Field.{Field}
use Rattle.session.specs.Fields.{first_bad}
use Rattle.session.specs.Records.{Records}
use Rattle.session.specs.Faults.{first_in}
use Rattle.session.proofs.Checks.{or_none}

-- where the record after the a-th begins
next : (size a at : ℕ) → at ≡ size * a → at + size ≡ size * (a + 1)
next size a at e = omega (arith, mul-add size a 1, mul-one size)

module _
    {X : Type 0} (size : ℕ) (fields : List ℕ → ℕ → List Field) (R : X → List ℕ → ℕ → Type 0) (read : List ℕ → ℕ → X)
    (bs : List ℕ)
  where
    -- n records from the a-th on, as they are read
    abbrev from : (a n : ℕ) → List X
    from a n = map (λ k. read bs (size * k)) (range_with_len a n)

    pub records_kept : ((at : ℕ) → first_bad (fields bs at) bs at ≡ None → R (read bs at) bs at)
        → (n a at : ℕ) → at ≡ size * a → at + size * n ≡ length bs → first_in fields size n bs at ≡ None
        → Records size R (from a n) bs at
    records_kept each zero a at p l e = omega (arith, mul-zero size)
    records_kept each (suc n) a at p l e =
        let o = or_none (first_bad (fields bs at) bs at) _ e in
        let q : at + size + size * n ≡ length bs = omega (arith, mul-suc size n) in
        (rw (← p) (each at o.0), records_kept each n (a + 1) (at + size) (next size a at p) q o.1)

    pub records_read : ((x : X) (at : ℕ) → R x bs at → (first_bad (fields bs at) bs at ≡ None) × (read bs at ≡ x))
        → (xs : List X) (a at : ℕ) → at ≡ size * a → Records size R xs bs at
        → (at + size * length xs ≡ length bs) × (first_in fields size (length xs) bs at ≡ None)
        × (from a (length xs) ≡ xs)
    records_read each [] a at p r = (omega (arith, mul-zero size), refl, refl)
    records_read each (x ∷ xs) a at p r =
        let one = each x at r.0 in
        let more = records_read each xs (a + 1) (at + size) (next size a at p) r.1 in
        (omega (arith, mul-suc size (length xs), more.0), rw one.0 more.1, rw (← p, one.1, more.2))
