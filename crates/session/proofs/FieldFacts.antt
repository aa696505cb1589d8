-- Fields and numbers that stand one after the other, each at its place counted from the record's first byte: what
-- `first-bad` finds nothing in, and what `Written` says.
use Rattle.std.proofs.Common.{◌≡◌, ℕ, zero, suc, ◌+◌, true, List, [], ◌∷◌, None, refl, arith}
use Rattle.session.specs.declared.field.Width.{Width}
use Rattle.session.specs.declared.field.Field.{Field}
use Rattle.session.specs.Fields.{value, size, admits, first_bad, Written}
use Rattle.session.proofs.Checks.{fault_unless}

-- k bytes after a byte, as the records' readings write it: no sum where k is 0
abbrev place : (at k : ℕ) → ℕ
place at zero = at
place at (suc k) = at + suc k

place_is : (at k : ℕ) → place at k ≡ at + k
place_is at zero = omega arith
place_is at (suc k) = refl

place_more : (at k n : ℕ) → place at k + n ≡ place at (k + n)
place_more at k n = omega (arith, place_is at k, place_is at (k + n))

-- each field has one of its values, from byte k of the record on
abbrev pub Good : List Field → List ℕ → (at k : ℕ) → Type 0
Good [] bs at k = Unit {0}
Good (f ∷ fs) bs at k =
    (admits f.values (value f.width bs (place at k)) ≡ true) × Good fs bs at (k + size f.width)

-- each number stands where it has to, from byte k of the record on
abbrev pub Stands : List (Width × ℕ) → List ℕ → (at k : ℕ) → Type 0
Stands [] bs at k = Unit {0}
Stands (n ∷ ns) bs at k = (value n.0 bs (place at k) ≡ n.1) × Stands ns bs at (k + size n.0)

good_from : (fs : List Field) (bs : List ℕ) (at k : ℕ) → first_bad fs bs (place at k) ≡ None → Good fs bs at k
good_from [] bs at k e = tt
good_from (f ∷ fs) bs at k e =
    let p = fault_unless (admits f.values (value f.width bs (place at k))) _ _ e in
    (p.0, good_from fs bs at (k + size f.width) (rw (← place_more at k (size f.width)) p.1))

none_from : (fs : List Field) (bs : List ℕ) (at k : ℕ) → Good fs bs at k → first_bad fs bs (place at k) ≡ None
none_from [] bs at k g = refl
none_from (f ∷ fs) bs at k g =
    rw (g.0, place_more at k (size f.width)) (none_from fs bs at (k + size f.width) g.1)

written_from : (ns : List (Width × ℕ)) (bs : List ℕ) (at k : ℕ) → Stands ns bs at k → Written ns bs (place at k)
written_from [] bs at k s = tt
written_from (n ∷ ns) bs at k s =
    (s.0, rw (place_more at k (size n.0)) (written_from ns bs at (k + size n.0) s.1))

stands_from : (ns : List (Width × ℕ)) (bs : List ℕ) (at k : ℕ) → Written ns bs (place at k) → Stands ns bs at k
stands_from [] bs at k w = tt
stands_from (n ∷ ns) bs at k w =
    (w.0, stands_from ns bs at (k + size n.0) (rw (← place_more at k (size n.0)) w.1))

-- the same from the record's first byte on
pub good : (fs : List Field) (bs : List ℕ) (at : ℕ) → first_bad fs bs at ≡ None → Good fs bs at 0
good fs bs at e = good_from fs bs at 0 e

pub none_bad : (fs : List Field) (bs : List ℕ) (at : ℕ) → Good fs bs at 0 → first_bad fs bs at ≡ None
none_bad fs bs at g = none_from fs bs at 0 g

pub written : (ns : List (Width × ℕ)) (bs : List ℕ) (at : ℕ) → Stands ns bs at 0 → Written ns bs at
written ns bs at s = written_from ns bs at 0 s

pub stands : (ns : List (Width × ℕ)) (bs : List ℕ) (at : ℕ) → Written ns bs at → Stands ns bs at 0
stands ns bs at w = stands_from ns bs at 0 w
