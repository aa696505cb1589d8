-- A walk over a list of fields: what it does at a field, and at the end.
use Rattle.std.proofs.Common.{◌≡◌, ℕ, ◌+◌, ◌<◌, ◌≤◌, true, false, List, length, get_or, drop, Some, None, ◌∙◌}
use Rattle.std.proofs.lemmas.List.{at_drop_more, at_drop_all}
use Rattle.std.proofs.lemmas.Bool.{cond-true, cond-false}
use Rattle.session.specs.declared.field.Field.{Field}
use Rattle.session.specs.Fields.{admits, first_bad, size, span, value}

-- the field at i is good: on to the next
pub first_bad_past : (fs : List Field) (bs : List ℕ) (at i : ℕ) (d : Field) → i < length fs
    → admits (get_or fs i d).values (value (get_or fs i d).width bs at) ≡ true
    → first_bad (drop i fs) bs at ≡ first_bad (drop (i + 1) fs) bs (at + size (get_or fs i d).width)
first_bad_past fs bs at i d h e = at_drop_more (λ xs. first_bad xs bs at) fs i d h ∙ cond-true _ _ _ e

-- the field at i is bad
pub first_bad_here : (fs : List Field) (bs : List ℕ) (at i : ℕ) (d : Field) → i < length fs
    → admits (get_or fs i d).values (value (get_or fs i d).width bs at) ≡ false
    → first_bad (drop i fs) bs at ≡ Some at
first_bad_here fs bs at i d h e = at_drop_more (λ xs. first_bad xs bs at) fs i d h ∙ cond-false _ _ _ e

pub first_bad_all : (fs : List Field) (bs : List ℕ) (at i : ℕ) → length fs ≤ i → first_bad (drop i fs) bs at ≡ None
first_bad_all fs bs at i h = at_drop_all (λ xs. first_bad xs bs at) fs i h

pub span_more : (fs : List Field) (i : ℕ) (d : Field) → i < length fs → span (drop i fs) ≡ size (get_or fs i d).width + span (drop (i + 1) fs)
span_more fs i d h = at_drop_more span fs i d h
