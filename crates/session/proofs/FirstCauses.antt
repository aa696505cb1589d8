-- The cause of a refusal in layers 2 and 3 is the first in the file: of the bodies with a wrong length, and of the
-- fields that are outside their values.
use Rattle.std.proofs.Common.{◌≡◌, ℕ, ◌+◌, ◌≤◌, true, false, not, ◌||◌, eqb, ltb, ◌⊎◌, List, length, Some, None, Option, sym, refl, ap, ◌∙◌, subst, inl, inr, arith}
use Rattle.std.proofs.lemmas.Bool.{both_ways, cond_both}
use Rattle.market.specs.Causes.{Cause, at}
use Rattle.session.specs.declared.body.BodyKind.{BodyKind}
use Rattle.session.specs.declared.body.BodyKind.TheVariants.{Heading, Resting, Events, Note}
use Rattle.session.specs.Contents.{body, contents, end, mask, present, start, told}
use Rattle.session.specs.Faults.{
  contents_fault,
  fault,
  first_of,
  fits,
  largest_file,
  wrong_field,
  wrong_length,
}
use Rattle.session.specs.FirstCauses.{BadIn, FirstField, FirstLength, Outside, OutsideIn}
use Rattle.session.proofs.Acceptance.{fitting, laid, none_of}
use Rattle.session.proofs.BadFields.{Finds, bad_field_finds, bad_within, finds_like, finds_mapped, finds_or}
use Rattle.session.proofs.Bodies.{length_body}
use Rattle.session.proofs.Checks.{or_some}

-- ---- the first of the bodies' faults

module _ (file : List ℕ) (g : ℕ → Cause) (P : BodyKind → ℕ → Type 0) where
  abbrev InOne : ℕ → Type 0
  InOne c = P Heading c ⊎ (P Resting c ⊎ (P Events c ⊎ P Note c))

  abbrev InSome : ℕ → Type 0
  InSome c = (kind : BodyKind) × P kind c

  some_one : (c : ℕ) → InOne c → InSome c
  some_one c (inl w) = (Heading, w)
  some_one c (inr (inl w)) = (Resting, w)
  some_one c (inr (inr (inl w))) = (Events, w)
  some_one c (inr (inr (inr w))) = (Note, w)

  one_some : (c : ℕ) (kind : BodyKind) → P kind c → InOne c
  one_some c Heading w = inl w
  one_some c Resting w = inr (inl w)
  one_some c Events w = inr (inr (inl w))
  one_some c Note w = inr (inr (inr w))

  -- each body's fault is in it, and each body begins where the one before ends
  first_of_finds : (f : BodyKind → Option Cause)
      → ((kind : BodyKind) → Finds g (P kind) (f kind))
      → ((kind : BodyKind) (c : ℕ) → P kind c → (start file kind ≤ c) × (c ≤ start file kind + told file kind))
      → Finds g InSome (first_of f)
  first_of_finds f each within =
      finds_like g InOne InSome (first_of f) some_one (λ c (kind, w). one_some c kind w)
      (finds_or g (P Heading) _ (f Heading) _
      (λ c d p w.
      let lies = within Heading c p in
      elim w [
        | inl q ↦ omega (arith, lies, within Resting d q)
        | inr (inl q) ↦ omega (arith, lies, within Events d q)
        | inr (inr q) ↦ omega (arith, lies, within Note d q)
      ])
      (each Heading)
      (finds_or g (P Resting) _ (f Resting) _
      (λ c d p w.
      let lies = within Resting c p in
      elim w [ inl q ↦ omega (arith, lies, within Events d q) | inr q ↦ omega (arith, lies, within Note d q) ])
      (each Resting)
      (finds_or g (P Events) (P Note) (f Events) (f Note)
      (λ c d p q. omega (arith, within Events c p, within Note d q))
      (each Events)
      (each Note))))

-- ---- bodies of a wrong length

abbrev WrongAt : List ℕ → BodyKind → ℕ → Type 0
WrongAt file kind b = (b ≡ start file kind) × (fits kind (told file kind) ≡ false)

lengths_find : (file : List ℕ) → Finds (at 4 2) (λ b. (kind : BodyKind) × WrongAt file kind b) (first_of (wrong_length file))
lengths_find file =
    first_of_finds file (at 4 2) (WrongAt file) (wrong_length file)
    (λ kind. cond_both (fits kind (told file kind)) _ _ (Finds (at 4 2) (WrongAt file kind))
    (λ good c w. both_ways _ w.1 good)
    (λ bad. (start file kind, refl, (refl, bad), λ c w. omega (arith, w.0))))
    (λ kind c w. (omega (arith, w.0), omega (arith, w.0)))

-- ---- fields outside their values

fields_find : (file : List ℕ)
    → contents_fault file ≡ None
    → ((kind : BodyKind) → fits kind (told file kind) ≡ true)
    → Finds (at 5 3) (Outside file) (first_of (wrong_field file))
fields_find file e fit =
    first_of_finds file (at 5 3) (OutsideIn file) (wrong_field file)
    (λ kind. finds_mapped (at 5 3) (start file kind) (BadIn kind (body file kind)) _ (bad_field_finds kind (body file kind)))
    (λ kind c (o, q, w).
    let long = length_body file kind (omega (arith, (laid file e).filled)) in
    let inside = bad_within kind (body file kind) o (ap (fits kind) long ∙ fit kind) w in
    (omega arith, omega arith))

-- ---- the layers

abbrev InLayer : ℕ → Option Cause → Type 0
InLayer n None = Unit {0}
InLayer n (Some c) = c.layer ≡ n

contents_layer : (file : List ℕ) → InLayer 1 (contents_fault file)
contents_layer file =
    cond_both (eqb (length file) 0 || ltb largest_file (length file)) _ _ (InLayer 1) (λ _. refl)
    (λ _. cond_both (ltb 15 (mask file) || (not (present file Heading) || ltb (length file) (contents file))) _ _ (InLayer 1) (λ _. refl)
    (λ _. cond_both (eqb (end file) (length file)) _ _ (InLayer 1) (λ _. tt) (λ _. refl)))

-- a refusal's cause is in layer 1, or it is the first of its layer
abbrev ByLayer : List ℕ → Cause → Type 0
ByLayer file c =
    (c.layer ≡ 1)
    ⊎ (((b : ℕ) × (c ≡ at 4 2 b) × FirstLength file b) ⊎ ((b : ℕ) × (c ≡ at 5 3 b) × FirstField file b))

by_length : (file : List ℕ) (c : Cause) → contents_fault file ≡ None → first_of (wrong_length file) ≡ Some c → ByLayer file c
by_length file c laid_out e =
    let found = rw e at (lengths_find file) in
    let body_at = found.2 in
    let one : FirstLength file found.0 = record {
      parts = laid file laid_out;
      kind = body_at.0;
      begins = body_at.1.0;
      wrong = body_at.1.1;
      first = λ k bad. found.3 (start file k) (k, (refl, bad));
    } in
    inr (inl (found.0, found.1, one))

by_field : (file : List ℕ) (c : Cause) → contents_fault file ≡ None → first_of (wrong_length file) ≡ None
    → first_of (wrong_field file) ≡ Some c → ByLayer file c
by_field file c laid_out sized e =
    let fit : (kind : BodyKind) → fits kind (told file kind) ≡ true = λ kind. fitting file kind (none_of (wrong_length file) sized kind) in
    let found = rw e at (fields_find file laid_out fit) in
    inr (inr (found.0, found.1, record { parts = laid file laid_out; fitting = fit; outside = found.2; first = found.3 }))

by_layer : (file : List ℕ) (c : Cause) → fault file ≡ Some c → ByLayer file c
by_layer file c e =
    elim (or_some (contents_fault file) _ c e) [
      | inl q ↦ inl (rw q at (contents_layer file))
      | inr (laid_out, q) ↦ elim (or_some (first_of (wrong_length file)) _ c q) [
        | inl r ↦ by_length file c laid_out r
        | inr (sized, r) ↦ by_field file c laid_out sized r
      ]
    ]

pub first_length : (file : List ℕ) (b : ℕ) → fault file ≡ Some (at 4 2 b) → FirstLength file b
first_length file b e =
    elim (by_layer file (at 4 2 b) e) [
      | inl q ↦ absurd (omega (arith, q))
      | inr (inl (n, q, first)) ↦ subst (FirstLength file) (sym (ap (λ c. c.byte) q)) first
      | inr (inr (n, q, first)) ↦ absurd (omega (arith, ap (λ c. c.layer) q))
    ]

pub first_field : (file : List ℕ) (b : ℕ) → fault file ≡ Some (at 5 3 b) → FirstField file b
first_field file b e =
    elim (by_layer file (at 5 3 b) e) [
      | inl q ↦ absurd (omega (arith, q))
      | inr (inl (n, q, first)) ↦ absurd (omega (arith, ap (λ c. c.layer) q))
      | inr (inr (n, q, first)) ↦ subst (FirstField file) (sym (ap (λ c. c.byte) q)) first
    ]
