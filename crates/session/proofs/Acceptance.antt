-- A file has no fault just if it is accepted: all that a fault could be is excluded.
use Rattle.std.proofs.Common.{◌≡◌, ℕ, ◌+◌, true, false, not, ◌||◌, eqb, ltb, List, length, None, Option, ap, ◌∙◌, arith}
use Rattle.std.proofs.lemmas.Bool.{or_parts, not-false, ltb-false, eqb-true, eqb-false}
use Rattle.std.proofs.lemmas.Bool.Decides.{nat_tests}
use Rattle.market.specs.Causes.{Cause, at}
use Rattle.session.specs.declared.body.BodyKind.{BodyKind}
use Rattle.session.specs.declared.body.BodyKind.TheVariants.{Heading, Resting, Events, Note}
use Rattle.session.specs.declared.body.Body.{Body}
use Rattle.session.specs.Contents.{mask, present, told, contents, start, end, body}
use Rattle.session.specs.Faults.{
  largest_file,
  or_else,
  first_of,
  fits,
  bad_field,
  wrong_length,
  wrong_field,
  contents_fault,
  fault,
}
use Rattle.session.specs.FirstCauses.{Laid}
use Rattle.session.specs.Handed.{bytes_of, kind_of}
use Rattle.session.proofs.Bodies.{length_body}
use Rattle.session.proofs.Checks.{fault_if, fault_unless, mapped_none, or_none}

-- ---- the first of several faults is none where each is

pub none_of : (f : BodyKind → Option Cause) → first_of f ≡ None → (kind : BodyKind) → f kind ≡ None
none_of f e kind =
    let h = or_none (f Heading) (or_else (f Resting) (or_else (f Events) (f Note))) e in
    let r = or_none (f Resting) (or_else (f Events) (f Note)) h.1 in
    let l = or_none (f Events) (f Note) r.1 in
    elim kind as (λ k. f k ≡ None) [ Heading ↦ h.0 | Resting ↦ r.0 | Events ↦ l.0 | Note ↦ l.1 ]

first_none : (f : BodyKind → Option Cause) → ((kind : BodyKind) → f kind ≡ None) → first_of f ≡ None
first_none f e = simp (e Heading, e Resting, e Events, e Note)

-- ---- the first layer: the parts make up the file

pub laid : (file : List ℕ) → contents_fault file ≡ None → Laid file
laid file e =
    let sized = fault_if (eqb (length file) 0 || ltb largest_file (length file)) _ _ e in
    let listed = fault_if (ltb 15 (mask file) || (not (present file Heading) || ltb (length file) (contents file))) _ _ sized.1 in
    let too_long = or_parts (eqb (length file) 0) (ltb largest_file (length file)) sized.0 in
    let unlisted = or_parts (ltb 15 (mask file)) (not (present file Heading) || ltb (length file) (contents file)) listed.0 in
    let unheaded = or_parts (not (present file Heading)) (ltb (length file) (contents file)) unlisted.1 in
    record {
      small = ltb-false largest_file (length file) too_long.1;
      some = omega (arith, eqb-false (length file) 0 too_long.0);
      known = ltb-false 15 (mask file) unlisted.0;
      headed = not-false (present file Heading) unheaded.0;
      tabled = ltb-false (length file) (contents file) unheaded.1;
      filled = eqb-true (end file) (length file) (fault_unless (eqb (end file) (length file)) None _ listed.1).0;
    }

-- a body that is handed out has the length that the contents tell, so that it fits where the told one does
pub fits_told : (file : List ℕ) (kind : BodyKind) (b : Body) → contents_fault file ≡ None → kind_of b ≡ kind → bytes_of b ≡ body file kind
    → fits (kind_of b) (length (bytes_of b)) ≡ fits kind (told file kind)
fits_told file kind b e p q =
    ap (λ j. fits j (length (bytes_of b))) p
    ∙ (ap (λ xs. fits kind (length xs)) q ∙ ap (fits kind) (length_body file kind (omega (arith, (laid file e).filled))))

pub fitting : (file : List ℕ) (kind : BodyKind) → wrong_length file kind ≡ None → fits kind (told file kind) ≡ true
fitting file kind e = (fault_unless (fits kind (told file kind)) None _ e).0

-- ---- all layers

pub record Accepted (file : List ℕ) : Type 0 where
  pub parts : Laid file
  pub fitting : (kind : BodyKind) → fits kind (told file kind) ≡ true
  pub clean : (kind : BodyKind) → bad_field kind (body file kind) ≡ None

pub accepted : (file : List ℕ) → fault file ≡ None → Accepted file
accepted file e =
    let layers = or_none (contents_fault file) (or_else (first_of (wrong_length file)) (first_of (wrong_field file))) e in
    let bodies = or_none (first_of (wrong_length file)) (first_of (wrong_field file)) layers.1 in
    record {
      parts = laid file layers.0;
      fitting = λ kind. fitting file kind (none_of (wrong_length file) bodies.0 kind);
      clean = λ kind.
          mapped_none (λ b. at 5 3 (start file kind + b)) (bad_field kind (body file kind)) (none_of (wrong_field file) bodies.1 kind);
    }

pub accepted_none : (file : List ℕ) → Accepted file → fault file ≡ None
accepted_none file a =
    let p = a.parts in
    let sized : (eqb (length file) 0 || ltb largest_file (length file)) ≡ false = grind (arith, nat_tests) in
    let listed : (ltb 15 (mask file) || (not (present file Heading) || ltb (length file) (contents file))) ≡ false = grind (arith, nat_tests) in
    let ended : eqb (end file) (length file) ≡ true = grind (arith, nat_tests) in
    let lengths : first_of (wrong_length file) ≡ None = first_none (wrong_length file) (λ kind. rw (a.fitting kind)) in
    let fields : first_of (wrong_field file) ≡ None = first_none (wrong_field file) (λ kind. rw (a.clean kind)) in
    rw (sized, listed, ended, lengths, fields)
