-- The byte of a bad field lies in the file.
use Rattle.std.proofs.Common.{◌≡◌, ℕ, ◌+◌, ◌≤◌, true, List, length, Some, None, ap, ◌∙◌, arith}
use Rattle.session.specs.declared.body.BodyKind.{BodyKind}
use Rattle.session.specs.declared.body.Body.{Body}
use Rattle.session.specs.Contents.{body, start}
use Rattle.session.specs.Faults.{bad_field, contents_fault, fits, largest_file, wrong_length}
use Rattle.session.specs.Handed.{bytes_of, kind_of}
use Rattle.session.proofs.Acceptance.{fits_told, fitting, laid}
use Rattle.session.proofs.BadFields.{bad_field_finds, bad_within}
use Rattle.session.proofs.Bodies.{body_within, length_body}

-- whichever body it is in
pub bad_in_file : (file : List ℕ) (kind : BodyKind) (b : Body) (o : ℕ) → contents_fault file ≡ None → wrong_length file kind ≡ None
    → kind_of b ≡ kind → bytes_of b ≡ body file kind → bad_field (kind_of b) (bytes_of b) ≡ Some o → start file kind + o ≤ largest_file
bad_in_file file kind b o laid_out fit p q e =
    let parts = laid file laid_out in
    let sized : fits (kind_of b) (length (bytes_of b)) ≡ true = fits_told file kind b laid_out p q ∙ fitting file kind fit in
    let found = rw e at (bad_field_finds (kind_of b) (bytes_of b)) in
    let inside = bad_within (kind_of b) (bytes_of b) found.0 sized found.2 in
    let long = length_body file kind (omega (arith, parts.filled)) in
    let within = body_within file kind (omega (arith, parts.filled)) in
    omega (arith, inside, found.1, long, within, ap length q, parts.small)
