-- The byte of a bad field lies in the file.
use Rattle.std.proofs.Common.{◌+◌, ◌≤◌, sym, ◌∙◌, arith}
use Rattle.session.specs.Faults.{largest_file, wrong_length}
use Rattle.session.proofs.Acceptance.{fits_told, fitting, none_of}
use Rattle.session.proofs.FaultPlaces.{bad_in_file}
use Rattle.session.proofs.body.contents.FittedFile.check_fields_of.Goals as goal

pub first_bad-requires : goal.first_bad-requires
first_bad-requires c =
    let laid = c.args.self.laid in
    let file = laid.listed.bytes.now in
    fits_told file c.args.kind c.body.result laid.laid c.body.ensures.kind c.body.ensures.bytes
    ∙ fitting file c.args.kind (none_of (wrong_length file) c.args.self.fitted c.args.kind)

inside : (c : goal.After-start_of) → c.start_of.result + c.in-Some.byte ≤ largest_file
inside c =
    let laid = c.args.self.laid in
    let file = laid.listed.bytes.now in
    let right = none_of (wrong_length file) c.args.self.fitted c.args.kind in
    let lies = bad_in_file file c.args.kind c.body.result c.in-Some.byte laid.laid right c.body.ensures.kind c.body.ensures.bytes (sym c.in-Some.ensures) in
    omega (arith, lies, c.start_of.ensures.value)

pub overflow_add-result : goal.overflow_add-result
overflow_add-result c = omega (arith, inside c)

pub overflow_cast-result : goal.overflow_cast-result
overflow_cast-result c = omega (arith, inside c)
