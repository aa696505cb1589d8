use Rattle.std.proofs.Common.{◌≡◌, ◌+◌, ◌≤◌, length, drop}
use Rattle.session.specs.Fields.{first_bad, span}
use Rattle.session.proofs.field.reading.first_bad_field.Given as goal

-- what is left of the fields gives the answer
abbrev pub invariant-loop-field : goal.invariant-loop-field
invariant-loop-field l =
    (first_bad (drop l.field-index l.fields) l.bytes l.place ≡ first_bad l.fields l.bytes l.at)
    × (l.place + span (drop l.field-index l.fields) ≤ length l.bytes)
