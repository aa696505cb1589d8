use Rattle.std.proofs.Common.{◌≡◌}
use Rattle.session.specs.Faults.{bad_field}
use Rattle.session.proofs.RecordSteps.{first_from}
use Rattle.session.proofs.record.walk.first_bad_in.Given as goal

-- what is left of the records gives the answer
abbrev pub invariant-loop-k : goal.invariant-loop-k
invariant-loop-k g l = first_from g.R.Record.fields g.R.Record.SIZE l.bytes l.k ≡ bad_field g.R.Record.body l.bytes
