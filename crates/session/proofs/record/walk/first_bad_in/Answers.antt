-- The walk over the records, a record at a time.
use Rattle.std.proofs.Common.{◌≡◌, ◌*◌, ◌/◌, ◌<◌, length, None, ◌∙◌, subst, arith}
use Rattle.session.specs.Fields.{first_bad}
use Rattle.session.proofs.RecordSteps.{first_from_more}
use Rattle.session.proofs.record.walk.first_bad_in.Goals as goal

pub loop-k-preserved : goal.loop-k-preserved
loop-k-preserved g c =
    let F = g.R.Record.fields in
    let bs = c.args.bytes.now in
    let k = c.loop-k.k in
    let below : k < length bs / g.R.Record.SIZE = rw (← c.SIZE.ensures) (omega arith) in
    let here = subst (λ m. None ≡ first_bad (F bs (m * k)) bs (m * k)) c.SIZE-in-loop-k.ensures c.in_default.ensures in
    first_from_more F g.R.Record.SIZE bs k None below here ∙ c.loop-k.invariant
