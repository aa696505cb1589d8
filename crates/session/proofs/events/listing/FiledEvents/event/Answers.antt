-- The event at a place is the one of the record there, and it is one that a file may hold.
use Rattle.std.proofs.Common.{sym, ◌∙◌, subst, arith}
use Rattle.session.specs.Events.{SoundEvent}
use Rattle.session.specs.Records.{event_at, event_size}
use Rattle.session.proofs.EventRecords.{event_sound}
use Rattle.session.proofs.FiledRecords.{length_events, listed}
use Rattle.session.proofs.events.listing.FiledEvents.event.Goals as goal

pub returns-in_err-record : goal.returns-in_err-record
returns-in_err-record c =
    rw c.from_residual.ensures (omega (arith, c.in_err-record.ensures, length_events c.args.self.now.records.now))

pub returns : goal.returns
returns c =
    let bs = c.args.self.now.records.now in
    let r = c.in_ok-record.record in
    let is = c.in_ok-record.ensures in
    let sound = event_sound r.bytes.now r.at r.clean in (
      omega (arith, is.2, length_events bs),
      c.event.ensures ∙ ((λ i. event_at (is.0 i) (is.1 i)) ∙ listed event_size event_at bs c.args.place is.2 _),
      subst SoundEvent (sym c.event.ensures) sound,
    )
