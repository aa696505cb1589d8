-- An order that a record without a bad field enters is sound.
use Rattle.std.proofs.Common.{◌≡◌, ◌+◌, sym, ap, ◌∙◌, subst}
use Rattle.std.proofs.lemmas.Result.{MatchResult-at_ok}
use Rattle.market.specs.Orders.{Sound}
use Rattle.session.specs.EventKinds.{kind_number}
use Rattle.session.specs.Events.{SoundCall}
use Rattle.session.specs.Fields.{byte, four, two}
use Rattle.session.specs.Records.{call_with, entered}
use Rattle.session.proofs.EventRecords.{event_sound}
use Rattle.session.proofs.events.listing.CleanRecord+EventRecord.event.Goals as goal

pub invariant_of-event : goal.invariant_of-event
invariant_of-event c =
    let bs = c.args.self.bytes.now in
    let at = c.args.self.at in
    let f = byte bs (at + 5) in
    let n = two bs (at + 6) in
    let a = four bs (at + 8) in
    let b = four bs (at + 12) in
    let named : kind_number c.in-Ok-Enter.field-0 ≡ byte bs (at + 4)
    = MatchResult-at_ok (λ k. kind_number k ≡ c.from.result) _ c.in-Ok-Enter.field-0 c.in-Ok-Enter.is c.try_from.ensures ∙ c.from.ensures in
    let enters : byte bs (at + 4) ≡ 1 = sym named ∙ ap kind_number c.in-Ok-Enter.field-0-is in
    let sound : Sound (entered f n a b) = subst (λ k. SoundCall (call_with k f n a b)) enters (event_sound bs at c.args.self.clean).1 in
    let terms : c.entered_terms-terms.result ≡ entered f n a b
    = c.entered_terms-terms.ensures
    ∙ (ap (λ m. entered f m c.four_at-first.result c.four_at-second.result) c.two_at-number.ensures
    ∙ (ap (λ m. entered f n m c.four_at-second.result) c.four_at-first.ensures ∙ ap (λ m. entered f n a m) c.four_at-second.ensures)) in
    record { lawful = subst Sound (sym terms) sound }
