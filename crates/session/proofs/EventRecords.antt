-- The records of events: a record with no bad field is that of the event that is read from it, and the record of
-- an event has no bad field and reads as this event.
use Rattle.std.proofs.Common.{◌≡◌, ℕ, zero, suc, ◌+◌, ◌*◌, ◌/◌, true, leb, List, length, None, refl, ap, arith}
use Rattle.std.proofs.lemmas.Bool.{leb-true, le-leb, eqb-true, and_parts}
use Rattle.std.proofs.lemmas.Bool.Decides.{nat_tests}
use Rattle.session.specs.declared.body.BodyKind.TheVariants.{Events}
use Rattle.session.specs.declared.field.Values.TheVariants.{Zero, TimeOfDay, EventKind}
use Rattle.session.specs.Fields.{byte, two, four, has, admits, first_bad}
use Rattle.market.specs.Calls.{Call, enter, cancel, quote, publish, lock, shut, cross, Timed, last_time}
use Rattle.session.specs.Events.{SoundCall, SoundEvent}
use Rattle.session.specs.Records.{
  event_size,
  call_row,
  call_numbers,
  event_numbers,
  EventRecord,
  call_fields,
  named_fields,
  call_with,
  event_at,
  events_in,
}
use Rattle.session.specs.Faults.{fits, fields_of_event, bad_field}
use Rattle.session.specs.Layout.{EventsBody}
use Rattle.session.proofs.FieldFacts.{Good, Stands, good, none_bad, written, stands}
use Rattle.session.proofs.RecordLists.{records_kept, records_read}
use Rattle.session.proofs.EnterFlags.{limit_lawful, flags_again, limit_again, flags_read}

-- what holds at each kind of event
by_kind : (P : ℕ → Type 0) → P 1 → P 2 → P 3 → P 4 → P 5 → P 6 → P 7 → (k : ℕ) → admits EventKind k ≡ true → P k
by_kind P p q r s t u v zero h = absurd (grind (arith, nat_tests))
by_kind P p q r s t u v (suc zero) h = p
by_kind P p q r s t u v (suc (suc zero)) h = q
by_kind P p q r s t u v (suc (suc (suc zero))) h = r
by_kind P p q r s t u v (suc (suc (suc (suc zero)))) h = s
by_kind P p q r s t u v (suc (suc (suc (suc (suc zero))))) h = t
by_kind P p q r s t u v (suc (suc (suc (suc (suc (suc zero)))))) h = u
by_kind P p q r s t u v (suc (suc (suc (suc (suc (suc (suc zero))))))) h = v
by_kind P p q r s t u v (suc (suc (suc (suc (suc (suc (suc (suc k)))))))) h = absurd (grind (arith, nat_tests))

-- the fields after the kind are good
abbrev Named : (kind : ℕ) → List ℕ → ℕ → Type 0
Named k bs at = Good (named_fields k (byte bs (at + 5))) bs at 5

-- the call that is read where the kind is k
abbrev call_at : (kind : ℕ) → List ℕ → ℕ → Call
call_at k bs at = call_with k (byte bs (at + 5)) (two bs (at + 6)) (four bs (at + 8)) (four bs (at + 12))

entered_sound : (bs : List ℕ) (at : ℕ) → Named 1 bs at → SoundCall (call_at 1 bs at)
entered_sound bs at g =
    let f = byte bs (at + 5) in
    let apart = (and_parts (leb f 15) _ g.0).1 in
    (limit_lawful (has f 2) (has f 4) _ apart g.1.1.0, g.1.1.1.0, leb-true 1 _ g.1.0)

call_sound : (bs : List ℕ) (at k : ℕ) → admits EventKind k ≡ true → Named k bs at → SoundCall (call_at k bs at)
call_sound bs at =
    by_kind (λ k. Named k bs at → SoundCall (call_at k bs at))
    (entered_sound bs at)
    (λ g. (leb-true 1 _ g.1.0, g.1.1.1.0))
    (λ g. (g.1.1.0, g.1.1.1.0))
    (λ g. tt)
    (λ g. tt)
    (λ g. tt)
    (λ g. tt)

pub event_sound : (bs : List ℕ) (at : ℕ) → first_bad (fields_of_event bs at) bs at ≡ None → SoundEvent (event_at bs at)
event_sound bs at e =
    let g = good (fields_of_event bs at) bs at e in
    (leb-true _ last_time g.0, call_sound bs at (byte bs (at + 4)) g.1.0 g.1.1)

-- the record of a call again holds what is read from it
entered_stands : (bs : List ℕ) (at : ℕ) → byte bs (at + 4) ≡ 1 → Named 1 bs at
    → Stands (call_numbers (call_at 1 bs at)) bs at 4
entered_stands bs at k g =
    let f = byte bs (at + 5) in
    let flagged = flags_again f (two bs (at + 6)) (four bs (at + 8)) (four bs (at + 12)) g.0 in
    (k, (flagged, (refl, (limit_again (has f 2) _ g.1.1.0, (refl, tt)))))

-- of the kinds that name nothing
zeros_stand : (bs : List ℕ) (at k : ℕ) → byte bs (at + 4) ≡ k → Good (call_fields Zero Zero Zero Zero) bs at 5
    → Stands (call_row k 0 0 0 0) bs at 4
zeros_stand bs at k e g =
    let n = g.1 in
    (e, (eqb-true _ 0 g.0, (eqb-true _ 0 n.0, (eqb-true _ 0 n.1.0, (eqb-true _ 0 n.1.1.0, tt)))))

call_stands : (bs : List ℕ) (at k : ℕ) → admits EventKind k ≡ true → byte bs (at + 4) ≡ k → Named k bs at
    → Stands (call_numbers (call_at k bs at)) bs at 4
call_stands bs at =
    by_kind (λ k. byte bs (at + 4) ≡ k → Named k bs at → Stands (call_numbers (call_at k bs at)) bs at 4)
    (entered_stands bs at)
    (λ k g. (k, (eqb-true _ 0 g.0, (refl, (eqb-true _ 0 g.1.1.0, (refl, tt))))))
    (λ k g. (k, (eqb-true _ 0 g.0, (eqb-true _ 0 g.1.0, (refl, (refl, tt))))))
    (zeros_stand bs at 4)
    (zeros_stand bs at 5)
    (zeros_stand bs at 6)
    (zeros_stand bs at 7)

event_kept : (bs : List ℕ) (at : ℕ) → first_bad (fields_of_event bs at) bs at ≡ None
    → EventRecord (event_at bs at) bs at
event_kept bs at e =
    let g = good (fields_of_event bs at) bs at e in
    let call = call_stands bs at (byte bs (at + 4)) g.1.0 refl g.1.1 in
    (event_sound bs at e, written (event_numbers (event_at bs at)) bs at (refl, call))

-- a call's fields are good, and they read as the call
abbrev ReadsCall : List ℕ → ℕ → Call → Type 0
ReadsCall bs at c =
    let k = byte bs (at + 4) in
    (admits EventKind k ≡ true) × Named k bs at × (call_at k bs at ≡ c)

zeros_good : (bs : List ℕ) (at k : ℕ) → Stands (call_row k 0 0 0 0) bs at 4
    → Good (call_fields Zero Zero Zero Zero) bs at 5
zeros_good bs at k w = (rw w.1.0, (rw w.1.1.0, (rw w.1.1.1.0, (rw w.1.1.1.1.0, tt))))

-- w holds the equations of the kind, the flags, the number and the two amounts, each in the rest of the one before
call_read : (bs : List ℕ) (at : ℕ) (c : Call) → SoundCall c → Stands (call_numbers c) bs at 4 → ReadsCall bs at c
call_read bs at (enter o) h w =
    let r = flags_read o h.0 in
    rw (w.0, w.1.0, w.1.1.0, w.1.1.1.0, w.1.1.1.1.0)
    (refl, (r.0, (le-leb 1 o.entry h.2, (r.1, (h.1, tt)))), ap enter r.2)
call_read bs at (cancel e n) h w =
    rw (w.0, w.1.0, w.1.1.0, w.1.1.1.0, w.1.1.1.1.0)
    (refl, (refl, (le-leb 1 e h.0, (refl, (h.1, tt)))), refl)
call_read bs at (quote b o) h w =
    rw (w.0, w.1.0, w.1.1.0, w.1.1.1.0, w.1.1.1.1.0)
    (refl, (refl, (refl, (h.0, (h.1, tt)))), refl)
call_read bs at publish h w = rw w.0 (refl, zeros_good bs at 4 w, refl)
call_read bs at lock h w = rw w.0 (refl, zeros_good bs at 5 w, refl)
call_read bs at shut h w = rw w.0 (refl, zeros_good bs at 6 w, refl)
call_read bs at cross h w = rw w.0 (refl, zeros_good bs at 7 w, refl)

event_read : (bs : List ℕ) (e : Timed) (at : ℕ) → EventRecord e bs at
    → (first_bad (fields_of_event bs at) bs at ≡ None) × (event_at bs at ≡ e)
event_read bs e at r =
    let w = stands (event_numbers e) bs at r.1 in
    let c = call_read bs at e.call r.0.1 w.1 in
    let time : admits TimeOfDay (four bs at) ≡ true = rw w.0 (le-leb e.time last_time r.0.0) in
    (none_bad (fields_of_event bs at) bs at (time, (c.0, c.1)), λ i. record { time = w.0 i; call = c.2 i })

pub events_kept : (bs : List ℕ) → fits Events (length bs) ≡ true → bad_field Events bs ≡ None
    → EventsBody (events_in bs) bs
events_kept bs f e =
    let n = length bs / event_size in
    let whole : 0 + event_size * n ≡ length bs = grind (arith, nat_tests) in
    records_kept event_size fields_of_event EventRecord event_at bs (event_kept bs) n 0 0 refl whole e

pub events_read : (es : List Timed) (bs : List ℕ) → EventsBody es bs
    → (fits Events (length bs) ≡ true) × (bad_field Events bs ≡ None) × (events_in bs ≡ es)
events_read es bs r =
    let all = records_read event_size fields_of_event EventRecord event_at bs (event_read bs) es 0 0 refl r in
    let n : length bs / event_size ≡ length es = omega (arith, all.0) in
    (grind (arith, nat_tests, all.0), rw n all.1, rw n all.2)
