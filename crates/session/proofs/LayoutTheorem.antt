-- A file has no fault just if it is laid out as a session, and that session is what its bytes say.
use Rattle.std.proofs.Common.{◌≡◌, ℕ, Bool, true, false, cond, List, [], ◌++◌, length, take, is_some, Some, None, Option, sym, refl, ap, ◌∙◌, subst, arith}
use Rattle.std.proofs.lemmas.List.{length-take-le, nil_from_length, get_or-take, get_or_append_left}
use Rattle.std.proofs.lemmas.Bool.{eqb-true, eq-eqb}
use Rattle.session.specs.declared.body.BodyKind.{BodyKind}
use Rattle.session.specs.declared.body.BodyKind.TheVariants.{Heading, Resting, Events, Note}
use Rattle.session.specs.Fields.{byte, four, Spells}
use Rattle.session.specs.Records.{orders_in, events_in}
use Rattle.session.specs.Contents.{mask, present, told, contents, body}
use Rattle.session.specs.Faults.{fits, bad_field, fault}
use Rattle.session.specs.FirstCauses.{Laid}
use Rattle.session.specs.Layout.{Session, Body, RestingBody, EventsBody, NoteBody, KeepsLayout, session_of}
use Rattle.session.proofs.Masks.{mask_made, Marked, marked}
use Rattle.session.proofs.Bodies.{of_each, in_sequence, length_body, laid_out, parts, parts_fill}
use Rattle.session.proofs.Acceptance.{Accepted, accepted, accepted_none}
use Rattle.session.proofs.Tables.{
  Table,
  TableOf,
  numbers_of,
  size_of,
  told_table,
  same_table,
  table_read,
  table_written,
}
use Rattle.session.proofs.HeadingRecord.{heading_kept, heading_read}
use Rattle.session.proofs.OrderRecords.{resting_kept, resting_read}
use Rattle.session.proofs.EventRecords.{events_kept, events_read}

-- ---- one body, which may be absent

-- a clean body holds what its bytes say
abbrev Keeps : {X : Type 0} → BodyKind → (X → List ℕ → Type 0) → (List ℕ → X) → Type 0
Keeps kind R said = (bs : List ℕ) → fits kind (length bs) ≡ true → bad_field kind bs ≡ None → R (said bs) bs

-- a body is clean, and its bytes say what it holds
abbrev Reads : {X : Type 0} → BodyKind → (X → List ℕ → Type 0) → (List ℕ → X) → Type 0
Reads {X} kind R said =
    (x : X) (bs : List ℕ) → R x bs → (fits kind (length bs) ≡ true) × (bad_field kind bs ≡ None) × (said bs ≡ x)

note_kept : Keeps Note NoteBody (λ bs. bs)
note_kept bs f c = refl

note_read : Reads Note NoteBody (λ bs. bs)
note_read x bs b = (refl, refl, b)

-- a clean body, as a session of its bytes has it
body_kept : {X : Type 0} (kind : BodyKind) (R : X → List ℕ → Type 0) (said : List ℕ → X)
    → Keeps kind R said
    → (b : Bool) (bs : List ℕ)
    → fits kind (length bs) ≡ true
    → bad_field kind bs ≡ None
    → cond b (length bs) 0 ≡ length bs
    → Body R (cond b (Some (said bs)) None) bs
body_kept kind R said keeps true bs f c z = keeps bs f c
body_kept kind R said keeps false bs f c z = nil_from_length bs (sym z)

-- what the body of a session has, present or absent
record BodyRead {X : Type 0} (kind : BodyKind) (said : List ℕ → X) (o : Option X) (bs : List ℕ) : Type 0 where
  pub fitting : fits kind (length bs) ≡ true
  pub clean : bad_field kind bs ≡ None
  pub sized : cond (is_some o) (length bs) 0 ≡ length bs
  pub same : cond (is_some o) (Some (said bs)) None ≡ o

body_read : {X : Type 0} (kind : BodyKind) (R : X → List ℕ → Type 0) (said : List ℕ → X)
    → Reads kind R said
    → fits kind 0 ≡ true
    → bad_field kind [] ≡ None
    → (o : Option X) (bs : List ℕ)
    → Body R o bs
    → BodyRead kind said o bs
body_read kind R said reads f c None bs b = record { fitting = rw b f; clean = rw b c; sized = rw b; same = refl }
body_read kind R said reads f c (Some x) bs b =
    let r = reads x bs b in
    record { fitting = r.0; clean = r.1; sized = refl; same = ap Some r.2 }

-- ---- a file with no fault

-- what is present is shown
shown : {X : Type 0} (b : Bool) (x : X) → is_some (cond b (Some x) None) ≡ b
shown true x = refl
shown false x = refl

cond_twice : (b : Bool) (k : ℕ) → cond b (cond b k 0) 0 ≡ cond b k 0
cond_twice true k = refl
cond_twice false k = refl

-- an absent body has no bytes
absent_empty : (file : List ℕ) (kind : BodyKind)
    → Accepted file
    → cond (present file kind) (length (body file kind)) 0 ≡ length (body file kind)
absent_empty file kind a = rw (length_body file kind (omega arith)) (cond_twice (present file kind) _)

fitting_body : (file : List ℕ) (kind : BodyKind) → Accepted file → fits kind (length (body file kind)) ≡ true
fitting_body file kind a = rw (length_body file kind (omega arith)) (a.fitting kind)

-- each body but the heading, as the session of the file has it
kept_in : {X : Type 0} (file : List ℕ) (kind : BodyKind) (R : X → List ℕ → Type 0) (said : List ℕ → X)
    → Keeps kind R said
    → Accepted file
    → Body R (cond (present file kind) (Some (said (body file kind))) None) (body file kind)
kept_in file kind R said keeps a =
    body_kept kind R said keeps (present file kind) (body file kind) (fitting_body file kind a) (a.clean kind)
    (absent_empty file kind a)

-- the contents of the file list its bodies
listed : (file : List ℕ) → Accepted file → Spells (numbers_of (session_of file) (body file)) (take (contents file) file)
listed file a =
    let r = present file Resting in
    let e = present file Events in
    let n = present file Note in
    let c = take (contents file) file in
    let q = mask_made (mask file) a.parts.known a.parts.headed in
    let m = marked (mask file) r e n q in
    let z : length c ≡ contents file = length-take-le (contents file) file a.parts.tabled in
    let whole = told_table file r e n q in
    let t = same_table c file r e n (told file) (λ k l. get_or-take (contents file) file k 0 (omega arith)) whole in
    let sizes : told file ≡ (λ kind. length (body file kind)) = λ i kind. sym (length_body file kind (omega arith)) i in
    let d = subst (λ size. Table c r e n size) sizes t in
    let l = orders_in (body file Resting) in
    let v = events_in (body file Events) in
    let o = body file Note in
    table_written (session_of file) (body file) c (rw (shown r l, shown e v, shown n o) (z ∙ m.sized, d))

-- a file with no fault is laid out as what its bytes say
pub layout_kept : (file : List ℕ) → fault file ≡ None → KeepsLayout file (session_of file)
layout_kept file e =
    let a = accepted file e in
    record {
      contents = take (contents file) file;
      heading = body file Heading;
      resting = body file Resting;
      events = body file Events;
      note = body file Note;
      small = a.parts.small;
      laid = laid_out file a.parts.filled;
      listed = listed file a;
      headed = heading_kept (body file Heading) (eqb-true _ 8 (fitting_body file Heading a)) (a.clean Heading);
      rested = kept_in file Resting RestingBody orders_in resting_kept a;
      timed = kept_in file Events EventsBody events_in events_kept a;
      noted = kept_in file Note NoteBody (λ bs. bs) note_kept a;
    }

-- ---- a file that is laid out

-- a file that begins with the contents of a session tells what they list
found : (file c rest : List ℕ) (s : Session) (part : BodyKind → List ℕ)
    → file ≡ c ++ rest
    → (length c ≡ size_of s) × TableOf s part c
    → Marked (mask file) (is_some s.resting) (is_some s.events) (is_some s.note)
    × (contents file ≡ length c)
    × ((kind : BodyKind) → told file kind ≡ length (part kind))
found file c rest s part laid (z, t) =
    let r = is_some s.resting in
    let e = is_some s.events in
    let n = is_some s.note in
    let size : BodyKind → ℕ = λ kind. length (part kind) in
    let whole = same_table file c r e n size (λ k l. rw laid (get_or_append_left c rest 0 k (omega arith))) t in
    let says = told_table file r e n whole.masked in
    let m = marked (mask file) r e n whole.masked in (
      m,
      m.sized ∙ sym z,
      of_each (λ kind. told file kind ≡ size kind)
          (sym says.heads ∙ whole.heads)
          (sym says.rests ∙ whole.rests)
          (sym says.times ∙ whole.times)
          (sym says.notes ∙ whole.notes),
    )

-- the bodies as the layout has them
abbrev part_of : (file : List ℕ) (s : Session) → KeepsLayout file s → BodyKind → List ℕ
part_of file s k Heading = k.heading
part_of file s k Resting = k.resting
part_of file s k Events = k.events
part_of file s k Note = k.note

same_shown : {X : Type 0} (said : List ℕ → X) {b c : Bool} {us vs : List ℕ}
    → b ≡ c
    → us ≡ vs
    → cond b (Some (said us)) None ≡ cond c (Some (said vs)) None
same_shown said p q = rw (p, q)

pub same_session : (s t : Session)
    → s.last_sale ≡ t.last_sale
    → s.ranking ≡ t.ranking
    → s.resting ≡ t.resting
    → s.events ≡ t.events
    → s.note ≡ t.note
    → s ≡ t
same_session s t l k r e n = λ i. record { last_sale = l i; ranking = k i; resting = r i; events = e i; note = n i }

-- a file that is laid out has no fault, its bytes say the session, and its bodies are the layout's parts
pub layout_read : (file : List ℕ) (s : Session) (k : KeepsLayout file s)
    → (fault file ≡ None) × (session_of file ≡ s) × ((kind : BodyKind) → body file kind ≡ part_of file s k kind)
layout_read file s k =
    let part : BodyKind → List ℕ = part_of file s k in
    let h = heading_read s.last_sale s.ranking k.heading k.headed in
    let r = body_read Resting RestingBody orders_in resting_read refl refl s.resting k.resting k.rested in
    let e = body_read Events EventsBody events_in events_read refl refl s.events k.events k.timed in
    let n = body_read Note NoteBody (λ bs. bs) note_read refl refl s.note k.note k.noted in
    let t = table_read s part k.contents k.listed r.sized e.sized n.sized in
    let f = found file k.contents (in_sequence part) s part k.laid t in
    let p = parts file k.contents part k.laid f.1 f.2 in
    let filled = parts_fill file k.contents part k.laid f.1 f.2 in
    let Fits : BodyKind → Type 0 = λ kind. fits kind (length (part kind)) ≡ true in
    let Clean : BodyKind → Type 0 = λ kind. bad_field kind (part kind) ≡ None in
    let fit = of_each Fits (eq-eqb _ 8 h.0) r.fitting e.fitting n.fitting in
    let none = of_each Clean h.1 r.clean e.clean n.clean in
    let laid : Laid file = record {
      small = k.small;
      some = omega arith;
      known = f.0.small;
      headed = f.0.headed;
      tabled = omega arith;
      filled = filled;
    } in
    let a : Accepted file = record {
      parts = laid;
      fitting = λ kind. rw (f.2 kind) (fit kind);
      clean = λ kind. rw (p kind) (none kind);
    } in
    let same = same_session (session_of file) s
    (ap (λ bs. four bs 0) (p Heading) ∙ h.2)
    (ap (λ bs. byte bs 4) (p Heading) ∙ h.3)
    (same_shown orders_in f.0.rested (p Resting) ∙ r.same)
    (same_shown events_in f.0.timed (p Events) ∙ e.same)
    (same_shown (λ bs. bs) f.0.noted (p Note) ∙ n.same) in
    (accepted_none file a, same, p)
