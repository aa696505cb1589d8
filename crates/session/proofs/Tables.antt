-- The contents as a table: the mask, and where each length stands, by the presence of each body. A file reads them
-- so (`told-table`), and the numbers of a session's contents are written so (`table-read` and `table-written`).
use Rattle.std.proofs.Common.{◌≡◌, ℕ, ◌+◌, ◌<◌, ◌≤◌, Bool, true, false, cond, List, [], ◌++◌, length, is_some, Some, None, Option, sym, refl, ◌∙◌, append-nil, add-zero, zero-add, arith}
use Rattle.session.specs.declared.field.Width.{Width}
use Rattle.session.specs.declared.body.BodyKind.{BodyKind}
use Rattle.session.specs.declared.body.BodyKind.TheVariants.{Heading, Resting, Events, Note}
use Rattle.session.specs.Fields.{byte, two, Written, total, Spells}
use Rattle.session.specs.Contents.{mask, told}
use Rattle.session.specs.Layout.{Session, flag, length_told, contents_numbers}
use Rattle.session.proofs.Masks.{mask_of, table_size, marked}

-- the bytes begin with the contents of bodies of these sizes; an absent body has size 0
pub record Table (bs : List ℕ) (r e n : Bool) (size : BodyKind → ℕ) : Type 0 where
  pub masked : byte bs 0 ≡ mask_of r e n
  pub heads : two bs 1 ≡ size Heading
  pub rests : cond r (two bs 3) 0 ≡ size Resting
  pub times : cond e (two bs (3 + cond r 2 0)) 0 ≡ size Events
  pub notes : cond n (two bs (3 + cond r 2 0 + cond e 2 0)) 0 ≡ size Note

-- a file with this mask tells the lengths of its bodies so
pub told_table : (file : List ℕ) (r e n : Bool)
    → mask file ≡ mask_of r e n
    → Table file r e n (told file)
told_table file r e n q =
    let k = marked (mask file) r e n q in
    record {
      masked = q;
      heads = rw (k.headed, k.heading_at);
      rests = rw (k.rested, k.resting_at);
      times = rw (k.timed, k.events_at);
      notes = rw (k.noted, k.note_at);
    }

-- ---- the contents are read from the first bytes alone

same_two : (us vs : List ℕ) (size from : ℕ) (b : Bool)
    → ((k : ℕ) → k < size → byte us k ≡ byte vs k)
    → from + cond b 2 0 ≤ size
    → cond b (two us from) 0 ≡ cond b (two vs from) 0
same_two us vs size from true same h = rw (same from (omega arith), same (from + 1) (omega arith))
same_two us vs size from false same h = refl

pub same_table : (us vs : List ℕ) (r e n : Bool) (size : BodyKind → ℕ)
    → ((k : ℕ) → k < table_size r e n → byte us k ≡ byte vs k)
    → Table vs r e n size
    → Table us r e n size
same_table us vs r e n size same d =
    record {
      masked = same 0 (omega arith) ∙ d.masked;
      heads = same_two us vs (table_size r e n) 1 true same (omega arith) ∙ d.heads;
      rests = same_two us vs (table_size r e n) 3 r same (omega arith) ∙ d.rests;
      times = same_two us vs (table_size r e n) (3 + cond r 2 0) e same (omega arith) ∙ d.times;
      notes = same_two us vs (table_size r e n) (3 + cond r 2 0 + cond e 2 0) n same (omega arith) ∙ d.notes;
    }

-- ---- the numbers of the contents, by the presence of the bodies

-- one length, where its body is present, and the numbers after it
length_total : {X : Type 0} (o : Option X) (bs : List ℕ) (ns : List (Width × ℕ))
    → total (length_told o bs ++ ns) ≡ cond (is_some o) 2 0 + total ns
length_total None bs ns = sym (zero-add (total ns))
length_total (Some x) bs ns = refl

length_read : {X : Type 0} (o : Option X) (bs : List ℕ) (ns : List (Width × ℕ)) (c : List ℕ) (from : ℕ)
    → Written (length_told o bs ++ ns) c from
    → cond (is_some o) (length bs) 0 ≡ length bs
    → (cond (is_some o) (two c from) 0 ≡ length bs) × Written ns c (from + cond (is_some o) 2 0)
length_read None bs ns c from w e = (e, rw add-zero w)
length_read (Some x) bs ns c from w e = w

length_written : {X : Type 0} (o : Option X) (bs : List ℕ) (ns : List (Width × ℕ)) (c : List ℕ) (from : ℕ)
    → cond (is_some o) (two c from) 0 ≡ length bs
    → Written ns c (from + cond (is_some o) 2 0)
    → Written (length_told o bs ++ ns) c from
length_written None bs ns c from e w = rw add-zero at w
length_written (Some x) bs ns c from e w = (e, w)

flag_is : {X : Type 0} (k : ℕ) (o : Option X) → flag k o ≡ cond (is_some o) k 0
flag_is k None = refl
flag_is k (Some x) = refl

-- the same of the bodies of a session, which are these parts
abbrev pub numbers_of : Session → (BodyKind → List ℕ) → List (Width × ℕ)
numbers_of s part = contents_numbers s (part Heading) (part Resting) (part Events) (part Note)

abbrev pub size_of : Session → ℕ
size_of s = table_size (is_some s.resting) (is_some s.events) (is_some s.note)

abbrev pub TableOf : Session → (BodyKind → List ℕ) → List ℕ → Type 0
TableOf s part bs = Table bs (is_some s.resting) (is_some s.events) (is_some s.note) (λ kind. length (part kind))

mask_flags : (s : Session)
    → 1 + flag 2 s.resting + flag 4 s.events + flag 8 s.note
    ≡ mask_of (is_some s.resting) (is_some s.events) (is_some s.note)
mask_flags s = rw (flag_is 2 s.resting, flag_is 4 s.events, flag_is 8 s.note)

-- where the lengths of the events and of the note stand
abbrev events_from : Session → ℕ
events_from s = 3 + cond (is_some s.resting) 2 0

abbrev note_from : Session → ℕ
note_from s = events_from s + cond (is_some s.events) 2 0

-- what is listed after the heading and after the resting orders
abbrev note_told : Session → (BodyKind → List ℕ) → List (Width × ℕ)
note_told s part = length_told s.note (part Note)

abbrev events_told : Session → (BodyKind → List ℕ) → List (Width × ℕ)
events_told s part = length_told s.events (part Events) ++ note_told s part

numbers_total : (s : Session) (part : BodyKind → List ℕ) → total (numbers_of s part) ≡ size_of s
numbers_total s part =
    let r = length_total s.resting (part Resting) (events_told s part) in
    let e = length_total s.events (part Events) (note_told s part) in
    let n = rw append-nil at (length_total s.note (part Note) []) in
    omega arith

-- where an absent body has no bytes, the contents are a table of the lengths
pub table_read : (s : Session) (part : BodyKind → List ℕ) (c : List ℕ)
    → Spells (numbers_of s part) c
    → cond (is_some s.resting) (length (part Resting)) 0 ≡ length (part Resting)
    → cond (is_some s.events) (length (part Events)) 0 ≡ length (part Events)
    → cond (is_some s.note) (length (part Note)) 0 ≡ length (part Note)
    → (length c ≡ size_of s) × TableOf s part c
table_read s part c w zr ze zn =
    let r = length_read s.resting (part Resting) (events_told s part) c 3 w.1.1.1 zr in
    let e = length_read s.events (part Events) (note_told s part) c (events_from s) r.1 ze in
    let last = rw (← append-nil (note_told s part)) at e.1 in
    let n = length_read s.note (part Note) [] c (note_from s) last zn in (
      w.0 ∙ numbers_total s part,
      record {
        masked = w.1.0 ∙ mask_flags s;
        heads = w.1.1.0;
        rests = r.0;
        times = e.0;
        notes = n.0;
      },
    )

pub table_written : (s : Session) (part : BodyKind → List ℕ) (c : List ℕ)
    → (length c ≡ size_of s) × TableOf s part c
    → Spells (numbers_of s part) c
table_written s part c (z, t) =
    let n = rw append-nil at (length_written s.note (part Note) [] c (note_from s) t.notes tt) in
    let e = length_written s.events (part Events) (note_told s part) c (events_from s) t.times n in
    let r = length_written s.resting (part Resting) (events_told s part) c 3 t.rests e in
    (z ∙ sym (numbers_total s part), (t.masked ∙ sym (mask_flags s), (t.heads, r)))
