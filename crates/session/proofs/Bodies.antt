-- Where the bodies lie: each ends where the next begins. So all lie in a file that the last of them does not leave,
-- and a file that they fill is the contents and then the bodies, and the other way round.
use Rattle.std.proofs.Common.{◌≡◌, ℕ, ◌+◌, ◌≤◌, List, [], ◌++◌, length, take, drop, sym, ap, append_assoc, append-nil, arith}
use Rattle.std.proofs.lemmas.List.{length-append, length-drop, length-take-le, take-append-drop, take_all, take_at, drop-drop, drop_at}
use Rattle.session.specs.declared.body.BodyKind.{BodyKind}
use Rattle.session.specs.declared.body.BodyKind.TheVariants.{Heading, Resting, Events, Note}
use Rattle.session.specs.Contents.{told, contents, start, end, body}

-- what holds of each body holds of all
pub of_each : (P : BodyKind → Type 0) → P Heading → P Resting → P Events → P Note → (kind : BodyKind) → P kind
of_each P h r e n Heading = h
of_each P h r e n Resting = r
of_each P h r e n Events = e
of_each P h r e n Note = n

pub body_within : (file : List ℕ) (kind : BodyKind)
    → end file ≤ length file
    → start file kind + told file kind ≤ length file
body_within file Heading h = omega arith
body_within file Resting h = omega arith
body_within file Events h = omega arith
body_within file Note h = h

pub length_body : (file : List ℕ) (kind : BodyKind) → end file ≤ length file → length (body file kind) ≡ told file kind
length_body file kind h =
    length-take-le (told file kind) (drop (start file kind) file)
    (simp length-drop (omega (arith, body_within file kind h)))

-- ---- a file that the bodies fill

abbrev pub in_sequence : (BodyKind → List ℕ) → List ℕ
in_sequence part = part Heading ++ (part Resting ++ (part Events ++ part Note))

drop_parts : (n k : ℕ) (xs : List ℕ) → drop n xs ≡ take k (drop n xs) ++ drop (n + k) xs
drop_parts n k xs = rw (← drop-drop k n xs) (sym (take-append-drop k (drop n xs)))

-- the last part is all that is left
rest_all : (n k : ℕ) (xs : List ℕ) → n + k ≡ length xs → take k (drop n xs) ≡ drop n xs
rest_all n k xs e = take_all k (drop n xs) (simp length-drop (omega arith))

pub laid_out : (file : List ℕ)
    → end file ≡ length file
    → file ≡ take (contents file) file ++ in_sequence (body file)
laid_out file e =
    let whole = take-append-drop (contents file) file in
    let h = drop_parts (start file Heading) (told file Heading) file in
    let r = drop_parts (start file Resting) (told file Resting) file in
    let t = drop_parts (start file Events) (told file Events) file in
    let n = rest_all (start file Note) (told file Note) file e in
    cc

-- ---- a file that is made of parts, and tells their lengths

-- a part after these lists, whose lengths add up to n
part_between : (before part after file : List ℕ) (n k : ℕ)
    → file ≡ before ++ (part ++ after)
    → n ≡ length before
    → k ≡ length part
    → take k (drop n file) ≡ part
part_between before part after file n k e b p =
    rw (e, drop_at before (part ++ after) n (sym b)) (take_at part after k (sym p))

-- its bodies are the parts
pub parts : (file c : List ℕ) (part : BodyKind → List ℕ)
    → file ≡ c ++ in_sequence part
    → contents file ≡ length c
    → ((kind : BodyKind) → told file kind ≡ length (part kind))
    → (kind : BodyKind) → body file kind ≡ part kind
parts file c part laid z tells Heading =
    part_between c (part Heading) (part Resting ++ (part Events ++ part Note)) file _ _ laid z (tells Heading)
parts file c part laid z tells Resting =
    let h = tells Heading in
    part_between (c ++ part Heading) (part Resting) (part Events ++ part Note) file _ _ (simp append_assoc laid)
    (simp length-append (omega arith)) (tells Resting)
parts file c part laid z tells Events =
    let h = tells Heading in
    let r = tells Resting in
    part_between ((c ++ part Heading) ++ part Resting) (part Events) (part Note) file _ _ (simp append_assoc laid)
    (simp length-append (omega arith)) (tells Events)
parts file c part laid z tells Note =
    let h = tells Heading in
    let r = tells Resting in
    let e = tells Events in
    part_between (((c ++ part Heading) ++ part Resting) ++ part Events) (part Note) [] file _ _
    (simp (append_assoc, append-nil) laid) (simp length-append (omega arith)) (tells Note)

-- and they fill it
pub parts_fill : (file c : List ℕ) (part : BodyKind → List ℕ)
    → file ≡ c ++ in_sequence part
    → contents file ≡ length c
    → ((kind : BodyKind) → told file kind ≡ length (part kind))
    → end file ≡ length file
parts_fill file c part laid z tells =
    let all = simp length-append at (ap length laid) in
    omega (arith, tells Heading, tells Resting, tells Events, tells Note)
