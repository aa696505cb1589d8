-- Contents and bodies: byte 0 is a mask of bodies, then comes one length of two bytes for each bit that is set,
-- the lowest first, and then come the bodies without gaps. A body that is absent has length 0.
use Rattle.std.specs.Prelude.{ℕ, ◌+◌, ◌-◌, ◌*◌, Bool, cond, List, take, drop, bit_and, count_ones}
use Rattle.session.specs.declared.body.BodyKind.{BodyKind}
use Rattle.session.specs.declared.body.BodyKind.TheVariants.{Heading, Resting, Events, Note}
use Rattle.session.specs.Fields.{byte, two, has}

abbrev pub bit : BodyKind → ℕ
bit Heading = 1
bit Resting = 2
bit Events = 4
bit Note = 8

abbrev pub mask : List ℕ → ℕ
mask file = byte file 0

abbrev pub present : List ℕ → BodyKind → Bool
present file kind = has (mask file) (bit kind)

-- how many bodies of the mask come before this kind
abbrev pub rank : ℕ → BodyKind → ℕ
rank m kind = count_ones (bit_and m (bit kind - 1))

-- the length of a body, as the contents tell it
abbrev pub told : List ℕ → BodyKind → ℕ
told file kind = cond (present file kind) (two file (1 + 2 * rank (mask file) kind)) 0

-- how many bytes the contents have
abbrev pub contents : List ℕ → ℕ
contents file = 1 + 2 * count_ones (mask file)

-- where a body begins
abbrev pub start : List ℕ → BodyKind → ℕ
start file Heading = contents file
start file Resting = contents file + told file Heading
start file Events = contents file + told file Heading + told file Resting
start file Note = contents file + told file Heading + told file Resting + told file Events

-- where the last body ends
abbrev pub end : List ℕ → ℕ
end file = start file Note + told file Note

abbrev pub body : List ℕ → BodyKind → List ℕ
body file kind = take (told file kind) (drop (start file kind) file)
