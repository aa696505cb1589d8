-- Why a file is refused: the lowest number that applies; of wrong lengths the first body's, of fields outside
-- their values the first in the file.
use Rattle.std.specs.Prelude.{ℕ, zero, suc, ◌+◌, ◌*◌, ◌/◌, ◌%◌, Bool, true, cond, not, ◌&&◌, ◌||◌, List, length, Some, None, Option, ◌==◌, nat_le, nat_lt}
use Rattle.std.specs.Option.{option_map}
use Rattle.market.specs.Causes.{Cause, at}
use Rattle.session.specs.declared.body.BodyKind.{BodyKind}
use Rattle.session.specs.declared.body.BodyKind.TheVariants.{Heading, Resting, Events, Note}
use Rattle.session.specs.declared.field.Field.{Field}
use Rattle.session.specs.Fields.{byte, first_bad}
use Rattle.session.specs.Records.{
  heading_size,
  order_size,
  event_size,
  most_resting,
  heading_fields,
  order_fields,
  event_fields,
}
use Rattle.session.specs.Contents.{mask, present, told, contents, start, end, body}

abbrev pub largest_file : ℕ
largest_file = 65535

abbrev pub or_else : {X : Type 0} → Option X → Option X → Option X
or_else None b = b
or_else (Some x) b = Some x

-- the first of the bodies' faults, in the sequence of the bodies
abbrev pub first_of : (BodyKind → Option Cause) → Option Cause
first_of f = or_else (f Heading) (or_else (f Resting) (or_else (f Events) (f Note)))

-- whether a body of this kind can have this length
abbrev pub fits : BodyKind → ℕ → Bool
fits Heading n = n == heading_size
fits Resting n = n % order_size == 0 && nat_le n (order_size * most_resting)
fits Events n = n % event_size == 0
fits Note n = true

-- the first bad field of n records, from a byte on
abbrev pub first_in : (List ℕ → ℕ → List Field) → (size n : ℕ) → List ℕ → ℕ → Option ℕ
first_in fields size zero bs at = None
first_in fields size (suc n) bs at = or_else (first_bad (fields bs at) bs at) (first_in fields size n bs (at + size))

abbrev pub fields_of_order : List ℕ → ℕ → List Field
fields_of_order bs at = order_fields

-- an event's fields go by its kind and its flags
abbrev pub fields_of_event : List ℕ → ℕ → List Field
fields_of_event bs at = event_fields (byte bs (at + 4)) (byte bs (at + 5))

-- the first bad field of a body
abbrev pub bad_field : BodyKind → List ℕ → Option ℕ
bad_field Heading bs = first_bad heading_fields bs 0
bad_field Resting bs = first_in fields_of_order order_size (length bs / order_size) bs 0
bad_field Events bs = first_in fields_of_event event_size (length bs / event_size) bs 0
bad_field Note bs = None

abbrev pub wrong_length : List ℕ → BodyKind → Option Cause
wrong_length file kind = cond (fits kind (told file kind)) None (Some (at 4 2 (start file kind)))

abbrev pub wrong_field : List ℕ → BodyKind → Option Cause
wrong_field file kind = option_map (λ b. at 5 3 (start file kind + b)) (bad_field kind (body file kind))

-- layer 1: the file's size, its mask, and the sum of its parts
abbrev pub contents_fault : List ℕ → Option Cause
contents_fault file =
    cond (length file == 0 || nat_lt largest_file (length file)) (Some (at 1 1 0))
    (cond (nat_lt 15 (mask file) || (not (present file Heading) || nat_lt (length file) (contents file))) (Some (at 2 1 0))
    (cond (end file == length file) None (Some (at 3 1 1))))

-- layer by layer, the lowest number first; no cause: the file is accepted
abbrev pub fault : List ℕ → Option Cause
fault file = or_else (contents_fault file) (or_else (first_of (wrong_length file)) (first_of (wrong_field file)))
