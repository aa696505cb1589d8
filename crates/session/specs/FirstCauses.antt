-- The causes of layers 2 and 3 by where they stand in the file: which bodies have a wrong length, which fields are
-- outside their values, and what it is to be the first of them, where no lower number applies.
use Rattle.std.specs.Prelude.{◌≡◌, ℕ, ◌+◌, ◌*◌, ◌/◌, ◌<◌, ◌≤◌, true, false, ◌⊎◌, List, [], ◌∷◌, length}
use Rattle.session.specs.declared.body.BodyKind.{BodyKind}
use Rattle.session.specs.declared.body.BodyKind.TheVariants.{Heading, Resting, Events, Note}
use Rattle.session.specs.declared.field.Field.{Field}
use Rattle.session.specs.Fields.{admits, size, value}
use Rattle.session.specs.Records.{event_size, heading_fields, order_size}
use Rattle.session.specs.Contents.{body, contents, end, mask, present, start, told}
use Rattle.session.specs.Faults.{fields_of_event, fields_of_order, fits, largest_file}

-- where the fields stand one after the other from a byte on, one of them begins at byte b and is outside its values
abbrev pub BadAt : List Field → List ℕ → (at b : ℕ) → Type 0
BadAt [] bs at b = ⊥
BadAt (f ∷ fs) bs at b =
    ((b ≡ at) × (admits f.values (value f.width bs at) ≡ false)) ⊎ BadAt fs bs (at + size f.width) b

-- such a field is in the k-th record of a body, for some k
abbrev pub BadRecord : (List ℕ → ℕ → List Field) → ℕ → List ℕ → ℕ → Type 0
BadRecord fields s bs b = (k : ℕ) × (k < length bs / s) × BadAt (fields bs (s * k)) bs (s * k) b

-- such a field is in a body; a note has no fields
abbrev pub BadIn : BodyKind → List ℕ → ℕ → Type 0
BadIn Heading bs b = BadAt heading_fields bs 0 b
BadIn Resting bs b = BadRecord fields_of_order order_size bs b
BadIn Events bs b = BadRecord fields_of_event event_size bs b
BadIn Note bs b = ⊥

-- a field of this body begins at byte b of the file and is outside its values
abbrev pub OutsideIn : List ℕ → BodyKind → ℕ → Type 0
OutsideIn file kind b = (o : ℕ) × (b ≡ start file kind + o) × BadIn kind (body file kind) o

-- a field of the file does
abbrev pub Outside : List ℕ → ℕ → Type 0
Outside file b = (kind : BodyKind) × OutsideIn file kind b

-- layer 1 has no cause: the file is not empty and not too large, its mask is one of a file, and the contents and the
-- bodies make it up
pub record Laid (file : List ℕ) : Type 0 where
  pub small : length file ≤ largest_file
  pub some : 1 ≤ length file
  pub known : mask file ≤ 15
  pub headed : present file Heading ≡ true
  pub tabled : contents file ≤ length file
  pub filled : end file ≡ length file

-- layer 1 has no cause, and byte b is where the first body of a wrong length begins
pub record FirstLength (file : List ℕ) (b : ℕ) : Type 0 where
  pub parts : Laid file
  pub kind : BodyKind
  pub begins : b ≡ start file kind
  pub wrong : fits kind (told file kind) ≡ false
  pub first : (k : BodyKind) → fits k (told file k) ≡ false → b ≤ start file k

-- layer 1 has no cause, each body has a length of its kind, and byte b is where the first field outside its values begins
pub record FirstField (file : List ℕ) (b : ℕ) : Type 0 where
  pub parts : Laid file
  pub fitting : (k : BodyKind) → fits k (told file k) ≡ true
  pub outside : Outside file b
  pub first : (c : ℕ) → Outside file c → b ≤ c
