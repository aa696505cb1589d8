-- Fields of bytes: numbers of one, two or four bytes, the most significant byte first, and the values that each
-- may hold.
use Rattle.std.specs.Prelude.{◌≡◌, ℕ, ◌+◌, ◌*◌, Bool, cond, not, ◌&&◌, ◌||◌, List, [], ◌∷◌, length, Some, None, Option, ◌==◌, bit_and, nat_le, slice_index}
use Rattle.market.specs.Prices.{lawful_price}
use Rattle.market.specs.Orders.{lawful_shares}
use Rattle.market.specs.Calls.{last_time}
use Rattle.session.specs.declared.field.Width.{Width}
use Rattle.session.specs.declared.field.Width.TheVariants.{One, Two, Four}
use Rattle.session.specs.declared.field.Values.{Values}
use Rattle.session.specs.declared.field.Values.TheVariants.{
  Zero,
  Mark,
  Ranking,
  EntryNumber,
  Cents,
  CentsOrNone,
  Shares,
  TimeOfDay,
  EventKind,
  EnterFlags,
}
use Rattle.session.specs.declared.field.Field.{Field}

abbrev pub byte : List ℕ → ℕ → ℕ
byte bs at = slice_index bs at

abbrev pub two : List ℕ → ℕ → ℕ
two bs at = byte bs at * 256 + byte bs (at + 1)

abbrev pub four : List ℕ → ℕ → ℕ
four bs at = ((byte bs at * 256 + byte bs (at + 1)) * 256 + byte bs (at + 2)) * 256 + byte bs (at + 3)

abbrev pub size : Width → ℕ
size One = 1
size Two = 2
size Four = 4

-- the number that begins at a byte
abbrev pub value : Width → List ℕ → ℕ → ℕ
value One bs at = byte bs at
value Two bs at = two bs at
value Four bs at = four bs at

-- whether a sum of powers of two has this one
abbrev pub has : ℕ → ℕ → Bool
has n bit = not (bit_and n bit == 0)

abbrev pub admits : Values → ℕ → Bool
admits Zero n = n == 0
admits Mark n = nat_le n 1
admits Ranking n = n == 1 || n == 2
admits EntryNumber n = nat_le 1 n
admits Cents n = lawful_price n
admits CentsOrNone n = n == 0 || lawful_price n
admits Shares n = lawful_shares n
admits TimeOfDay n = nat_le n last_time
admits EventKind n = nat_le 1 n && nat_le n 7
admits EnterFlags n = nat_le n 15 && not (has n 2 && has n 4)

-- the first byte of the first field that is outside its values, where the fields stand one after the other
abbrev pub first_bad : List Field → List ℕ → ℕ → Option ℕ
first_bad [] bs at = None
first_bad (f ∷ fs) bs at =
    cond (admits f.values (value f.width bs at)) (first_bad fs bs (at + size f.width)) (Some at)

-- how many bytes the fields have together
abbrev pub span : List Field → ℕ
span [] = 0
span (f ∷ fs) = size f.width + span fs

-- these numbers, each with its width, stand one after the other from a byte on
abbrev pub Written : List (Width × ℕ) → List ℕ → ℕ → Type 0
Written [] bs at = Unit {0}
Written (n ∷ ns) bs at = (value n.0 bs at ≡ n.1) × Written ns bs (at + size n.0)

abbrev pub total : List (Width × ℕ) → ℕ
total [] = 0
total (n ∷ ns) = size n.0 + total ns

-- the bytes are just these numbers
abbrev pub Spells : List (Width × ℕ) → List ℕ → Type 0
Spells ns bs = (length bs ≡ total ns) × Written ns bs 0
