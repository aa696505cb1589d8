-- Hex digits as the tables of cases write them.
use Rattle.std.specs.Prelude.{ℕ, ◌+◌, ◌-◌, ◌*◌, cond, ◌&&◌, nat_le, nat_lt, Option, Some, None, option_map, option_and_then}

-- the code of the digit of a value below 16: 0 to 9, and then a to f
abbrev pub hex : ℕ → ℕ
hex d = cond (nat_lt d 10) (48 + d) (87 + d)

-- the value of a digit
abbrev pub digit_of : ℕ → Option ℕ
digit_of c =
    cond (nat_le 48 c && nat_le c 57) (Some (c - 48)) (cond (nat_le 97 c && nat_le c 102) (Some (c - 87)) None)

-- the byte of two digits, the higher one first
abbrev pub byte_of : (high low : ℕ) → Option ℕ
byte_of high low = option_and_then (λ h. option_map (λ l. 16 * h + l) (digit_of low)) (digit_of high)
