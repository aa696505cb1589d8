-- How a number is written: a decimal number is its leading digits written the same way, then its last digit; a negative
-- one has a minus first.
use Rattle.std.specs.Prelude.{◌≡◌, ℕ, zero, suc, ◌+◌, ◌/◌, ◌%◌, ◌<◌, ◌≤◌, true, false, List, [], ◌∷◌, ◌++◌, ℤ, pos, negsuc, codes, nat_lt}

-- the digits are the ten bytes from `0`, 48, on
abbrev pub digit : ℕ → List ℕ
digit d = (48 + d) ∷ []

-- a number in at most so many places; the cases are no `cond`, so that only the one that holds is computed
unfoldable pub digits : (places : ℕ) → ℕ → List ℕ
digits zero n = []
digits (suc places) n = elim (nat_lt n 10) [ true ↦ digit n | false ↦ digits places (n / 10) ++ digit (n % 10) ]

-- n + 1 places are enough for any n
unfoldable pub decimal : ℕ → List ℕ
decimal n = digits (suc n) n

-- the rule itself, of every number
pub record DecimalRule : Type 0 where
  pub one : (n : ℕ) → n < 10 → decimal n ≡ digit n
  pub more : (n : ℕ) → 10 ≤ n → decimal n ≡ decimal (n / 10) ++ digit (n % 10)

-- negsuc n is -(n + 1)
abbrev pub integer : ℤ → List ℕ
integer (pos n) = decimal n
integer (negsuc n) = codes "-" ++ decimal (suc n)
