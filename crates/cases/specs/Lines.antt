-- A line of a table: a name, a space, 32, and what is asked.
use Rattle.std.specs.Prelude.{ℕ, cond, List, length, nat_lt, Option, Some, None, ◌==◌}
use Rattle.std.specs.List.{after_first, before_first, position_or_len}

-- what stands before the first space: the whole line, where it has none
abbrev pub name_of : List ℕ → List ℕ
name_of line = before_first (λ b. b == 32) line

-- what stands behind the first space
abbrev pub text_of : List ℕ → Option (List ℕ)
text_of line = cond (nat_lt (position_or_len (λ b. b == 32) line) (length line)) (Some (after_first (λ b. b == 32) line)) None
