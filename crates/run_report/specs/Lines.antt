-- A line of the report: a word, and then numbers.
use Rattle.std.specs.Prelude.{ℕ, List, ◌++◌, ℤ, codes}
use Rattle.std.specs.List.{flat_map}
use Rattle.run_report.specs.Decimals.{integer}

-- a comma, and then the number
abbrev pub field : ℤ → List ℕ
field n = codes "," ++ integer n

-- a field for each number, and at the end a line feed
abbrev pub numbers : List ℤ → List ℕ
numbers ns = flat_map field ns ++ codes "\n"

abbrev pub line : List ℕ → List ℤ → List ℕ
line word ns = word ++ numbers ns
