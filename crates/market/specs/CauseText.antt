-- How a cause is printed.
use Rattle.std.specs.Prelude.{ℕ, List, ◌++◌, codes, decimal}
use Rattle.market.specs.Causes.{Cause}

-- its number, layer and byte as decimal numbers, with commas between
abbrev pub cause_text : Cause → List ℕ
cause_text c = decimal c.number ++ (codes "," ++ (decimal c.layer ++ (codes "," ++ decimal c.byte)))
