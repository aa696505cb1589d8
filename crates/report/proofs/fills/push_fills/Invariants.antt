use Rattle.std.proofs.Common.{◌≡◌, ◌++◌, take, string_bytes}
use Rattle.std.specs.List.{flat_map}
use Rattle.report.specs.Text.{fill_line}
use Rattle.report.proofs.fills.push_fills.Given as goal

-- the lines so far stand behind the text
abbrev pub invariant-loop-place : goal.invariant-loop-place
invariant-loop-place l = string_bytes l.text ≡ string_bytes l.initial.text ++ flat_map fill_line (take l.place-index l.allotments)
