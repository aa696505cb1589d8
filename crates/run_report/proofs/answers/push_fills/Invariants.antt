use Rattle.std.proofs.Common.{◌≡◌, ◌++◌, take, string_bytes}
use Rattle.std.specs.List.{flat_map}
use Rattle.run_report.specs.Answers.{fill_line}
use Rattle.run_report.proofs.answers.push_fills.Given as goal

-- the lines so far stand behind the text
abbrev pub invariant-loop-allotment : goal.invariant-loop-allotment
invariant-loop-allotment l = string_bytes l.text ≡ string_bytes l.initial.text ++ flat_map fill_line (take l.allotment-index l.allotments)
