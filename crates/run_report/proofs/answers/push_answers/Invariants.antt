use Rattle.std.proofs.Common.{◌≡◌, ◌++◌, map, drop, string_bytes}
use Rattle.replay.specs.Performing.{reply}
use Rattle.run_report.specs.Answers.{all_lines}
use Rattle.run_report.proofs.answers.push_answers.Given as goal

-- the lines so far and those to come are all of them
abbrev pub invariant-loop-place : goal.invariant-loop-place
invariant-loop-place l =
    string_bytes l.text ++ all_lines l.list l.place (map reply (drop l.place l.answers))
    ≡ string_bytes l.initial.text ++ all_lines l.list 0 (map reply l.answers)
