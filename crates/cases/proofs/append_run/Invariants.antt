-- The copies so far are read, and the rest reads on.
use Rattle.std.proofs.Common.{◌≡◌, ◌-◌}
use Rattle.cases.specs.Runs.{with_copies}
use Rattle.cases.proofs.append_run.Given as goal

abbrev pub invariant-loop : goal.invariant-loop
invariant-loop l = with_copies (l.times - l.counter) l.digits l.bytes.items ≡ with_copies l.times l.digits l.initial.bytes.items
