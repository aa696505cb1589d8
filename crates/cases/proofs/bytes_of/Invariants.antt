-- The runs so far are read, and the rest reads on.
use Rattle.std.proofs.Common.{◌≡◌, eqb, length, drop}
use Rattle.std.specs.List.{slice_split}
use Rattle.cases.specs.Runs.{spelled, with_runs}
use Rattle.cases.proofs.bytes_of.Given as goal

abbrev pub invariant-loop-run : goal.invariant-loop-run
invariant-loop-run l = with_runs (drop (length l.yielded) (slice_split (λ b. eqb b 59) l.text)) l.bytes.items ≡ spelled l.text
