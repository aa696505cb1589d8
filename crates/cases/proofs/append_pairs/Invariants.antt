-- The pairs so far are read, and the rest reads on.
use Rattle.std.proofs.Common.{◌≡◌, drop}
use Rattle.cases.proofs.Pairs.{with_cut}
use Rattle.cases.proofs.append_pairs.Given as goal

abbrev pub invariant-loop-high : goal.invariant-loop-high
invariant-loop-high l = with_cut (drop l.high-index l.pairs) l.bytes.items ≡ with_cut l.pairs l.initial.bytes.items
