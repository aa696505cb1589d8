use Rattle.std.proofs.Common.{◌≡◌, drop}
use Rattle.cross.specs.Levels.{asks_at}
use Rattle.cross.specs.Queues.{given_out}
use Rattle.cross.proofs.level.Level.give_out.Given as goal

-- what is left, given out along the rest of the queue, comes to the same list
abbrev pub invariant-loop-queued : goal.invariant-loop-queued
invariant-loop-queued l =
    given_out (asks_at l.self) (drop l.queued-index l.queue) l.left l.list
    ≡ given_out (asks_at l.self) l.queue l.self.executed l.initial.list
