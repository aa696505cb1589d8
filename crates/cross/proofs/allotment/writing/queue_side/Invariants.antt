use Rattle.std.proofs.Common.{◌≡◌, length}
use Rattle.book.specs.Going.{ahead}
use Rattle.cross.proofs.Queueing.{Queueing}
use Rattle.cross.proofs.allotment.writing.queue_side.Given as goal

-- the orders of the places passed stand at the front
abbrev pub invariant-loop-place : goal.invariant-loop-place
invariant-loop-place g l = record {
  can_next : (goal.iterator-loop-place g).can_next l.order-iterator;
  ends : (goal.iterator-loop-place g).is_finite l.order-iterator;
  long : length l.queue ≡ 4096;
  queueing : Queueing l.side (g.B.Book.orders l.book) l.place l.count (ahead g.B.Book.orders l.order-iterator) l.queue;
}
