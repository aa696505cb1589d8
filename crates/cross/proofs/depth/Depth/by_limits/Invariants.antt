use Rattle.book.specs.Going.{ahead}
use Rattle.cross.proofs.PassSteps.{Passing}
use Rattle.cross.proofs.depth.Depth.by_limits.Given as goal

-- the depth of the orders passed
abbrev pub invariant-loop-order : goal.invariant-loop-order
invariant-loop-order g l = record {
  can_next : (goal.iterator-loop-order g).can_next l.order-iterator;
  ends : (goal.iterator-loop-order g).is_finite l.order-iterator;
  passing : Passing l.price.cents (ahead g.B.Book.orders l.order-iterator) (g.B.Book.orders l.book) l.depth;
}
