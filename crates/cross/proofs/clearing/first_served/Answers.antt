-- The bisection from its beginning to its end.
use Rattle.std.proofs.Common.{arith}
use Rattle.cross.specs.Serving.{served_in}
use Rattle.cross.proofs.Bisection.{way_begins, way_ends}
use Rattle.cross.proofs.clearing.first_served.Goals as goal

pub loop-side-init : goal.loop-side-init
loop-side-init g c = (
  c.requires.unserved,
  c.requires.served,
  way_begins (served_in g.B.Book.orders c.args.ranged.now c.args.side) _ _ c.requires.unserved c.requires.served,
)

pub returns : goal.returns
returns g c = record {
  served = c.loop-side.invariant.1;
  first = way_ends (served_in g.B.Book.orders c.args.ranged.now c.args.side) _ _ _ _ c.loop-side.invariant.0 c.loop-side.invariant.2 (omega arith);
}
