use Rattle.std.proofs.Common.{◌≡◌, ◌+◌, ◌-◌, true, false}
use Rattle.cross.specs.Serving.{served_in}
use Rattle.cross.proofs.Bisection.{OnTheWay}
use Rattle.cross.proofs.clearing.first_served.Given as goal

-- unserved on the one side, served on the other, and both on the way
abbrev pub invariant-loop-side : goal.invariant-loop-side
invariant-loop-side g l =
    (served_in g.B.Book.orders l.ranged l.side l.unserved.cents ≡ false)
    × (served_in g.B.Book.orders l.ranged l.side l.found.cents ≡ true)
    × OnTheWay l.fn.from.cents l.fn.to.cents l.unserved.cents l.found.cents

abbrev pub decreases-loop-side : goal.decreases-loop-side
decreases-loop-side g l = (l.found.cents - l.unserved.cents) + (l.unserved.cents - l.found.cents)
