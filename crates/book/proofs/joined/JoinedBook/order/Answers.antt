-- The books below answer for their own places.
use Rattle.std.proofs.Common.{sym, arith}
use Rattle.book.proofs.Joining.{joined_first, joined_second, length_joined}
use Rattle.book.proofs.joined.JoinedBook.order.Goals as goal

pub returns-then-place-ge-MOST_ORDERS : goal.returns-then-place-ge-MOST_ORDERS
returns-then-place-ge-MOST_ORDERS g c =
    omega (arith, length_joined (g.A.Book.orders c.args.self.now.first) (g.B.Book.orders c.args.self.now.second))

pub returns-then-place-before : goal.returns-then-place-before
returns-then-place-before g c =
    joined_first (g.A.Book.orders c.args.self.now.first) (g.B.Book.orders c.args.self.now.second) c.args.place c.order.result
    (omega arith)
    (omega (arith, c.count-before.ensures))
    c.order.ensures

pub returns-else-place-before : goal.returns-else-place-before
returns-else-place-before g c =
    joined_second (g.A.Book.orders c.args.self.now.first) (g.B.Book.orders c.args.self.now.second) c.count-before.result c.args.place c.order-else-place-before.result
    (omega arith)
    (sym c.count-before.ensures)
    c.if-place-before.false
    c.order-else-place-before.ensures
