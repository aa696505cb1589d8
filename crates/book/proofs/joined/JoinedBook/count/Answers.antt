-- The lengths add up, to the most that a book has.
use Rattle.std.proofs.Common.{arith}
use Rattle.book.proofs.Joining.{length_joined}
use Rattle.book.proofs.joined.JoinedBook.count.Goals as goal

pub returns : goal.returns
returns g c = omega (arith, length_joined (g.A.Book.orders c.args.self.now.first) (g.B.Book.orders c.args.self.now.second))
