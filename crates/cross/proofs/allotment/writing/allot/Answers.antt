-- The buys at the front, and the sells into what is behind them.
use Rattle.std.proofs.Common.{arith}
use Rattle.cross.specs.Levels.{fill_at}
use Rattle.cross.proofs.Allotting.{both_written, sells_fit, sides_all}
use Rattle.cross.proofs.allotment.writing.allot.Goals as goal

pub serve_side-buys-requires : goal.serve_side-buys-requires
serve_side-buys-requires g c = omega (arith, sides_all (g.B.Book.orders c.args.book.now), c.requires)

pub serve_side-requires : goal.serve_side-requires
serve_side-requires g c =
    sells_fit (g.B.Book.orders c.args.book.now) c.serve_side-buys.new.list _ c.serve_side-buys.ensures.count (omega (arith, c.requires, c.serve_side-buys.auto.list))

pub returns : goal.returns
returns g c =
    let os = g.B.Book.orders c.args.book.now in
    both_written os (fill_at c.args.level g.R.Ranking.good os) c.args.list.now _ _ _ _ c.serve_side-buys.ensures.count c.serve_side.ensures.count c.serve_side-buys.ensures.records c.serve_side.ensures.records
