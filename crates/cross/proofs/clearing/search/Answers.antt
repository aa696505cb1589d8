-- The three ways of the search.
use Rattle.std.proofs.Common.{rules}
use Rattle.cross.proofs.Searching.{ends_above, ends_at_middle, ends_below, highest_served, lowest_served}
use Rattle.cross.proofs.clearing.search.Goals as goal

pub first_served-requires : goal.first_served-requires
first_served-requires g c = record { unserved = search rules; served = highest_served _ _ (g.B.Book.orders c.args.ranged.now.book) }

pub returns-then-not-serves : goal.returns-then-not-serves
returns-then-not-serves g c =
    ends_above _ _ (g.B.Book.orders c.args.ranged.now.book) _ _ c.args.ranged.now.range.ordered c.clamp.ensures _ c.first_served.ensures.served c.first_served.ensures.first

pub first_served-requires-then-not-serves-2 : goal.first_served-requires-then-not-serves-2
first_served-requires-then-not-serves-2 g c = record { unserved = search rules; served = lowest_served _ _ (g.B.Book.orders c.args.ranged.now.book) }

pub returns-then-not-serves-2 : goal.returns-then-not-serves-2
returns-then-not-serves-2 g c =
    let found = c.first_served-then-not-serves-2 in
    ends_below _ _ (g.B.Book.orders c.args.ranged.now.book) _ _ c.args.ranged.now.range.ordered c.clamp.ensures _ found.ensures.served found.ensures.first

pub returns : goal.returns
returns g c = ends_at_middle _ _ (g.B.Book.orders c.args.ranged.now.book) _ _ c.args.ranged.now.range.ordered c.clamp.ensures (search rules) (search rules)
