-- What the cross answered and wrote.
use Rattle.std.proofs.Common.{◌≡◌, ℕ, ◌∙◌, subst}
use Rattle.market.specs.RankingNames.{ranking_number}
use Rattle.market.specs.Ranges.{twice_middle}
use Rattle.report.specs.Pricing.{Priced}
use Rattle.report.specs.Text.{ranking_of}
use Rattle.report.proofs.figures.Figures.of.Goals as goal

pub returns-clause-crossed : goal.returns-clause-crossed
returns-clause-crossed g c =
    let x = rw c.unwrap-crossing.ensures at c.cross_by.ensures in
    let r = c.collar-collar.result in
    let l = c.args.heading.last_sale.cents in
    let Crossed-with : ℕ → Type 0 = λ t.
    Priced r.lowest.cents r.highest.cents (ranking_of (ranking_number c.args.heading.ranking)) (g.B.Book.orders c.args.book.now) t c.args.list.now c.cross_by.new.list c.unwrap-crossing.result.price.cents c.unwrap-crossing.result.executed in
    let one = c.from-last.ensures in
    let middle : c.twice_middle.result ≡ twice_middle l l = c.twice_middle.ensures ∙ (λ i. twice_middle (one.0 i).cents (one.1 i).cents) in
    subst Crossed-with middle (record { at = x.price; executes = x.shares; fills = x.written })
