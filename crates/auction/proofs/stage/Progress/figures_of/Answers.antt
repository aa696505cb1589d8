-- What the search answers in each range is what is published.
use Rattle.std.proofs.Common.{◌∙◌, w64, SFits, rules}
use Rattle.std.proofs.lemmas.Int.{to_z-of_z}
use Rattle.auction.specs.Auctions.{auction_at}
use Rattle.auction.specs.Rows.{accepted}
use Rattle.auction.specs.Stages.{in_shut}
use Rattle.auction.proofs.FigureSums.{figures_are}
use Rattle.auction.proofs.stage.Progress.figures_of.Goals as goal

pub returns : goal.returns
returns g c =
    let a = auction_at in_shut c.args.self.now (accepted c.args.book.now) in
    let filed = g.F.Book.orders c.args.filed.now in
    let fits : SFits w64 c.imbalance.result = search rules in
    figures_are a filed c.of-depth.result c.reference_range-range.result.lowest.cents c.reference_range-range.result.highest.cents c.twice_middle-twice.result c.collar-collar.result.lowest.cents c.collar-collar.result.highest.cents c.clearing_price-reference.result.cents c.clearing_price.result.cents c.clearing_price-2.result.cents c.executed.result _
    c.reference_range-range.ensures.lowest
    c.reference_range-range.ensures.highest
    c.twice_middle-twice.ensures
    c.collar-collar.ensures.lowest
    c.collar-collar.ensures.highest
    c.clearing_price-reference.ensures
    c.of-depth.ensures
    c.executed.ensures
    (to_z-of_z w64 c.imbalance.result fits ∙ c.imbalance.ensures)
    c.clearing_price.ensures
    c.clearing_price-2.ensures
