-- The first records of the list are those of the whole book, and settle the auction book.
use Rattle.std.proofs.Common.{◌≡◌, ◌≤◌, length, sym, ap, ◌∙◌, subst, arith, length-take}
use Rattle.std.specs.List.{AllByRecursion as All}
use Rattle.market.specs.Ranges.{collar_highest, collar_lowest, twice_middle}
use Rattle.book.specs.Lists.{joined}
use Rattle.book.proofs.Joining.{length_joined}
use Rattle.cross.specs.Crossing.{clearing_fills}
use Rattle.cross.proofs.Allotting.{first_records, records_fit}
use Rattle.auction.specs.Auctions.{auction_at, collar_high, collar_low, twice}
use Rattle.auction.specs.Rows.{accepted, accepted_short}
use Rattle.auction.specs.Settling.{WithinShares, settled, settled_by}
use Rattle.auction.specs.Stages.{in_shut}
use Rattle.auction.proofs.CrossOutcome.{list_is, outcome_is}
use Rattle.auction.proofs.Settlements.{records_within, settled_of_records}
use Rattle.auction.proofs.stage.Progress.cross_whole.Given.{Over}
use Rattle.auction.proofs.stage.Progress.cross_whole.Goals as goal

-- the list has room for the records
room : (g : Over) (c : goal.After-count-records g) → c.count-records.result ≤ length c.cross.new.list
room g c =
    let os = joined (accepted c.args.book.now) (g.F.Book.orders c.args.filed.now) in
    let range = c.collar.result in
    let fill = clearing_fills range.lowest.cents range.highest.cents g.R.Ranking.good os c.twice_middle-twice.result in
    omega (arith, records_fit os fill c.cross.new.list c.args.list.now c.in_ok-crossing.ensures.written, c.count-records.ensures)

pub slice_bounds-of-end : goal.slice_bounds-of-end
slice_bounds-of-end g c = room g c

pub slice_bounds-of-end-2 : goal.slice_bounds-of-end-2
slice_bounds-of-end-2 g c = omega (arith, room g c, length-take c.count-records.result c.cross.new.list)

pub of-settlement-requires : goal.of-settlement-requires
of-settlement-requires g c =
    let mine = accepted c.args.book.now in
    let filed = g.F.Book.orders c.args.filed.now in
    let os = joined mine filed in
    let x = c.in_ok-crossing.ensures in
    let range = c.collar.result in
    let fill = clearing_fills range.lowest.cents range.highest.cents g.R.Ranking.good os c.twice_middle-twice.result in
    let after = c.cross.new.list in
    let before = c.args.list.now in
    let n = c.count-records.result in
    record {
      few = omega (arith, length_joined mine filed, c.count-records.ensures, length-take n after);
      within =
          subst (All (WithinShares mine)) (sym (first_records os fill after before n c.count-records.ensures x.written))
          (records_within mine filed fill (accepted_short c.args.book.now) x.best.cross.within);
    }

pub returns : goal.returns
returns g c =
    let a = auction_at in_shut c.args.self.now (accepted c.args.book.now) in
    let mine = accepted c.args.book.now in
    let filed = g.F.Book.orders c.args.filed.now in
    let os = joined mine filed in
    let good = g.R.Ranking.good in
    let x = c.in_ok-crossing.ensures in
    let range = c.collar.result in
    let lo = range.lowest.cents in
    let hi = range.highest.cents in
    let t = c.twice_middle-twice.result in
    let fill = clearing_fills lo hi good os t in
    let after = c.cross.new.list in
    let before = c.args.list.now in
    let n = c.count-records.result in
    let ends = c.reference_range-range.ensures in
    let low : lo ≡ collar_low a = c.collar.ensures.lowest ∙ (λ i. collar_lowest (ends.lowest i) (ends.highest i)) in
    let high : hi ≡ collar_high a = c.collar.ensures.highest ∙ (λ i. collar_highest (ends.lowest i) (ends.highest i)) in
    let middle : t ≡ twice a = c.twice_middle-twice.ensures ∙ (λ i. twice_middle (ends.lowest i) (ends.highest i)) in
    let settles : c.of-settlement.result ≡ settled mine fill
    = c.of-settlement.ensures
    ∙ (ap (settled_by mine) (first_records os fill after before n c.count-records.ensures x.written)
    ∙ settled_of_records mine filed fill (accepted_short c.args.book.now)) in
    let fits = records_fit os fill after before x.written in (
      outcome_is a filed good lo hi t low high middle c.in_ok-crossing.crossing c.of-settlement.result n c.answered.result x.price x.shares settles c.count-records.ensures c.answered.ensures,
      list_is a filed good lo hi t low high middle before after x.written,
      omega (arith, fits, c.cross.auto.list),
    )
