-- The price, the shares and the fills are those of the definitions, of which the theorem holds.
use Rattle.std.proofs.Common.{◌≡◌, sym, refl}
use Rattle.cross.specs.Clearing.{clearing_price}
use Rattle.cross.specs.Depth.{executed}
use Rattle.cross.proofs.BestCross.{best}
use Rattle.cross.proofs.FillSums.{fair, fills_sum}
use Rattle.cross.proofs.crossing.performing.cross.Goals as goal

pub returns : goal.returns
returns g c =
    let os = g.B.Book.orders c.args.book.now in
    let lo = c.args.range.lowest.cents in
    let hi = c.args.range.highest.cents in
    let good = g.R.Ranking.good in
    let laws = g.met.R.Ranking.lawful in
    let t = c.args.twice in
    let p = clearing_price lo hi t os in
    let price = c.clearing_price-price.ensures in
    let shares : c.executed-executed.result ≡ executed lo hi os p
    = rw (c.executed-executed.ensures, c.of.ensures, price) (refl {a = executed lo hi os p}) in
    record {
      price = price;
      shares = shares;
      written = rw (sym shares, sym price) c.allot.ensures;
      best = best lo hi os good laws (λ side q e. fills_sum lo hi good laws os side q e) t c.args.range.ordered;
      fair = fair lo hi good laws os p (executed lo hi os p);
    }
