-- A run from a started auction keeps what is promised of runs.
use Rattle.std.proofs.Common.{◌≡◌, true, rules}
use Rattle.market.specs.Prices.{lawful_price}
use Rattle.auction.specs.Auctions.{open_auction, started}
use Rattle.replay.proofs.Deliveries.{every_clearing}
use Rattle.replay.proofs.Replays.{ran}
use Rattle.replay.proofs.running.replay.Goals as goal

pub returns-clause-every : goal.returns-clause-every
returns-clause-every g c = every_clearing

pub returns-in_err-auction-clause-every : goal.returns-in_err-auction-clause-every
returns-in_err-auction-clause-every g c = every_clearing

pub returns-then-given-steps-clause-every : goal.returns-then-given-steps-clause-every
returns-then-given-steps-clause-every g c = every_clearing

pub returns-clause-ran : goal.returns-clause-ran
returns-clause-ran g c =
    let l = c.args.last_sale in
    let did = c.run.ensures in
    let lawful : lawful_price l ≡ true = search rules in
    let begun : open_auction c.in_ok-auction.auction c.start.new.book ≡ started l = search rules in (
      lawful,
      ran g.F.Book.orders g.R.Ranking.good g.met.R.Ranking.lawful l c.args.list.now c.args.steps.now (open_auction c.in_ok-auction.auction c.start.new.book) _ _ _ begun lawful did.answered did.rests did.written,
      did.later,
    )
