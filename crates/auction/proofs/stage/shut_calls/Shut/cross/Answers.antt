-- With room for the whole book, a cross in time is not refused.
use Rattle.std.proofs.Common.{◌≡◌, false, ltb, length, rules}
use Rattle.std.proofs.lemmas.Bool.{le-ltb}
use Rattle.auction.specs.Auctions.{shut_auction, whole}
use Rattle.auction.proofs.stage.shut_calls.Shut.cross.Goals as goal

pub returns-in-Ok-clause-cause : goal.returns-in-Ok-clause-cause
returns-in-Ok-clause-cause g c =
    let n = length (whole (shut_auction c.args.self c.args.book.now) (g.F.Book.orders c.args.filed.now)) in
    let room : ltb (length c.args.list.now) n ≡ false = le-ltb (length c.args.list.now) n c.in-Ok.ensures.2 in
    search rules
