-- What a cross of an auction does.
use Rattle.std.specs.Prelude.{ℕ, Bool, cond, List, length, ◌==◌}
use Rattle.market.specs.declared.order.OrderTerms.{OrderTerms}
use Rattle.cross.specs.declared.allotment.Allotment.{Allotment}
use Rattle.cross.specs.Allotments.{allotted}
use Rattle.cross.specs.Crossing.{clearing_fills}
use Rattle.cross.specs.Depth.{executed}
use Rattle.auction.specs.declared.answer.Outcome.{Outcome}
use Rattle.auction.specs.Auctions.{Auction, collar_high, collar_low, twice, whole}
use Rattle.auction.specs.Publishing.{collared_price}
use Rattle.auction.specs.Settling.{settled}

module _ (a : Auction) (filed : List OrderTerms) (good : OrderTerms → OrderTerms → Bool) where
  -- the clearing price of the whole book in the collar, the fills there, and the shares executed
  abbrev pub cross_price : ℕ
  cross_price = collared_price a (whole a filed)

  abbrev pub cross_fills : ℕ → ℕ
  cross_fills = clearing_fills (collar_low a) (collar_high a) good (whole a filed) (twice a)

  abbrev pub cross_shares : ℕ
  cross_shares = executed (collar_low a) (collar_high a) (whole a filed) cross_price

  -- the price is 0 where nothing is executed
  abbrev pub outcome : Outcome
  outcome = record {
    price = cond (cross_shares == 0) 0 cross_price;
    executed = cross_shares;
    filled = (settled a.orders cross_fills).filled;
    ended = (settled a.orders cross_fills).ended;
    released = (settled a.orders cross_fills).released;
    records = length (whole a filed);
  }

  -- what the allotment list then holds
  abbrev pub list_after : (before : List Allotment) → List Allotment
  list_after before = allotted (whole a filed) cross_fills before
