-- The outcome of a cross, put together from what the cross of a book answers and from how the auction book is settled.
use Rattle.std.proofs.Common.{◌≡◌, ℕ, Bool, cond, eqb, List, length, ◌∙◌}
use Rattle.market.specs.declared.order.OrderTerms.{OrderTerms}
use Rattle.cross.specs.declared.allotment.Allotment.{Allotment}
use Rattle.cross.specs.declared.crossing.Crossing.{Crossing}
use Rattle.cross.specs.Allotments.{allotted}
use Rattle.cross.specs.Clearing.{clearing_price}
use Rattle.cross.specs.Crossing.{clearing_fills}
use Rattle.cross.specs.Depth.{executed}
use Rattle.auction.specs.declared.answer.Outcome.{Outcome}
use Rattle.auction.specs.declared.settlement.Settlement.{Settlement}
use Rattle.auction.specs.Auctions.{Auction, collar_high, collar_low, twice, whole}
use Rattle.auction.specs.Outcomes.{list_after, outcome}
use Rattle.auction.specs.Settling.{settled}

module _ (a : Auction) (filed : List OrderTerms) (good : OrderTerms → OrderTerms → Bool) where
  abbrev with_parts : (price executed : ℕ) → Settlement → (records : ℕ) → Outcome
  with_parts p e s n = record {
    price = cond (eqb e 0) 0 p;
    executed = e;
    filled = s.filled;
    ended = s.ended;
    released = s.released;
    records = n;
  }

  abbrev in_range : (lowest highest twice : ℕ) → Outcome
  in_range lo hi t =
      let p = clearing_price lo hi t (whole a filed) in
      with_parts p (executed lo hi (whole a filed) p) (settled a.orders (clearing_fills lo hi good (whole a filed) t)) (length (whole a filed))

  module _ (lo hi t : ℕ) (low : lo ≡ collar_low a) (high : hi ≡ collar_high a) (middle : t ≡ twice a) where
    pub outcome_is : (c : Crossing) (s : Settlement) (n : ℕ) (o : Outcome)
        → c.price.cents ≡ clearing_price lo hi t (whole a filed)
        → c.executed ≡ executed lo hi (whole a filed) (clearing_price lo hi t (whole a filed))
        → s ≡ settled a.orders (clearing_fills lo hi good (whole a filed) t)
        → n ≡ length (whole a filed)
        → o ≡ with_parts c.price.cents c.executed s n
        → o ≡ outcome a filed good
    outcome_is c s n o price shares settles count is =
        let parts : with_parts c.price.cents c.executed s n ≡ in_range lo hi t = λ i. with_parts (price i) (shares i) (settles i) (count i) in
        let ranges : in_range lo hi t ≡ outcome a filed good = λ i. in_range (low i) (high i) (middle i) in
        is ∙ (parts ∙ ranges)

    pub list_is : (before after : List Allotment) → after ≡ allotted (whole a filed) (clearing_fills lo hi good (whole a filed) t) before → after ≡ list_after a filed good before
    list_is before after w =
        let ranges : allotted (whole a filed) (clearing_fills lo hi good (whole a filed) t) before ≡ list_after a filed good before
        = λ i. allotted (whole a filed) (clearing_fills (low i) (high i) good (whole a filed) (middle i)) before in
        w ∙ ranges
