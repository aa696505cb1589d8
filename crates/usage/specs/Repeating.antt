-- A cross of an auction that is lent two allotment lists: it writes the first if that has room, else the second.
use Rattle.std.specs.Prelude.{Bool, cond, List, length, nat_lt}
use Rattle.market.specs.declared.order.OrderTerms.{OrderTerms}
use Rattle.cross.specs.declared.allotment.Allotment.{Allotment}
use Rattle.auction.specs.Auctions.{Auction, whole}
use Rattle.auction.specs.Outcomes.{list_after}

module _ (a : Auction) (filed : List OrderTerms) (good : OrderTerms → OrderTerms → Bool) (first second : List Allotment) where
  -- the first list is shorter than the whole book
  abbrev pub first_short : Bool
  first_short = nat_lt (length first) (length (whole a filed))

  -- what the lists then hold
  abbrev pub first_after : List Allotment
  first_after = cond first_short first (list_after a filed good first)

  abbrev pub second_after : List Allotment
  second_after = cond first_short (list_after a filed good second) second
