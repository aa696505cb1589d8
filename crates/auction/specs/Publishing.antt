-- The published figures of an auction.
use Rattle.std.specs.Prelude.{ℕ, List, pos, ◌-ℤ◌}
use Rattle.market.specs.declared.order.OrderTerms.{OrderTerms}
use Rattle.cross.specs.Clearing.{clearing_price}
use Rattle.cross.specs.Depth.{bought, executed, sold}
use Rattle.auction.specs.declared.answer.Figures.{Figures}
use Rattle.auction.specs.Auctions.{Auction, collar_high, collar_low, range_high, range_low, twice, whole}

module _ (a : Auction) where
  -- the clearing price of the auction book in the reference range
  abbrev pub reference_price : ℕ
  reference_price = clearing_price (range_low a) (range_high a) (twice a) a.orders

  -- the clearing price of a list of orders in the collar
  abbrev pub collared_price : List OrderTerms → ℕ
  collared_price os = clearing_price (collar_low a) (collar_high a) (twice a) os

  abbrev pub published : (filed : List OrderTerms) → Figures
  published filed = record {
    reference_price = reference_price;
    paired_shares = executed (range_low a) (range_high a) a.orders reference_price;
    imbalance = pos (bought (range_low a) (range_high a) a.orders reference_price) -ℤ pos (sold (range_low a) (range_high a) a.orders reference_price);
    indicative_price = collared_price (whole a filed);
    auction_price = collared_price a.orders;
    collar_lowest = collar_low a;
    collar_highest = collar_high a;
    twice_middle = twice a;
  }
