-- An auction as plain values: its stage, its numbers, its quote and the orders of its book.
use Rattle.std.specs.Prelude.{ℕ, List, []}
use Rattle.market.specs.declared.order.OrderTerms.{OrderTerms}
use Rattle.market.specs.Ranges.{cents_of, collar_highest, collar_lowest, reference_highest, reference_lowest, twice_middle}
use Rattle.book.specs.Lists.{joined}
use Rattle.auction.specs.declared.auction_book.AuctionBook.{AuctionBook}
use Rattle.auction.specs.declared.stage.Progress.{Progress}
use Rattle.auction.specs.declared.stage.Auction.{Auction as Staged}
use Rattle.auction.specs.declared.stage.naming.OpenStage.{OpenStage}
use Rattle.auction.specs.declared.stage.naming.LockedStage.{LockedStage}
use Rattle.auction.specs.declared.stage.naming.ShutStage.{ShutStage}
use Rattle.auction.specs.declared.stage.naming.CrossedStage.{CrossedStage}
use Rattle.auction.specs.Stages.{Stage, in_crossed, in_locked, in_open, in_shut}
use Rattle.auction.specs.Rows.{accepted}

pub record Auction : Type 0 where
  pub stage : Stage
  pub last_sale : ℕ
  -- the time of the last accepted call, and the last accepted entry number
  pub last_time : ℕ
  pub last_entry : ℕ
  -- the protected quote, 0 where there is none
  pub bid : ℕ
  pub offer : ℕ
  -- the auction book, in order of acceptance
  pub orders : List OrderTerms

-- as a start leaves it
abbrev pub started : (last_sale : ℕ) → Auction
started l = record { stage = in_open; last_sale = l; last_time = 0; last_entry = 0; bid = 0; offer = 0; orders = [] }

module _ (a : Auction) where
  -- the ends of the reference range, their sum, and the ends of the collar
  abbrev pub range_low : ℕ
  range_low = reference_lowest a.bid a.offer a.last_sale

  abbrev pub range_high : ℕ
  range_high = reference_highest a.bid a.offer a.last_sale

  abbrev pub twice : ℕ
  twice = twice_middle range_low range_high

  abbrev pub collar_low : ℕ
  collar_low = collar_lowest range_low range_high

  abbrev pub collar_high : ℕ
  collar_high = collar_highest range_low range_high

  -- the auction book joined with a filed book
  abbrev pub whole : (filed : List OrderTerms) → List OrderTerms
  whole filed = joined a.orders filed

-- what the program's own stages say, each with the book that is lent to it
abbrev pub auction_at : Stage → Progress → List OrderTerms → Auction
auction_at s p os = record {
  stage = s;
  last_sale = p.last_sale.cents;
  last_time = p.last_time;
  last_entry = p.last_entry;
  bid = cents_of p.quote.bid;
  offer = cents_of p.quote.offer;
  orders = os;
}

abbrev pub auction_of : {S : Type 0} → Stage → Staged S → AuctionBook → Auction
auction_of stage s b = auction_at stage s.progress (accepted b)

abbrev pub open_auction : Staged OpenStage → AuctionBook → Auction
open_auction = auction_of in_open

abbrev pub locked_auction : Staged LockedStage → AuctionBook → Auction
locked_auction = auction_of in_locked

abbrev pub shut_auction : Staged ShutStage → AuctionBook → Auction
shut_auction = auction_of in_shut

abbrev pub crossed_auction : Staged CrossedStage → AuctionBook → Auction
crossed_auction = auction_of in_crossed
