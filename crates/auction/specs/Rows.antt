-- What the auction book holds, and what a cancel leaves of it.
use Rattle.std.specs.Prelude.{ℕ, ◌-◌, ◌≤◌, min, cond, List, length, vec_items, Option, position, ◌==◌, nat_le, slice_set}
use Rattle.std.proofs.Common.{arith}
use Rattle.std.specs.List.{remove}
use Rattle.market.specs.declared.order.OrderTerms.{OrderTerms}
use Rattle.cross.specs.Fills.{at_place}
use Rattle.auction.specs.declared.auction_book.AuctionBook.{AuctionBook}

-- the orders in the book, in order of acceptance
abbrev pub accepted : AuctionBook → List OrderTerms
accepted b = vec_items b.rows

-- so many orders it holds at the most
abbrev pub most_accepted : ℕ
most_accepted = 256

pub accepted_short : (b : AuctionBook) → length (accepted b) ≤ 4096
accepted_short b = omega (arith, b.few, b.rows.ok.0)

-- the place of the first order with an entry number
abbrev pub place_of : List OrderTerms → (entry : ℕ) → Option ℕ
place_of os e = position (λ o. o.entry == e) os

-- the order with fewer shares
abbrev pub lowered : OrderTerms → (by : ℕ) → OrderTerms
lowered o n = record {
  side = o.side;
  price = o.price;
  shares = o.shares - n;
  entry = o.entry;
  displayed = o.displayed;
  stays = o.stays;
}

-- Up to the asked shares are taken off the order at a place.
abbrev pub taken_at : List OrderTerms → (asked place : ℕ) → ℕ
taken_at os n i = min n (at_place os i).shares

-- If none are left the order goes and the later ones move up; otherwise it is cut in its place.
abbrev pub left_at : List OrderTerms → (asked place : ℕ) → List OrderTerms
left_at os n i = cond (nat_le (at_place os i).shares n) (remove os i) (slice_set os i (lowered (at_place os i) n))
