-- What an accepted call leaves of an auction.
use Rattle.std.specs.Prelude.{ℕ, List, [], ◌∷◌, ◌++◌, Some, None, Option}
use Rattle.market.specs.declared.order.OrderTerms.{OrderTerms}
use Rattle.auction.specs.Stages.{Stage, in_crossed}
use Rattle.auction.specs.Auctions.{Auction}
use Rattle.auction.specs.Rows.{left_at, place_of, taken_at}

-- at a stage and a time, otherwise as it was
abbrev pub moved : Auction → (time : ℕ) → Stage → Auction
moved a t s = record {
  stage = s;
  last_sale = a.last_sale;
  last_time = t;
  last_entry = a.last_entry;
  bid = a.bid;
  offer = a.offer;
  orders = a.orders;
}

-- with one order more
abbrev pub entered : Auction → (time : ℕ) → OrderTerms → Auction
entered a t o = record {
  stage = a.stage;
  last_sale = a.last_sale;
  last_time = t;
  last_entry = o.entry;
  bid = a.bid;
  offer = a.offer;
  orders = a.orders ++ o ∷ [];
}

-- with other orders
abbrev pub holding : Auction → (time : ℕ) → Stage → List OrderTerms → Auction
holding a t s os = record {
  stage = s;
  last_sale = a.last_sale;
  last_time = t;
  last_entry = a.last_entry;
  bid = a.bid;
  offer = a.offer;
  orders = os;
}

-- up to the asked shares off the order of an entry number: what is taken, and the orders left
abbrev pub shares_taken : List OrderTerms → (asked : ℕ) → Option ℕ → ℕ
shares_taken os n None = 0
shares_taken os n (Some i) = taken_at os n i

abbrev pub orders_left : List OrderTerms → (asked : ℕ) → Option ℕ → List OrderTerms
orders_left os n None = os
orders_left os n (Some i) = left_at os n i

abbrev pub withdrawn : Auction → (entry asked : ℕ) → ℕ
withdrawn a e n = shares_taken a.orders n (place_of a.orders e)

abbrev pub cancelled : Auction → (time entry asked : ℕ) → Auction
cancelled a t e n = holding a t a.stage (orders_left a.orders n (place_of a.orders e))

-- with another quote
abbrev pub quoted : Auction → (time bid offer : ℕ) → Auction
quoted a t b o = record {
  stage = a.stage;
  last_sale = a.last_sale;
  last_time = t;
  last_entry = a.last_entry;
  bid = b;
  offer = o;
  orders = a.orders;
}

-- the auction book is empty after a cross
abbrev pub crossed : Auction → (time : ℕ) → Auction
crossed a t = holding a t in_crossed []
