-- What a call does to an auction and the allotment list that is lent to it, and how it is answered.
use Rattle.std.specs.Prelude.{◌≡◌, ℕ, Bool, cond, List, length, Ok, Err, Result, ◌==◌}
use Rattle.market.specs.Calls.{Call, enter, cancel, quote, publish, lock, shut, cross}
use Rattle.market.specs.Causes.{Cause, cause}
use Rattle.market.specs.declared.order.OrderTerms.{OrderTerms}
use Rattle.cross.specs.declared.allotment.Allotment.{Allotment}
use Rattle.market.specs.declared.refusal.Refusal.{Refusal}
use Rattle.replay.specs.declared.answer.Effect.{Effect}
use Rattle.replay.specs.declared.answer.Effect.TheVariants.{Entered, Cancelled, Quoted, Published, Moved, Crossed}
use Rattle.auction.specs.declared.answer.Figures.{Figures}
use Rattle.auction.specs.declared.answer.Outcome.{Outcome}
use Rattle.auction.specs.declared.auction_book.AuctionBook.{AuctionBook}
use Rattle.replay.specs.declared.held.Held.{Held}
use Rattle.replay.specs.declared.held.Held.TheVariants as held
use Rattle.auction.specs.Auctions.{Auction, crossed_auction, locked_auction, open_auction, shut_auction}
use Rattle.auction.specs.Changing.{cancelled, crossed, entered, moved, quoted, withdrawn}
use Rattle.auction.specs.Outcomes.{list_after, outcome}
use Rattle.auction.specs.Publishing.{published}
use Rattle.auction.specs.Refusing.{first_cause, refusal}
use Rattle.auction.specs.Stages.{in_locked, in_shut}

-- an answer, with a refusal by its number, layer and byte
pub data Reply : Type 0 where
  refuses : Cause → Reply
  enters : (shares : ℕ) → Reply
  cancels : (shares : ℕ) → Reply
  quotes : Reply
  publishes : Figures → Reply
  moves : Reply
  crosses : Outcome → Reply

abbrev pub Answer : Type 0
Answer = Result Effect Refusal

-- what the program's own answers say
abbrev pub reply : Answer → Reply
reply (Err e) = refuses (cause e)
reply (Ok (Entered n)) = enters n
reply (Ok (Cancelled n)) = cancels n
reply (Ok Quoted) = quotes
reply (Ok (Published f)) = publishes f
reply (Ok Moved) = moves
reply (Ok (Crossed o)) = crosses o

-- an auction, and the allotment list that is lent to it: what calls may write
pub record State : Type 0 where
  pub auction : Auction
  pub list : List Allotment

pub record Done : Type 0 where
  pub next : State
  pub answer : Reply

module _ (good : OrderTerms → OrderTerms → Bool) (d : State) (filed : List OrderTerms) (time : ℕ) where
  -- accepted, a call answers ..
  abbrev pub answered : Call → Reply
  answered (enter o) = enters o.shares
  answered (cancel e n) = cancels (withdrawn d.auction e n)
  answered (quote b o) = quotes
  answered publish = publishes (published d.auction filed)
  answered lock = moves
  answered shut = moves
  answered cross = crosses (outcome d.auction filed good)

  -- .. and leaves the auction ..
  abbrev pub left : Call → Auction
  left (enter o) = entered d.auction time o
  left (cancel e n) = cancelled d.auction time e n
  left (quote b o) = quoted d.auction time b o
  left publish = moved d.auction time d.auction.stage
  left lock = moved d.auction time in_locked
  left shut = moved d.auction time in_shut
  left cross = crossed d.auction time

  -- .. and the list
  abbrev pub listed : Call → List Allotment
  listed (enter o) = d.list
  listed (cancel e n) = d.list
  listed (quote b o) = d.list
  listed publish = d.list
  listed lock = d.list
  listed shut = d.list
  listed cross = list_after d.auction filed good d.list

  abbrev pub accepted_done : Call → Done
  accepted_done c = record { next = record { auction = left c; list = listed c }; answer = answered c }

  abbrev pub refused_done : Call → Done
  refused_done c = record { next = d; answer = refuses (refusal (first_cause d.auction filed (length d.list) time c)) }

  -- Refused for the first cause that applies, and then nothing changes; else accepted.
  abbrev pub performed : Call → Done
  performed c = cond (first_cause d.auction filed (length d.list) time c == 0) (accepted_done c) (refused_done c)

-- What a call does that takes neither a ranking nor a list: it is done so whichever there are.
abbrev pub DoesWith : (filed : List OrderTerms) → (before : Auction) → (time : ℕ) → Call → (after : Auction) → Reply → Type 0
DoesWith filed a t c b s =
    (good : OrderTerms → OrderTerms → Bool) (list : List Allotment)
    → ◌≡◌ {A = Done} (record { next = record { auction = b; list = list }; answer = s }) (performed good (record { auction = a; list = list }) filed t c)

-- nor a filed book
abbrev pub Does : (before : Auction) → (time : ℕ) → Call → (after : Auction) → Reply → Type 0
Does a t c b s = (filed : List OrderTerms) → DoesWith filed a t c b s

-- the auction that a runner holds, with the book that is lent to it
abbrev pub held_auction : Held → AuctionBook → Auction
held_auction (held.Open s) b = open_auction s b
held_auction (held.Locked s) b = locked_auction s b
held_auction (held.Shut s) b = shut_auction s b
held_auction (held.Crossed s) b = crossed_auction s b
