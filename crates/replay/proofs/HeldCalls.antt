-- What a call does to the auction that was matched is what the step asks of the auction that is held.
use Rattle.std.proofs.Common.{◌≡◌, ℕ, Bool, List, sym, ◌∙◌}
use Rattle.market.specs.Calls.{call_of}
use Rattle.market.specs.declared.event.Event.{Event}
use Rattle.market.specs.declared.order.OrderTerms.{OrderTerms}
use Rattle.cross.specs.declared.allotment.Allotment.{Allotment}
use Rattle.auction.specs.declared.auction_book.AuctionBook.{AuctionBook}
use Rattle.replay.specs.declared.held.Held.{Held}
use Rattle.replay.specs.Performing.{Done, held_auction, performed}

abbrev does : (OrderTerms → OrderTerms → Bool) → List OrderTerms → ℕ → AuctionBook → List Allotment → Held → Event → Done
does good filed t b l h e = performed good (record { auction = held_auction h b; list = l }) filed t (call_of e)

pub as_held : (good : OrderTerms → OrderTerms → Bool) (filed : List OrderTerms) (t : ℕ) (b : AuctionBook) (l : List Allotment) {held matched : Held} {asked told : Event} {x : Done}
    → held ≡ matched
    → asked ≡ told
    → x ≡ does good filed t b l matched told
    → x ≡ does good filed t b l held asked
as_held good filed t b l out is core = core ∙ (λ i. does good filed t b l (sym out i) (sym is i))
