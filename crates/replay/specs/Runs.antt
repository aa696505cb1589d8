-- A run: timed calls on an auction, one after the other, each with the book that then stands as the filed book.
use Rattle.std.specs.Prelude.{ℕ, Bool, List, [], ◌∷◌}
use Rattle.market.specs.Calls.{Call, call_of}
use Rattle.market.specs.declared.order.OrderTerms.{OrderTerms}
use Rattle.cross.specs.declared.allotment.Allotment.{Allotment}
use Rattle.replay.specs.declared.step.Step.{Step}
use Rattle.auction.specs.Auctions.{started}
use Rattle.replay.specs.Performing.{State, Done, Reply, performed}

pub record Asked : Type 0 where
  pub time : ℕ
  pub call : Call
  pub filed : List OrderTerms

-- what the program's own steps ask, where `orders` lists a filed book
abbrev pub asked : {F : Type 0} → (F → List OrderTerms) → Step F → Asked
asked orders s = record { time = s.time; call = call_of s.event; filed = orders s.filed }

-- an auction that was just started, with an allotment list
abbrev pub first_state : (last_sale : ℕ) → List Allotment → State
first_state l list = record { auction = started l; list = list }

module _ (good : OrderTerms → OrderTerms → Bool) where
  unfoldable pub step : State → Asked → Done
  step d s = performed good d s.filed s.time s.call

  -- what all the calls leave
  abbrev pub after : State → List Asked → State
  after d [] = d
  after d (s ∷ ss) = after (step d s).next ss

  -- how they are answered
  abbrev pub answers : State → List Asked → List Reply
  answers d [] = []
  answers d (s ∷ ss) = (step d s).answer ∷ answers (step d s).next ss
