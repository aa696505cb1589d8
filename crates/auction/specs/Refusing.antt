-- Why a call on an auction is refused: numbered causes, of which the first that applies is given.
use Rattle.std.specs.Prelude.{ℕ, Bool, true, false, cond, not, ◌&&◌, ◌||◌, List, [], ◌∷◌, length, is_some, Ok, Err, Result, ◌==◌, nat_le, nat_lt}
use Rattle.market.specs.Calls.{Call, enter, cancel, quote, publish, lock, shut, cross}
use Rattle.market.specs.Causes.{Cause, at, cause}
use Rattle.market.specs.Orders.{lawful_shares}
use Rattle.market.specs.declared.order.OrderPrice.{OrderPrice}
use Rattle.market.specs.declared.order.OrderPrice.TheVariants.{Market, Limit}
use Rattle.market.specs.declared.order.Side.{Side}
use Rattle.market.specs.declared.order.Side.TheVariants.{Buy, Sell}
use Rattle.market.specs.declared.order.OrderTerms.{OrderTerms}
use Rattle.market.specs.declared.refusal.Refusal.{Refusal}
use Rattle.auction.specs.Stages.{Stage, entry_end, has_call, in_collar}
use Rattle.auction.specs.Auctions.{Auction, collar_high, collar_low, whole}
use Rattle.auction.specs.Rows.{most_accepted, place_of}
use Rattle.auction.specs.Schedule.{cross_time, day_end, lock_time, shut_time}

-- the first cause, in the list's order, that applies; 0 if none does
abbrev pub first_of : List (ℕ × Bool) → ℕ
first_of [] = 0
first_of (c ∷ cs) = cond c.1 c.0 (first_of cs)

-- A call's refusal has no layer and no byte; number 0 stands for none.
abbrev pub refusal : ℕ → Cause
refusal n = at n 0 0

abbrev pub verdict : {X : Type 0} → Result X Refusal → Cause
verdict (Ok x) = refusal 0
verdict (Err e) = cause e

-- the same of a call that hands its stage back where it is refused
abbrev pub verdict_back : {X Y : Type 0} → Result X (Y × Refusal) → Cause
verdict_back (Ok x) = refusal 0
verdict_back (Err e) = cause e.1

-- from when, and before when, a call may come
abbrev pub call_from : Call → ℕ
call_from (enter o) = 0
call_from (cancel e n) = 0
call_from (quote b o) = 0
call_from publish = 0
call_from lock = lock_time
call_from shut = shut_time
call_from cross = cross_time

abbrev pub call_end : Stage → Call → ℕ
call_end s (enter o) = entry_end s
call_end s (cancel e n) = lock_time
call_end s (quote b o) = day_end
call_end s publish = day_end
call_end s lock = day_end
call_end s shut = day_end
call_end s cross = day_end

-- a time outside its bounds
abbrev pub outside : (from end time : ℕ) → Bool
outside from end time = nat_lt time from || nat_le end time

-- a market order, a buy above the collar, a sell below it
abbrev pub beyond : (lowest highest : ℕ) → Side → OrderPrice → Bool
beyond lo hi side Market = true
beyond lo hi Buy (Limit cents) = nat_lt hi cents
beyond lo hi Sell (Limit cents) = nat_lt cents lo

-- 5: a field outside its values
abbrev pub outside_values : Call → Bool
outside_values (enter o) = false
outside_values (cancel e n) = e == 0 || not (lawful_shares n)
outside_values (quote b o) = false
outside_values publish = false
outside_values lock = false
outside_values shut = false
outside_values cross = false

module _ (a : Auction) where
  -- the causes of one call alone, where a filed book and an allotment list of some room are lent
  abbrev own_causes : (filed : List OrderTerms) → (room : ℕ) → Call → List (ℕ × Bool)
  own_causes filed room (enter o) =
      -- the entry number is not above the last accepted
      (8, nat_le o.entry a.last_entry)
      -- a locked auction takes orders within the collar
      ∷ (9, in_collar a.stage && beyond (collar_low a) (collar_high a) o.side o.price)
      -- the auction book is full
      ∷ (10, nat_le most_accepted (length a.orders))
      ∷ []
  -- no order with that number rests in the auction book
  own_causes filed room (cancel e n) = (11, not (is_some (place_of a.orders e))) ∷ []
  own_causes filed room (quote b o) = []
  own_causes filed room publish = []
  own_causes filed room lock = []
  own_causes filed room shut = []
  -- the allotment list is shorter than the whole book
  own_causes filed room cross = (12, nat_lt room (length (whole a filed))) ∷ []

  -- The causes of a call at a time. The lowest number comes first, but that of a call that the stage lacks comes before 6.
  abbrev pub causes : (filed : List OrderTerms) → (room time : ℕ) → Call → List (ℕ × Bool)
  causes filed room time c =
      (5, outside_values c)
      ∷ (13, not (has_call c a.stage))
      ∷ (6, nat_lt time a.last_time)
      ∷ (7, outside (call_from c) (call_end a.stage c) time)
      ∷ own_causes filed room c

  abbrev pub first_cause : (filed : List OrderTerms) → (room time : ℕ) → Call → ℕ
  first_cause filed room time c = first_of (causes filed room time c)

  -- of a call that is lent neither
  abbrev pub call_cause : (time : ℕ) → Call → ℕ
  call_cause time c = first_cause [] 0 time c
