-- What holds of every auction of a run: its prices exist, and its book is not over full. So its reference range and its
-- collar are ranges.
use Rattle.std.proofs.Common.{◌≡◌, ℕ, suc, ◌+◌, ◌-◌, ◌<◌, ◌≤◌, min, max, Bool, true, false, cond, eqb, leb, List, [], ◌∷◌, length, take, drop, set, Some, None, Option, refl, arith, lit<}
use Rattle.std.proofs.lemmas.List.{length-append, length-drop, length_push, length-set, length-take}
use Rattle.std.proofs.lemmas.Bool.{cond_both, eqb-true, leb-false}
use Rattle.std.proofs.lemmas.Bool.Decides.{nat_tests}
use Rattle.std.specs.List.{remove, AllByRecursion as All}
use Rattle.market.specs.Calls.{Call, enter, cancel, quote, publish, lock, shut, cross, call_of}
use Rattle.market.specs.Prices.{highest_price, lowest_price}
use Rattle.market.specs.Ranges.{cents_of, reference_highest, reference_lowest}
use Rattle.market.specs.declared.event.Event.{Event}
use Rattle.market.specs.declared.event.Event.TheVariants.{Enter, Cancel, Quote, Publish, Lock, Shut, Cross}
use Rattle.market.specs.declared.order.OrderTerms.{OrderTerms}
use Rattle.market.specs.declared.price.Price.{Price}
use Rattle.cross.specs.Fills.{at_place}
use Rattle.auction.specs.Auctions.{Auction, collar_high, collar_low, range_high, range_low, started}
use Rattle.auction.specs.Changing.{orders_left}
use Rattle.replay.specs.Performing.{State, Done, accepted_done, left, performed, refused_done}
use Rattle.auction.specs.Refusing.{causes, first_cause, first_of}
use Rattle.auction.specs.Rows.{lowered, most_accepted, place_of}

pub record Bounded (a : Auction) : Type 0 where
  pub sale : a.last_sale ≤ highest_price
  pub bid : a.bid ≤ highest_price
  pub few : length a.orders ≤ most_accepted

-- a call with prices that exist
abbrev pub Priced : Call → Type 0
Priced (enter o) = Unit {0}
Priced (cancel e n) = Unit {0}
Priced (quote b o) = b ≤ highest_price
Priced publish = Unit {0}
Priced lock = Unit {0}
Priced shut = Unit {0}
Priced cross = Unit {0}

price_exists : (p : Option Price) → cents_of p ≤ highest_price
price_exists None = omega arith
price_exists (Some p) = p.lawful.1

-- the program's own calls have no others
pub event_priced : (e : Event) → Priced (call_of e)
event_priced (Enter o) = tt
event_priced (Cancel e n) = tt
event_priced (Quote q) = price_exists q.bid
event_priced Publish = tt
event_priced Lock = tt
event_priced Shut = tt
event_priced Cross = tt

-- ---- ranges

ends_ordered : (b o l : ℕ) → reference_lowest b o l ≤ reference_highest b o l
ends_ordered b o l = grind (arith, nat_tests)

pub range_ordered : (a : Auction) → range_low a ≤ range_high a
range_ordered a = ends_ordered a.bid a.offer a.last_sale

low_exists : (b o l : ℕ) → b ≤ highest_price → l ≤ highest_price → reference_lowest b o l ≤ highest_price
low_exists b o l h k = grind (arith, nat_tests)

sides_ordered : (lo hi n : ℕ) → lo ≤ hi → lo ≤ highest_price → max lowest_price (lo - max 50 n) ≤ min highest_price (hi + max 50 n)
sides_ordered lo hi n h k = omega arith

pub collar_ordered : (a : Auction) → Bounded a → collar_low a ≤ collar_high a
collar_ordered a b =
    sides_ordered (range_low a) (range_high a) _ (range_ordered a) (low_exists a.bid a.offer a.last_sale b.bid b.sale)

-- ---- a run keeps the bounds

-- where no cause is given, none applies
none_applies : (cs : List (ℕ × Bool)) → All (λ (c : ℕ × Bool). 0 < c.0) cs → first_of cs ≡ 0 → All (λ (c : ℕ × Bool). c.1 ≡ false) cs
none_applies [] n e = tt
none_applies (c ∷ cs) n e =
    let here : (b : Bool) → cond b c.0 (first_of cs) ≡ 0 → (b ≡ false) × (first_of cs ≡ 0)
    = λ b. elim b as (λ v. cond v c.0 (first_of cs) ≡ 0 → (v ≡ false) × (first_of cs ≡ 0)) [ true ↦ λ h. absurd (omega (arith, n.0)) | false ↦ λ h. (refl, h) ] in
    let both = here c.1 e in
    (both.0, none_applies cs n.1 both.1)

removed_fewer : (os : List OrderTerms) (i : ℕ) → length (remove os i) ≤ length os
removed_fewer os i =
    omega (arith, length-append (take i os) (drop (suc i) os), length-take i os, length-drop (suc i) os)

left_fewer : (os : List OrderTerms) (n : ℕ) (r : Option ℕ) → length (orders_left os n r) ≤ length os
left_fewer os n None = omega arith
left_fewer os n (Some i) =
    cond_both (leb (at_place os i).shares n) (remove os i) (set os i (lowered (at_place os i) n)) (λ (xs : List OrderTerms). length xs ≤ length os)
    (λ _. removed_fewer os i)
    (λ _. omega (arith, length-set os i (lowered (at_place os i) n)))

module _ (good : OrderTerms → OrderTerms → Bool) (d : State) (filed : List OrderTerms) (time : ℕ) (b : Bounded d.auction) where
  left_bounded : (c : Call) → Priced c → first_cause d.auction filed (length d.list) time c ≡ 0 → Bounded (left good d filed time c)
  left_bounded (enter o) p e =
      let cs = causes d.auction filed (length d.list) time (enter o) in
      let none = none_applies cs (lit< tt, (lit< tt, (lit< tt, (lit< tt, (lit< tt, (lit< tt, (lit< tt, tt))))))) e in
      let room = leb-false most_accepted (length d.auction.orders) none.1.1.1.1.1.1.0 in
      record { sale = b.sale; bid = b.bid; few = omega (arith, room, length_push d.auction.orders o) }
  left_bounded (cancel n m) p e =
      record { sale = b.sale; bid = b.bid; few = omega (arith, b.few, left_fewer d.auction.orders m (place_of d.auction.orders n)) }
  left_bounded (quote n m) p e = record { sale = b.sale; bid = p; few = b.few }
  left_bounded publish p e = record { sale = b.sale; bid = b.bid; few = b.few }
  left_bounded lock p e = record { sale = b.sale; bid = b.bid; few = b.few }
  left_bounded shut p e = record { sale = b.sale; bid = b.bid; few = b.few }
  left_bounded cross p e = record { sale = b.sale; bid = b.bid; few = omega arith }

  -- what holds of an accepted call and of a refused one holds of a call
  pub either_way : (c : Call) (P : Done → Type 0)
      → (first_cause d.auction filed (length d.list) time c ≡ 0 → P (accepted_done good d filed time c))
      → P (refused_done good d filed time c)
      → P (performed good d filed time c)
  either_way c P yes_so no_so =
      cond_both (eqb (first_cause d.auction filed (length d.list) time c) 0) (accepted_done good d filed time c) (refused_done good d filed time c) P
      (λ e. yes_so (eqb-true _ 0 e))
      (λ _. no_so)

  pub performed_bounded : (c : Call) → Priced c → Bounded (performed good d filed time c).next.auction
  performed_bounded c p = either_way c (λ (x : Done). Bounded x.next.auction) (left_bounded c p) b

pub started_bounded : (l : ℕ) → l ≤ highest_price → Bounded (started l)
started_bounded l h = record { sale = h; bid = omega arith; few = omega arith }
