-- What a run answered and left, with what is promised of it.
use Rattle.std.proofs.Common.{◌≡◌, ℕ, Bool, true, leb, List, [], ◌∷◌, map, length, take, sym, refl, ap, ◌∙◌, subst, arith}
use Rattle.std.proofs.lemmas.List.{take_all}
use Rattle.std.proofs.lemmas.Bool.{and_parts, leb-true}
use Rattle.market.specs.Prices.{highest_price, lawful_price, lowest_price}
use Rattle.market.specs.declared.order.OrderTerms.{OrderTerms}
use Rattle.cross.specs.Rankings.{Laws}
use Rattle.cross.specs.declared.allotment.Allotment.{Allotment}
use Rattle.replay.specs.declared.step.Step.{Step}
use Rattle.replay.specs.Account.{Balanced}
use Rattle.auction.specs.Auctions.{Auction, started}
use Rattle.replay.specs.Performing.{State, Reply}
use Rattle.replay.specs.Replaying.{Ran}
use Rattle.replay.specs.Runs.{Asked, after, answers, asked, first_state}
use Rattle.replay.proofs.Accounts.{AllPriced, account}
use Rattle.replay.proofs.Bounds.{event_priced, started_bounded}
use Rattle.replay.proofs.Deliveries.{every_call_kept}

steps_priced : {F : Type 0} (orders : F → List OrderTerms) (ss : List (Step F)) → AllPriced (map (asked orders) ss)
steps_priced orders [] = tt
steps_priced orders (s ∷ ss) = (event_priced s.event, steps_priced orders ss)

module _ {F : Type 0} (orders : F → List OrderTerms) (good : OrderTerms → OrderTerms → Bool) (laws : Laws good) (l : ℕ) (before : List Allotment) (ss : List (Step F)) where
  abbrev all : List Asked
  all = map (asked orders) ss

  abbrev first : State
  first = first_state l before

  pub ran : (a : Auction) (reply : List Reply) (os : List OrderTerms) (list : List Allotment)
      → a ≡ started l
      → lawful_price l ≡ true
      → reply ≡ answers good (record { auction = a; list = before }) all
      → os ≡ (after good (record { auction = a; list = before }) all).auction.orders
      → list ≡ (after good (record { auction = a; list = before }) all).list
      → Ran good first all reply os list
  ran a reply os list e lawful s o w =
      let bounds = started_bounded l (leb-true l highest_price (and_parts (leb lowest_price l) (leb l highest_price) lawful).1) in
      let priced = steps_priced orders ss in
      let accounts = account good first all refl bounds priced in
      let answered : reply ≡ answers good first all = s ∙ ap (λ (x : Auction). answers good (record { auction = x; list = before }) all) e in
      let rests : os ≡ (after good first all).auction.orders = o ∙ ap (λ (x : Auction). (after good (record { auction = x; list = before }) all).auction.orders) e in
      let whole : take (length all) all ≡ all = take_all (length all) all (omega arith) in
      let ends : Balanced (after good first all).auction.orders (answers good first all)
      = subst (λ (xs : List Asked). Balanced (after good first xs).auction.orders (answers good first xs)) whole (accounts (length all) (omega arith)) in
      record {
        answered = answered;
        rests = rests;
        written = w ∙ ap (λ (x : Auction). (after good (record { auction = x; list = before }) all).list) e;
        kept = every_call_kept good laws first all bounds priced;
        account = accounts;
        balanced =
            subst (λ (xs : List OrderTerms). Balanced xs reply) (sym rests) (subst (λ (xs : List Reply). Balanced (after good first all).auction.orders xs) (sym answered) ends);
      }
