-- Every clearing price with its fills is best and fair, and so is what each call of a run answers and writes.
use Rattle.std.proofs.Common.{◌≡◌, ℕ, ◌≤◌, Bool, List, [], ◌∷◌, ◌++◌, length, sym, refl, ◌∙◌, subst, arith}
use Rattle.std.proofs.ByRecursion.{All-take}
use Rattle.std.proofs.lemmas.List.{take_at}
use Rattle.market.specs.Calls.{Call, enter, cancel, quote, publish, lock, shut, cross}
use Rattle.market.specs.declared.order.OrderTerms.{OrderTerms}
use Rattle.cross.specs.Clearing.{clearing_price}
use Rattle.cross.specs.Crosses.{Best, executes}
use Rattle.cross.specs.Crossing.{clearing_fills}
use Rattle.cross.specs.Depth.{executed}
use Rattle.cross.specs.Rankings.{Laws, by_display}
use Rattle.cross.proofs.BestCross.{best, fills_execute}
use Rattle.cross.proofs.FillSums.{fair, fills_sum}
use Rattle.cross.specs.RankingLaws.{display_laws}
use Rattle.auction.specs.Auctions.{Auction, collar_high, collar_low, range_high, range_low, twice, whole}
use Rattle.auction.specs.Outcomes.{cross_fills, cross_price, list_after, outcome}
use Rattle.replay.specs.Performing.{State, Done, accepted_done, performed}
use Rattle.replay.specs.Promises.{BestPrice, CrossKept, EveryCallKept, EveryClearing, Kept, PublishKept}
use Rattle.auction.specs.Publishing.{published}
use Rattle.replay.specs.Runs.{Asked, after, step}
use Rattle.replay.proofs.Accounts.{AllPriced, step_bounded}
use Rattle.replay.proofs.Bounds.{Bounded, Priced, collar_ordered, either_way, range_ordered}

pub every_clearing : EveryClearing
every_clearing os good laws lo hi t o = record {
  best = best lo hi os good laws (λ side q e. fills_sum lo hi good laws os side q e) t o;
  fair = fair lo hi good laws os (clearing_price lo hi t os) (executed lo hi os (clearing_price lo hi t os));
}

best_price : (lo hi t : ℕ) (os : List OrderTerms) → lo ≤ hi → BestPrice lo hi t os (clearing_price lo hi t os)
best_price lo hi t os o good laws = (clearing_fills lo hi good os t, every_clearing os good laws lo hi t o)

-- the fills at the clearing price execute what executes there
fills_at : (lo hi t : ℕ) (os : List OrderTerms) (good : OrderTerms → OrderTerms → Bool) → Laws good
    → executed lo hi os (clearing_price lo hi t os) ≡ executes lo hi os (clearing_fills lo hi good os t)
fills_at lo hi t os good laws = sym (fills_execute lo hi os good (λ side q e. fills_sum lo hi good laws os side q e) (clearing_price lo hi t os))

-- two best crosses execute as many shares
as_many : (lo hi t p q : ℕ) (os : List OrderTerms) (fill other : ℕ → ℕ) → Best lo hi os t p fill → Best lo hi os t q other → executes lo hi os fill ≡ executes lo hi os other
as_many lo hi t p q os fill other b c = omega (arith, b.most q other c.cross, c.most p fill b.cross)

publish_kept : (a : Auction) (filed : List OrderTerms) → Bounded a → PublishKept a filed (published a filed)
publish_kept a filed b =
    let rl = range_low a in
    let rh = range_high a in
    let t = twice a in
    let ours = clearing_fills rl rh by_display a.orders t in
    record {
      reference = best_price rl rh t a.orders (range_ordered a);
      paired = λ fill best.
          fills_at rl rh t a.orders by_display display_laws
          ∙ as_many rl rh t (clearing_price rl rh t a.orders) (clearing_price rl rh t a.orders) a.orders ours fill
          (every_clearing a.orders by_display display_laws rl rh t (range_ordered a)).best
          best;
      indicative = best_price (collar_low a) (collar_high a) t (whole a filed) (collar_ordered a b);
      auction = best_price (collar_low a) (collar_high a) t a.orders (collar_ordered a b);
    }

module _ (good : OrderTerms → OrderTerms → Bool) (laws : Laws good) where
  cross_kept : (d : State) (filed : List OrderTerms) → Bounded d.auction
      → CrossKept good d.auction filed (outcome d.auction filed good) d.list (list_after d.auction filed good d.list)
  cross_kept d filed b =
      let a = d.auction in
      let os = whole a filed in
      record {
        price = cross_price a filed good;
        fill = cross_fills a filed good;
        crosses = every_clearing os good laws (collar_low a) (collar_high a) (twice a) (collar_ordered a b);
        executed = fills_at (collar_low a) (collar_high a) (twice a) os good laws;
        answered = refl;
        written = refl;
        filled = refl;
        ended = refl;
        released = refl;
      }

  module _ (d : State) (filed : List OrderTerms) (time : ℕ) (b : Bounded d.auction) where
    abbrev KeptBy : Done → Type 0
    KeptBy x = Kept good d filed x.answer x.next.list

    accepted_kept : (c : Call) → KeptBy (accepted_done good d filed time c)
    accepted_kept (enter o) = refl
    accepted_kept (cancel e n) = refl
    accepted_kept (quote p q) = refl
    accepted_kept publish = (publish_kept d.auction filed b, refl)
    accepted_kept lock = refl
    accepted_kept shut = refl
    accepted_kept cross = cross_kept d filed b

    performed_kept : (c : Call) → KeptBy (performed good d filed time c)
    performed_kept c = either_way good d filed time b c KeptBy (λ _. accepted_kept c) refl

  step_kept : (d : State) (s : Asked) → Bounded d.auction → Kept good d s.filed (step good d s).answer (step good d s).next.list
  unfolding step
  step_kept d s b = performed_kept d s.filed s.time b s.call

  after_bounded : (d : State) (ss : List Asked) → Bounded d.auction → AllPriced ss → Bounded (after good d ss).auction
  after_bounded d [] b p = b
  after_bounded d (s ∷ ss) b p = after_bounded (step good d s).next ss (step_bounded good d s b p.0) p.1

  pub every_call_kept : (d : State) (ss : List Asked) → Bounded d.auction → AllPriced ss → EveryCallKept good d ss
  every_call_kept d ss b p front rest s e =
      let whole_run = subst AllPriced e p in
      let fronts : AllPriced front
      = subst AllPriced (take_at front (s ∷ rest) (length front) refl) (All-take (λ (x : Asked). Priced x.call) (length front) (front ++ s ∷ rest) whole_run) in
      step_kept (after good d front) s (after_bounded d front b fronts)
