-- No call loses or makes up a share, and so no run does.
use Rattle.std.proofs.Common.{◌≡◌, ℕ, zero, suc, ◌+◌, ◌-◌, ◌<◌, ◌≤◌, min, Bool, true, false, cond, leb, List, [], ◌∷◌, length, take, set, Some, None, sum_by, Option, sym, refl, ap, ◌∙◌, subst, inl, inr, arith}
use Rattle.std.proofs.ByRecursion.{All-take}
use Rattle.std.proofs.lemmas.List.{get_or_past}
use Rattle.std.proofs.lemmas.List.Sums.{sum_by-cons, sum_by_push, sum_by-set}
use Rattle.std.proofs.lemmas.Bool.{cases_lt, cond_both, leb-false, leb-true}
use Rattle.std.specs.List.{remove, range_with_len, AllByRecursion as All}
use Rattle.market.specs.Calls.{Call, enter, cancel, quote, publish, lock, shut, cross}
use Rattle.market.specs.declared.order.OrderTerms.{OrderTerms}
use Rattle.cross.specs.Fills.{at_place, no_order, places, willing}
use Rattle.cross.proofs.PlaceSums.{sum_of_sums, sum_over_list}
use Rattle.replay.specs.Account.{Account, Shares, resting, shares_in, total}
use Rattle.auction.specs.Auctions.{Auction, collar_high, collar_low, whole}
use Rattle.auction.specs.Changing.{orders_left, shares_taken}
use Rattle.auction.specs.Outcomes.{cross_fills, cross_price}
use Rattle.replay.specs.Performing.{State, Done, Reply, accepted_done, performed}
use Rattle.auction.specs.Rows.{lowered, place_of, taken_at}
use Rattle.replay.specs.Runs.{Asked, after, answers, step}
use Rattle.auction.specs.Settling.{ends, releases, settled}
use Rattle.replay.proofs.Bounds.{Bounded, Priced, either_way, performed_bounded}
use Rattle.auction.proofs.Settlements.{at_first}

-- ---- orders

removed_rests : (os : List OrderTerms) (i : ℕ) → resting os ≡ resting (remove os i) + (at_place os i).shares
removed_rests [] zero = refl
removed_rests [] (suc i) = refl
removed_rests (o ∷ os) zero = sum_by-cons (λ (x : OrderTerms). x.shares) o os ∙ omega arith
removed_rests (o ∷ os) (suc i) =
    sum_by-cons (λ (x : OrderTerms). x.shares) o os
    ∙ omega (arith, removed_rests os i, sum_by-cons (λ (x : OrderTerms). x.shares) o (remove os i))

-- an order with shares stands in the book
within : (os : List OrderTerms) (i : ℕ) → 0 < (at_place os i).shares → i < length os
within os i h =
    elim (cases_lt i (length os)) [
      | inl l ↦ l
      | inr l ↦ absurd (omega (arith, h, ap (λ (o : OrderTerms). o.shares) (get_or_past os i no_order l)))
    ]

cut_rests : (os : List OrderTerms) (n i : ℕ) → n < (at_place os i).shares → resting os ≡ resting (set os i (lowered (at_place os i) n)) + n
cut_rests os n i h =
    let more = sum_by-set (λ (o : OrderTerms). o.shares) os i (lowered (at_place os i) n) no_order (within os i (omega arith)) in
    omega (arith, h, more)

taken_rests : (os : List OrderTerms) (n : ℕ) (r : Option ℕ) → resting os ≡ resting (orders_left os n r) + shares_taken os n r
taken_rests os n None = omega arith
taken_rests os n (Some i) =
    cond_both (leb (at_place os i).shares n) (remove os i) (set os i (lowered (at_place os i) n)) (λ (xs : List OrderTerms). resting os ≡ resting xs + taken_at os n i)
    (λ e. omega (arith, leb-true _ _ e, removed_rests os i))
    (λ e. omega (arith, leb-false _ _ e, cut_rests os n i (leb-false _ _ e)))

-- ---- a cross

-- what agrees at each of the first places agrees in sum
same_below : (f g : ℕ → ℕ) (a n : ℕ) → ((j : ℕ) → a ≤ j → j < a + n → f j ≡ g j) → sum_by f (range_with_len a n) ≡ sum_by g (range_with_len a n)
same_below f g a zero h = refl
same_below f g a (suc n) h =
    let rest = same_below f g (a + 1) n (λ j l m. h j (omega arith) (omega arith)) in
    sum_by-cons f a (range_with_len (a + 1) n) ∙ (omega (arith, h a (omega arith) (omega arith), rest) ∙ sym (sum_by-cons g a (range_with_len (a + 1) n)))

three_parts : (stays : Bool) (shares fill : ℕ) → fill ≤ shares → shares ≡ fill + (cond stays 0 (shares - fill) + cond stays (shares - fill) 0)
three_parts true shares fill h = omega arith
three_parts false shares fill h = omega arith

-- each order's shares are filled, ended or released
settled_rests : (os : List OrderTerms) (fill : ℕ → ℕ) → ((i : ℕ) → i < length os → fill i ≤ (at_place os i).shares)
    → resting os ≡ (settled os fill).filled + ((settled os fill).ended + (settled os fill).released)
settled_rests os fill h =
    let ended : ℕ → ℕ = λ i. ends os i (fill i) in
    let released : ℕ → ℕ = λ i. releases os i (fill i) in
    let rest : ℕ → ℕ = λ i. ended i + released i in
    let each = same_below (λ i. (at_place os i).shares) (λ i. fill i + rest i) 0 (length os) (λ j _ l. three_parts (at_place os j).stays (at_place os j).shares (fill j) (h j (omega arith))) in
    omega (arith, sum_over_list (λ (o : OrderTerms). o.shares) os no_order, each, sum_of_sums fill rest (places os), sum_of_sums ended released (places os))

at_most : (w : Bool) (shares n : ℕ) → cond w (min shares n) 0 ≤ shares
at_most true shares n = omega arith
at_most false shares n = omega arith

fills_within : (good : OrderTerms → OrderTerms → Bool) (a : Auction) (filed : List OrderTerms) → length a.orders ≤ 4096 → (i : ℕ) → i < length a.orders
    → cross_fills a filed good i ≤ (at_place a.orders i).shares
fills_within good a filed few i h =
    subst (λ (o : OrderTerms). cross_fills a filed good i ≤ o.shares) (at_first a.orders filed (cross_fills a filed good) few i h)
    (at_most (willing (collar_low a) (collar_high a) (cross_price a filed good) (at_place (whole a filed) i)) (at_place (whole a filed) i).shares _)

-- ---- a call

-- what rested and was accepted rests on, or was withdrawn, filled, ended or released
abbrev Accounts : List OrderTerms → List OrderTerms → Shares → Type 0
Accounts before after s = resting before + s.accepted ≡ resting after + (s.withdrawn + (s.filled + (s.ended + s.released)))

abbrev Keeps : List OrderTerms → Done → Type 0
Keeps os x = Accounts os x.next.auction.orders (shares_in x.answer)

module _ (good : OrderTerms → OrderTerms → Bool) (d : State) (filed : List OrderTerms) (time : ℕ) (b : Bounded d.auction) where
  abbrev os : List OrderTerms
  os = d.auction.orders

  accepted_keeps : (c : Call) → Keeps os (accepted_done good d filed time c)
  accepted_keeps (enter o) = omega (arith, sum_by_push (λ (x : OrderTerms). x.shares) os o)
  accepted_keeps (cancel e n) = omega (arith, taken_rests os n (place_of os e))
  accepted_keeps (quote p q) = omega arith
  accepted_keeps publish = omega arith
  accepted_keeps lock = omega arith
  accepted_keeps shut = omega arith
  accepted_keeps cross =
      omega (arith, settled_rests os (cross_fills d.auction filed good) (fills_within good d.auction filed (omega (arith, b.few))))

  performed_keeps : (c : Call) → Keeps os (performed good d filed time c)
  performed_keeps c = either_way good d filed time b c (Keeps os) (λ _. accepted_keeps c) (omega arith)

-- ---- a run

abbrev pub AllPriced : List Asked → Type 0
AllPriced ss = All (λ (s : Asked). Priced s.call) ss

module _ (good : OrderTerms → OrderTerms → Bool) where
  pub step_bounded : (d : State) (s : Asked) → Bounded d.auction → Priced s.call → Bounded (step good d s).next.auction
  unfolding step
  step_bounded d s b p = performed_bounded good d s.filed s.time b s.call p

  step_keeps : (d : State) (s : Asked) → Bounded d.auction → Keeps d.auction.orders (step good d s)
  unfolding step
  step_keeps d s b = performed_keeps good d s.filed s.time b s.call

  run_keeps : (d : State) (ss : List Asked) → Bounded d.auction → AllPriced ss
      → resting d.auction.orders + total (λ (x : Shares). x.accepted) (answers good d ss)
      ≡ resting (after good d ss).auction.orders
      + (total (λ (x : Shares). x.withdrawn) (answers good d ss)
      + (total (λ (x : Shares). x.filled) (answers good d ss)
      + (total (λ (x : Shares). x.ended) (answers good d ss) + total (λ (x : Shares). x.released) (answers good d ss))))
  run_keeps d [] b p = omega arith
  run_keeps d (s ∷ ss) b p =
      let next = (step good d s).next in
      let a = (step good d s).answer in
      let more = answers good next ss in
      let split : (part : Shares → ℕ) → total part (a ∷ more) ≡ part (shares_in a) + total part more = λ part. sum_by-cons (λ (x : Reply). part (shares_in x)) a more in
      omega (
        arith,
        step_keeps d s b,
        run_keeps next ss (step_bounded d s b p.0) p.1,
        split (λ (x : Shares). x.accepted),
        split (λ (x : Shares). x.withdrawn),
        split (λ (x : Shares). x.filled),
        split (λ (x : Shares). x.ended),
        split (λ (x : Shares). x.released),
      )

  pub account : (d : State) (ss : List Asked) → d.auction.orders ≡ [] → Bounded d.auction → AllPriced ss → Account good d ss
  account d ss e b p n h =
      omega (arith, ap resting e, run_keeps d (take n ss) b (All-take (λ (s : Asked). Priced s.call) n ss p))
