-- The fills at the clearing price, by a lawful ranking, are the best cross: no cross executes more than both sides are
-- willing at its price, and what is ahead of a better-priced order is better-priced too, so that it is filled whole.
use Rattle.std.proofs.Common.{◌≡◌, ℕ, zero, suc, ◌+◌, ◌<◌, ◌≤◌, min, Bool, true, cond, ◌&&◌, eqb, ◌⊎◌, List, length, sum_by, refl, ◌∙◌, arith}
use Rattle.std.proofs.lemmas.List.FromFn.{length-range_with_len, get_or-range_with_len}
use Rattle.std.proofs.lemmas.List.Sums.{get_or-le-sum_by, sum_by-cons}
use Rattle.std.proofs.lemmas.Bool.Decides.{nat_tests}
use Rattle.std.specs.List.{range_with_len}
use Rattle.market.specs.declared.order.Side.{Side}
use Rattle.market.specs.declared.order.Side.TheVariants.{Buy, Sell}
use Rattle.market.specs.declared.order.OrderTerms.{OrderTerms}
use Rattle.cross.specs.Clearing.{distance, candidates, clearing_price}
use Rattle.cross.specs.Crosses.{Best, IsCross, LeavesNone, executes}
use Rattle.cross.specs.Depth.{bought, bought_above, executed, shares_of, sold, sold_below}
use Rattle.cross.specs.Fills.{ahead, at_place, better_priced, fill, filled, no_order, shares_ahead, willing}
use Rattle.cross.specs.Rankings.{Laws, same_side}
use Rattle.cross.proofs.PlaceSums.{sum_over_list}
use Rattle.cross.proofs.PriceLists.{Before, nearest_of_any, nearest_of_before}
use Rattle.cross.proofs.ThreeSteps.{
  BuysServed,
  SellsServed,
  meets,
  meets_only,
  Meets,
  Within,
  candidates_within,
  candidates_meet,
  candidates_rise,
  candidates_some,
  at_candidate,
}

-- ---- sums over places

-- two sums are within a third where they are at each place
sums_within : (f g h : ℕ → ℕ) (a n : ℕ) → ((i : ℕ) → i < a + n → f i + g i ≤ h i)
    → sum_by f (range_with_len a n) + sum_by g (range_with_len a n) ≤ sum_by h (range_with_len a n)
sums_within f g h a zero each = omega arith
sums_within f g h a (suc n) each =
    let this = each a (omega arith) in
    let rest = sums_within f g h (a + 1) n (λ i l. each i (omega arith)) in
    let later = range_with_len (a + 1) n in
    rw (sum_by-cons f a later, sum_by-cons g a later, sum_by-cons h a later) (omega arith)

-- what one place gives is in the sum
one_place : (k n i : ℕ) → i < n → k ≤ sum_by (λ j. cond (eqb j i) k 0) (range_with_len 0 n)
one_place k n i l =
    let some = get_or-le-sum_by (λ j. cond (eqb j i) k 0) (range_with_len 0 n) i 0 (omega (arith, length-range_with_len 0 n)) in
    let there = get_or-range_with_len 0 n i 0 l in
    grind (arith, nat_tests)

-- the three ways in which a rival stands behind
before_rival : (t p q : ℕ) → Before t p q
    → (q ≡ p) ⊎ ((distance t p < distance t q) ⊎ ((distance t q ≡ distance t p) × (p < q)))
before_rival t p q b = grind arith

module _ (lo hi : ℕ) (os : List OrderTerms) where
  -- the shares of a side that are willing at a price, and those better-priced than it
  abbrev pub depth : Side → ℕ → ℕ
  depth Buy p = bought lo hi os p
  depth Sell p = sold lo hi os p

  abbrev pub better_depth : Side → ℕ → ℕ
  better_depth Buy p = bought_above lo hi os p
  better_depth Sell p = sold_below lo hi os p

  -- ---- the shares that pass a test, by their places

  abbrev pub passing : (OrderTerms → Bool) → ℕ → ℕ
  passing test i = cond (test (at_place os i)) (at_place os i).shares 0

  passing_shares : (side : Side) (t u : OrderTerms → Bool) → ((o : OrderTerms) → u o ≡ (same_side side o.side && t o))
      → filled side os (passing t) ≡ shares_of lo hi u os
  passing_shares side t u same =
      let one : (o : OrderTerms) → cond (same_side side o.side) (cond (t o) o.shares 0) 0 ≡ cond (u o) o.shares 0
      = λ o. let this = same o in grind arith in
      sum_over_list (λ o. cond (same_side side o.side) (cond (t o) o.shares 0) 0) os no_order ∙ (λ i. sum_by (λ o. one o i) os)

  pub willing_shares : (side : Side) (p : ℕ) → filled side os (passing (willing lo hi p)) ≡ depth side p
  willing_shares Buy p = passing_shares Buy (willing lo hi p) _ (λ o. grind arith)
  willing_shares Sell p = passing_shares Sell (willing lo hi p) _ (λ o. grind arith)

  pub better_shares : (side : Side) (p : ℕ) → filled side os (passing (better_priced lo hi p)) ≡ better_depth side p
  better_shares Buy p = passing_shares Buy (better_priced lo hi p) _ (λ o. grind arith)
  better_shares Sell p = passing_shares Sell (better_priced lo hi p) _ (λ o. grind arith)

  -- what a place gives to a side
  abbrev on_side : Side → (ℕ → ℕ) → ℕ → ℕ
  on_side side f i = cond (same_side side (at_place os i).side) (f i) 0

  -- fills that are within others at each place are within them on each side
  filled_within : (side : Side) (f g : ℕ → ℕ) → ((i : ℕ) → i < length os → f i ≤ g i)
      → filled side os f ≤ filled side os g
  filled_within side f g each =
      omega (
        arith,
        sums_within (on_side side f) (λ _. 0) (on_side side g) 0 (length os)
            (λ i l. let this = each i (omega arith) in grind arith),
      )

  -- ---- a cross: it executes no more than is willing, and no less than is better-priced where it leaves none of that

  module _ (q : ℕ) (fills : ℕ → ℕ) (cross : IsCross lo hi os q fills) where
    at_most_willing : (i : ℕ) → i < length os → fills i ≤ passing (willing lo hi q) i
    at_most_willing i l =
        let most = cross.within i l in
        let none = cross.unwilling i l in
        grind arith

    fills_willing : (side : Side) → filled side os fills ≤ depth side q
    fills_willing side = omega (arith, willing_shares side q, filled_within side fills _ at_most_willing)

    executes_side : (side : Side) → filled side os fills ≡ executes lo hi os fills
    executes_side Buy = refl
    executes_side Sell = omega (arith, cross.balanced)

    pub executes_willing : executes lo hi os fills ≤ executed lo hi os q
    executes_willing = omega (arith, executes_side Sell, fills_willing Buy, fills_willing Sell)

    module _ (none : LeavesNone lo hi os q fills) where
      at_least_better : (i : ℕ) → i < length os → passing (better_priced lo hi q) i ≤ fills i
      at_least_better i l = let whole = none i l in grind arith

      pub executes_better : (side : Side) → better_depth side q ≤ executes lo hi os fills
      executes_better side =
          omega (arith, better_shares side q, filled_within side _ fills at_least_better, executes_side side)

      -- so its price meets both tests
      pub price_served : BuysServed lo hi os q × SellsServed lo hi os q
      price_served =
          let most = executes_willing in
          meets_only lo hi os q (omega (arith, executes_better Buy)) (omega (arith, executes_better Sell))

  -- ---- the fills at a price

  -- the fills of a side come to what is to execute, or to all that is willing
  abbrev pub FillsSum : (OrderTerms → OrderTerms → Bool) → Type 0
  FillsSum good =
      (side : Side) (p e : ℕ)
      → filled side os (fill lo hi good os p e) ≡ min e (filled side os (passing (willing lo hi p)))

  module _ (good : OrderTerms → OrderTerms → Bool) (laws : Laws good) (p : ℕ) where
    -- what is willing and ahead of a better-priced order is better-priced too: at the price itself its own price would
    -- be worse, since the range moves no price past another
    ahead_better : (i j : ℕ) → better_priced lo hi p (at_place os i) ≡ true
        → willing lo hi p (at_place os j) ≡ true
        → ahead good os j i ≡ true
        → (same_side (at_place os i).side (at_place os j).side && better_priced lo hi p (at_place os j)) ≡ true
    ahead_better i j better w a =
        let compared = laws.one_side (at_place os j) (at_place os i) in
        let first = laws.price_first (at_place os i) (at_place os j) in
        grind (arith, nat_tests)

    -- so what is ahead of it, with its own shares, is within what is better-priced
    ahead_within : (i : ℕ) → i < length os → better_priced lo hi p (at_place os i) ≡ true
        → shares_ahead lo hi good os p i + (at_place os i).shares ≤ better_depth (at_place os i).side p
    ahead_within i l better =
        let side = (at_place os i).side in
        let shares = (at_place os i).shares in
        let earlier : ℕ → ℕ = λ j. cond (willing lo hi p (at_place os j) && ahead good os j i) (at_place os j).shares 0 in
        let own : ℕ → ℕ = λ j. cond (eqb j i) shares 0 in
        omega (
          arith,
          one_place shares (length os) i l,
          better_shares side p,
          sums_within earlier own (on_side side (passing (better_priced lo hi p))) 0 (length os)
              (λ j _. let also = ahead_better i j better in grind (arith, nat_tests)),
        )

    -- ---- at a price of the range that meets both tests

    module _ (sums : FillsSum good) (low : lo ≤ p) (high : p ≤ hi) (b : BuysServed lo hi os p) (s : SellsServed lo hi os p) where
      abbrev fills : ℕ → ℕ
      fills = fill lo hi good os p (executed lo hi os p)

      filled_executed : (side : Side) → filled side os fills ≡ executed lo hi os p
      filled_executed Buy = omega (arith, sums Buy p (executed lo hi os p), willing_shares Buy p)
      filled_executed Sell = omega (arith, sums Sell p (executed lo hi os p), willing_shares Sell p)

      better_executed : (side : Side) → better_depth side p ≤ executed lo hi os p
      better_executed Buy = (meets lo hi os p low high b s).1
      better_executed Sell = (meets lo hi os p low high b s).2

      fills_cross : IsCross lo hi os p fills
      fills_cross = record {
        low = low;
        high = high;
        within = λ i l. grind arith;
        unwilling = λ i l e. grind arith;
        balanced = omega (arith, filled_executed Buy, filled_executed Sell);
      }

      fills_most : (q : ℕ) (rival : ℕ → ℕ) → IsCross lo hi os q rival → executes lo hi os rival ≤ executes lo hi os fills
      fills_most q rival cross =
          let most = (meets lo hi os p low high b s).0 q cross.low cross.high in
          omega (arith, executes_willing q rival cross, filled_executed Buy)

      fills_leave_none : LeavesNone lo hi os p fills
      fills_leave_none i l better =
          let room = ahead_within i l better in
          let most = better_executed (at_place os i).side in
          grind (arith, nat_tests)

      fills_best : (t : ℕ)
          → ((q : ℕ) → lo ≤ q → q ≤ hi → BuysServed lo hi os q → SellsServed lo hi os q → Before t p q)
          → Best lo hi os t p fills
      fills_best t first = record {
        cross = fills_cross;
        most = fills_most;
        leaves_none = fills_leave_none;
        nearest = λ q rival cross same none.
            let served = price_served q rival cross none in
            before_rival t p q (first q cross.low cross.high served.0 served.1);
      }

  -- as many shares are filled as execute
  pub fills_execute : (good : OrderTerms → OrderTerms → Bool) → FillsSum good → (p : ℕ) → executes lo hi os (fill lo hi good os p (executed lo hi os p)) ≡ executed lo hi os p
  fills_execute good sums p = omega (arith, sums Buy p (executed lo hi os p), willing_shares Buy p)

  pub best : (good : OrderTerms → OrderTerms → Bool) → Laws good → FillsSum good → (t : ℕ) → lo ≤ hi
      → Best lo hi os t (clearing_price lo hi t os)
      (fill lo hi good os (clearing_price lo hi t os) (executed lo hi os (clearing_price lo hi t os)))
  best good laws sums t o =
      let p = clearing_price lo hi t os in
      let cs = candidates lo hi os in
      let some = candidates_some lo hi os o in
      let within = nearest_of_any (Within lo hi os) t cs some (candidates_within lo hi os) in
      let meets = nearest_of_any (Meets lo hi os) t cs some (candidates_meet lo hi os) in
      let first = nearest_of_before t cs (candidates_rise lo hi os) in
      fills_best good laws p sums within.0 within.1 meets.0 meets.1 t (at_candidate lo hi os (Before t p) first)
