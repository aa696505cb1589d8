-- A ranking orders any queue: which of two orders stands before the other is a total order of orders at places, in
-- which two are equal only at one place.
use Rattle.std.proofs.Common.{◌≡◌, ℕ, ◌+◌, Bool, true, false, cond, not, List, get_or, Ordering, Less, Equal, Greater, sym, refl, ◌∙◌, arith}
use Rattle.std.proofs.lemmas.Bool.Decides.{nat_tests}
use Rattle.std.specs.Cmp.{IsEquivalence, IsPartialEquivalence, IsPartialOrder, IsStrictWeakOrder, IsTotalOrder, eq_by_cmp_equiv, partial_equiv_from_equiv, po}
use Rattle.std.specs.Ordering.{as_partial_cmp, eq_by_cmp, is_lt}
use Rattle.std.specs.List.Sorted.{IsSorted, IsSortedBy}
use Rattle.market.specs.declared.order.Side.{Side}
use Rattle.market.specs.declared.order.Side.TheVariants.{Buy, Sell}
use Rattle.market.specs.declared.order.OrderTerms.{OrderTerms}
use Rattle.cross.specs.Depth.{buys, sells}
use Rattle.cross.specs.Queues.{standing, stands_before}
use Rattle.cross.specs.Rankings.{Laws, same_side}

-- ---- sides as tests

sells_not : (s : Side) → sells s ≡ not (buys s)
sells_not Buy = refl
sells_not Sell = refl

same_buys : (s t : Side) → same_side s t ≡ cond (buys s) (buys t) (not (buys t))
same_buys Buy Buy = refl
same_buys Buy Sell = refl
same_buys Sell Buy = refl
same_buys Sell Sell = refl

-- ---- a test that ranks answers as a total order does

pub less_is : (b c : Bool) → is_lt (cond b Less (cond c Greater Equal)) ≡ b
less_is true c = refl
less_is false true = refl
less_is false false = refl

module _ {X : Type 0} (lt : X → X → Bool) (ranks : IsStrictWeakOrder lt) where
  abbrev answer : X → X → Ordering
  answer x y = cond (lt x y) Less (cond (lt y x) Greater Equal)

  total_from_ranks : IsTotalOrder answer
  total_from_ranks = record {
    antisymm = λ x y.
        let back = ranks.one_way x y in
        grind arith;
    trans = λ x y z a b.
        let back = ranks.one_way y z in
        let through = ranks.chain x z y in
        grind arith;
    congr = λ x y z e.
        let xyz = ranks.chain x y z in
        let yxz = ranks.chain y x z in
        let zxy = ranks.chain z x y in
        let zyx = ranks.chain z y x in
        grind arith;
  }

-- ---- who stands before whom

module _ (good : OrderTerms → OrderTerms → Bool) (laws : Laws good) where
  abbrev before : OrderTerms → ℕ → OrderTerms → ℕ → Bool
  before = stands_before good

  -- what the laws say of two orders
  pub record Two (a b : OrderTerms) : Type 0 where
    pub sells_b : sells b.side ≡ not (buys b.side)
    pub one_side : cond (buys a.side) (buys b.side) (not (buys b.side)) ≡ false → good a b ≡ false
    pub total : cond (buys a.side) (buys b.side) (not (buys b.side)) ≡ true → good a b ≡ false → good b a ≡ true

  two : (a b : OrderTerms) → Two a b
  two a b = record {
    sells_b = sells_not b.side;
    one_side = λ e. laws.one_side a b (rw same_buys e);
    total = λ e. laws.total a b (rw same_buys e);
  }

  one_way : (a b : OrderTerms) (i j : ℕ) → before a i b j ≡ true → before b j a i ≡ false
  one_way a b i j h =
      let ab = two a b in
      let ba = two b a in
      grind (arith, nat_tests)

  chain : (a b c : OrderTerms) (i j k : ℕ) → before a i b j ≡ false → before b j c k ≡ false → before a i c k ≡ false
  chain a b c i j k h l =
      let ab = two a b in
      let ba = two b a in
      let bc = two b c in
      let cb = two c b in
      let ac = two a c in
      let ca = two c a in
      let abc = laws.transitive a b c in
      let bca = laws.transitive b c a in
      let cab = laws.transitive c a b in
      let cba = laws.transitive c b a in
      let bac = laws.transitive b a c in
      let acb = laws.transitive a c b in
      grind (arith, nat_tests)

  -- of two orders at different places one stands before the other
  pub either : (a b : OrderTerms) (i j : ℕ) → (i ≡ j → ⊥) → before a i b j ≡ false → before b j a i ≡ true
  either a b i j apart h =
      let ab = two a b in
      let ba = two b a in
      grind (arith, nat_tests)

  -- ---- the order of a queue

  module _ {X : Type 0} (terms : X → OrderTerms) (place : X → ℕ) where
    abbrev earlier : X → X → Bool
    earlier x y = before (terms x) (place x) (terms y) (place y)

    abbrev compared : X → X → Ordering
    compared x y = standing good (terms x) (place x) (terms y) (place y)

    pub ranked : IsStrictWeakOrder earlier
    ranked = record {
      one_way = λ x y. one_way (terms x) (terms y) (place x) (place y);
      chain = λ x y z. chain (terms x) (terms y) (terms z) (place x) (place y) (place z);
    }

    pub total : IsTotalOrder compared
    total = total_from_ranks earlier ranked

    -- what a sort by it ensures
    pub sorted : (xs : List X) → IsSorted compared xs → IsSortedBy earlier xs
    sorted xs up k d l h =
        let x = get_or xs (k + 1) d in
        let y = get_or xs k d in
        sym (less_is (earlier x y) (earlier y x)) ∙ up k d l h

    -- ---- the laws of its comparisons

    pub alike_laws : IsEquivalence (eq_by_cmp compared)
    alike_laws = eq_by_cmp_equiv total

    pub equal_laws : IsPartialEquivalence (eq_by_cmp compared)
    equal_laws = partial_equiv_from_equiv alike_laws

    pub partial_laws : IsPartialOrder (eq_by_cmp compared) (as_partial_cmp compared)
    partial_laws = po total (λ x y. refl)
