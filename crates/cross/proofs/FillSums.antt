-- What the fills by a ranking come to: those of a side add up to the shares executed, or to all its willing shares
-- where these are fewer, and no order has a share before each one ahead of it is filled whole.
use Rattle.std.proofs.Common.{◌≡◌, ℕ, ◌+◌, ◌<◌, ◌≤◌, min, Bool, true, false, cond, ◌&&◌, List, length, sym, refl, ap, ◌∙◌, arith}
use Rattle.std.proofs.lemmas.Bool.{false≢true, and_parts}
use Rattle.std.proofs.lemmas.Bool.Decides.{nat_tests}
use Rattle.market.specs.declared.order.Side.{Side}
use Rattle.market.specs.declared.order.Side.TheVariants.{Buy, Sell}
use Rattle.market.specs.declared.order.OrderTerms.{OrderTerms}
use Rattle.cross.specs.Crosses.{Fair}
use Rattle.cross.specs.Fills.{ahead, at_place, fill, filled, places, shares_ahead, willing}
use Rattle.cross.specs.Queues.{asks}
use Rattle.cross.specs.Rankings.{Laws, same_side}
use Rattle.cross.proofs.InTurn.{Chain, all_given, asked_before, gets}
use Rattle.cross.proofs.PlaceSums.{more_at_place, same_sums}

-- ---- one side

pub same_side_is : (s t : Side) → same_side s t ≡ true → s ≡ t
same_side_is Buy Buy e = refl
same_side_is Buy Sell e = absurd (false≢true e)
same_side_is Sell Buy e = absurd (false≢true e)
same_side_is Sell Sell e = refl

pub same_side_both : (s t u : Side) → same_side s t ≡ true → same_side s u ≡ true → same_side t u ≡ true
same_side_both s t u a b = rw (sym (same_side_is s t a)) b

module _ (lo hi : ℕ) where
  module _ (good : OrderTerms → OrderTerms → Bool) (laws : Laws good) (os : List OrderTerms) where
    -- ---- who is ahead

    abbrev before : (i j : ℕ) → Bool
    before = ahead good os

    abbrev side_at : ℕ → Side
    side_at i = (at_place os i).side

    abbrev shares_at : ℕ → ℕ
    shares_at i = (at_place os i).shares

    never_itself : (i : ℕ) → before i i ≡ false
    never_itself i = grind (arith, nat_tests)

    onward : (i j k : ℕ) → before i j ≡ true → before j k ≡ true → before i k ≡ true
    onward i j k a b =
        let x = at_place os i in
        let y = at_place os j in
        let z = at_place os k in
        let xyz = laws.transitive x y z in
        let yzx = laws.transitive y z x in
        let zxy = laws.transitive z x y in
        grind (arith, nat_tests)

    one_of_two : (i j : ℕ) → same_side (side_at i) (side_at j) ≡ true → i < j → before i j ≡ false → before j i ≡ true
    one_of_two i j s l a =
        let either = laws.total (at_place os i) (at_place os j) s in
        grind (arith, nat_tests)

    pub before_on_side : (i j : ℕ) → before i j ≡ true → same_side (side_at i) (side_at j) ≡ true
    before_on_side i j a =
        let apart = laws.one_side (at_place os i) (at_place os j) in
        grind arith

    -- ---- fair

    -- whoever is ahead of i is ahead of j, and so is i itself
    ahead_of_both : (p i j : ℕ) → i < length os → willing lo hi p (at_place os i) ≡ true → before i j ≡ true
        → shares_ahead lo hi good os p i + shares_at i ≤ shares_ahead lo hi good os p j
    ahead_of_both p i j l w a =
        let counted : (t k : ℕ) → ℕ = λ t k. cond (willing lo hi p (at_place os k) && before k t) (shares_at k) 0 in
        let more =
        more_at_place (counted i) (counted j) (length os) i l
        (λ k. let through : before k i ≡ true → before k j ≡ true = λ b. onward k i j b a in grind arith) in
        let itself = never_itself i in
        grind arith

    pub fair : (p e : ℕ) → Fair lo hi os good p (fill lo hi good os p e)
    fair p e i j l _ _ w v a f = let both = ahead_of_both p i j l w a in grind arith

    -- ---- the sum of a side's fills

    module _ (side : Side) (p e : ℕ) where
      -- the willing ones of the side
      abbrev served : ℕ → Bool
      served i = same_side side (side_at i) && willing lo hi p (at_place os i)

      served_chain : Chain before served
      served_chain i j x y = one_of_two i j (same_side_both side _ _ (and_parts _ _ x).0 (and_parts _ _ y).0)

      -- whoever is ahead of one of the side is of the side
      ahead_on_side : (i j : ℕ) → served j ≡ true → before i j ≡ true → same_side side (side_at i) ≡ true
      ahead_on_side i j s a =
          rw (same_side_is (side_at i) (side_at j) (before_on_side i j a)) (and_parts _ _ s).0

      ahead_served : (j : ℕ) → served j ≡ true
          → shares_ahead lo hi good os p j ≡ asked_before shares_at before served (places os) j
      ahead_served j s = same_sums _ _ 0 (length os) (λ i _. let on_side = ahead_on_side i j s in grind arith)

      gets_fill : (j : ℕ)
          → cond (same_side side (side_at j)) (fill lo hi good os p e j) 0
          ≡ gets shares_at before served (places os) e j
      gets_fill j = let asked = ahead_served j in grind arith

      pub fills_sum : filled side os (fill lo hi good os p e)
          ≡ min e (filled side os (λ i. asks lo hi p (at_place os i)))
      fills_sum =
          same_sums _ _ 0 (length os) (λ j _. gets_fill j)
          ∙ all_given shares_at before never_itself onward served served_chain 0 (length os) e
          ∙ ap (min e) (same_sums _ _ 0 (length os) (λ i _. grind arith))
