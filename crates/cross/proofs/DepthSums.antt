-- How the shares of a list of orders change with the price: those bought fall and those sold rise, and the
-- better-priced ones are those willing one cent further, of which there are none beyond the range.
use Rattle.std.proofs.Common.{◌≡◌, ℕ, ◌+◌, ◌<◌, ◌≤◌, Bool, true, false, cond, ◌&&◌, ltb, List, [], ◌∷◌, sym, refl, ap, add-one, arith}
use lib.Dec.{leb-suc-suc}
use Rattle.std.proofs.lemmas.List.Sums.{sum_by-cons}
use Rattle.std.proofs.lemmas.Bool.Decides.{nat_tests}
use Rattle.market.specs.declared.order.Side.{Side}
use Rattle.market.specs.declared.order.Side.TheVariants.{Buy, Sell}
use Rattle.market.specs.declared.order.OrderPrice.{OrderPrice}
use Rattle.market.specs.declared.order.OrderPrice.TheVariants.{Market, Limit}
use Rattle.market.specs.declared.order.OrderTerms.{OrderTerms}
use Rattle.market.specs.Ranges.{counted_price}
use Rattle.cross.specs.Depth.{buys, sells, shares_of, bought, sold, bought_above, sold_below}

module _ (lo hi : ℕ) where
  -- a weaker test passes more shares
  weaker_more : (t u : OrderTerms → Bool) → ((o : OrderTerms) → t o ≡ true → u o ≡ true)
      → (os : List OrderTerms)
      → shares_of lo hi t os ≤ shares_of lo hi u os
  weaker_more t u w [] = omega arith
  weaker_more t u w (o ∷ os) =
      let rest = weaker_more t u w os in
      let this = w o in
      rw (sum_by-cons (λ o. cond (t o) o.shares 0) o os, sum_by-cons (λ o. cond (u o) o.shares 0) o os) (grind arith)

  -- a test that no order passes passes no shares
  none_pass : (t : OrderTerms → Bool) → ((o : OrderTerms) → t o ≡ false) → (os : List OrderTerms)
      → shares_of lo hi t os ≡ 0
  none_pass t f [] = refl
  none_pass t f (o ∷ os) =
      let rest = none_pass t f os in
      let this = f o in
      rw (sum_by-cons (λ o. cond (t o) o.shares 0) o os) (grind arith)

  -- no buy counts above the range, and no sell below it
  no_buy_above : (s : Side) (p : OrderPrice) → (buys s && ltb hi (counted_price lo hi s p)) ≡ false
  no_buy_above Buy Market = grind (arith, nat_tests)
  no_buy_above Buy (Limit c) = grind (arith, nat_tests)
  no_buy_above Sell p = refl

  no_sell_below : (s : Side) (p : OrderPrice) → (sells s && ltb (counted_price lo hi s p) lo) ≡ false
  no_sell_below Buy p = refl
  no_sell_below Sell Market = grind (arith, nat_tests)
  no_sell_below Sell (Limit c) = grind (arith, nat_tests)

  module _ (os : List OrderTerms) where
    pub bought_falls : (p q : ℕ) → p ≤ q → bought lo hi os q ≤ bought lo hi os p
    bought_falls p q h = weaker_more _ _ (λ o w. grind (arith, nat_tests)) os

    pub sold_rises : (p q : ℕ) → p ≤ q → sold lo hi os p ≤ sold lo hi os q
    sold_rises p q h = weaker_more _ _ (λ o w. grind (arith, nat_tests)) os

    pub above_falls : (p q : ℕ) → p ≤ q → bought_above lo hi os q ≤ bought_above lo hi os p
    above_falls p q h = weaker_more _ _ (λ o w. grind (arith, nat_tests)) os

    pub below_rises : (p q : ℕ) → p ≤ q → sold_below lo hi os p ≤ sold_below lo hi os q
    below_rises p q h = weaker_more _ _ (λ o w. grind (arith, nat_tests)) os

    -- prices are whole cents
    pub above_next : (p : ℕ) → bought_above lo hi os p ≡ bought lo hi os (p + 1)
    above_next p = sym (ap (bought lo hi os) (add-one p))

    pub below_next : (p : ℕ) → sold_below lo hi os (p + 1) ≡ sold lo hi os p
    below_next p = simp (add-one, leb-suc-suc)

    pub none_above : bought_above lo hi os hi ≡ 0
    none_above = none_pass _ (λ o. no_buy_above o.side o.price) os

    pub none_below : sold_below lo hi os lo ≡ 0
    none_below = none_pass _ (λ o. no_sell_below o.side o.price) os

    -- the shares willing at any price further are among the better-priced ones, and these among those willing
    pub bought_further : (p q : ℕ) → p < q → bought lo hi os q ≤ bought_above lo hi os p
    bought_further p q h = weaker_more _ _ (λ o w. grind (arith, nat_tests)) os

    pub sold_further : (p q : ℕ) → q < p → sold lo hi os q ≤ sold_below lo hi os p
    sold_further p q h = weaker_more _ _ (λ o w. grind (arith, nat_tests)) os

    pub above_within : (p : ℕ) → bought_above lo hi os p ≤ bought lo hi os p
    above_within p = weaker_more _ _ (λ o w. grind (arith, nat_tests)) os

    pub below_within : (p : ℕ) → sold_below lo hi os p ≤ sold lo hi os p
    below_within p = weaker_more _ _ (λ o w. grind (arith, nat_tests)) os
