-- Where the search ends is the clearing price, on each of its three ways.
use Rattle.std.proofs.Common.{◌≡◌, ℕ, ◌+◌, ◌-◌, ◌<◌, ◌≤◌, true, List, sym, ap, ◌∙◌, inl, inr, arith}
use Rattle.std.proofs.lemmas.Bool.{leb-false, leb-true, le-leb}
use Rattle.market.specs.declared.order.Side.TheVariants.{Buy, Sell}
use Rattle.market.specs.declared.order.OrderTerms.{OrderTerms}
use Rattle.cross.specs.Clearing.{clearing_price}
use Rattle.cross.specs.Depth.{bought, bought_above, sold, sold_below}
use Rattle.cross.specs.Serving.{First, served}
use Rattle.cross.proofs.ClearingPrice.{clearing_price_is, middle}
use Rattle.cross.proofs.DepthSums.{above_next, below_next, none_above, none_below}

module _ (lo hi : ℕ) (os : List OrderTerms) where
  -- no buy counts above the range, and no sell below it
  pub highest_served : served lo hi os Buy hi ≡ true
  highest_served = le-leb (bought_above lo hi os hi) (sold lo hi os hi) (omega (arith, none_above lo hi os))

  pub lowest_served : served lo hi os Sell lo ≡ true
  lowest_served = le-leb (sold_below lo hi os lo) (bought lo hi os lo) (omega (arith, none_below lo hi os))

  -- ---- where it ends, from the middle

  module _ (t m : ℕ) (ordered : lo ≤ hi) (is : m ≡ middle lo hi t) where
    pub ends_at_middle : served lo hi os Buy m ≡ true → served lo hi os Sell m ≡ true → m ≡ clearing_price lo hi t os
    ends_at_middle b s =
        sym (clearing_price_is lo hi os t m ordered (omega (arith, is)) (omega (arith, is)) (leb-true _ _ b) (leb-true _ _ s) (inl is))

    -- the buys were unserved below p, so that more want to buy at p than counted sells lie below it
    pub ends_above : (p : ℕ) → served lo hi os Buy p ≡ true → First (served lo hi os Buy) m hi p → p ≡ clearing_price lo hi t os
    ends_above p b (inl up) =
        let fails = leb-false (bought_above lo hi os (p - 1)) (sold lo hi os (p - 1)) up.2 in
        let here : p - 1 + 1 ≡ p = omega (arith, up.0) in
        let sells : sold_below lo hi os p ≡ sold lo hi os (p - 1) = ap (sold_below lo hi os) (sym here) ∙ below_next lo hi os (p - 1) in
        let buys : bought_above lo hi os (p - 1) ≡ bought lo hi os p = above_next lo hi os (p - 1) ∙ ap (bought lo hi os) here in
        let above : middle lo hi t < p = omega (arith, is, up.0) in
        sym (clearing_price_is lo hi os t p ordered (omega arith) up.1 (leb-true _ _ b) (omega (arith, fails, sells, buys)) (inr (inl (above, fails))))
    ends_above p b (inr down) = absurd (omega (arith, is, down.0, down.1))

    pub ends_below : (p : ℕ) → served lo hi os Sell p ≡ true → First (served lo hi os Sell) m lo p → p ≡ clearing_price lo hi t os
    ends_below p s (inl up) = absurd (omega (arith, is, up.0, up.1))
    ends_below p s (inr down) =
        let fails = leb-false (sold_below lo hi os (p + 1)) (bought lo hi os (p + 1)) down.2 in
        let below : p < middle lo hi t = omega (arith, is, down.0) in
        sym (clearing_price_is lo hi os t p ordered down.1 (omega arith) (omega (arith, fails, above_next lo hi os p, below_next lo hi os p)) (leb-true _ _ s) (inr (inr (below, fails))))
