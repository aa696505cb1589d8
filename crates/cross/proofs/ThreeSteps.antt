-- The first two steps, which come to two tests on a price: the better-priced shares of either side find shares of
-- the other. Some price of the range meets both.
use Rattle.std.proofs.Common.{◌≡◌, ℕ, zero, suc, ◌+◌, ◌-◌, ◌<◌, ◌≤◌, Bool, true, ◌&&◌, leb, nat_eq, List, [], sym, refl, subst, inl, inr, arith}
use Rattle.std.proofs.lemmas.List.Elements.{All-filter, All-nil, All-weaker, filter_passes}
use Rattle.std.proofs.lemmas.Bool.{cases_lt, cases_order, and_parts, and_from, leb-true, le-leb, eq-eqb}
use Rattle.std.specs.List.{All}
use Rattle.market.specs.declared.order.OrderTerms.{OrderTerms}
use Rattle.cross.specs.Depth.{bought, sold, executed, bought_above, sold_below}
use Rattle.cross.specs.Clearing.{prices, most_executed, candidates, largest}
use Rattle.cross.proofs.DepthSums.{
  above_next,
  below_next,
  none_above,
  none_below,
  bought_further,
  sold_further,
  above_within,
  below_within,
}
use Rattle.cross.proofs.PriceLists.{
  Rising,
  all_in_range,
  in_range,
  prices_rise,
  all_unkept,
  kept_rises,
  largest_most,
  largest_least,
}

module _ (lo hi : ℕ) (os : List OrderTerms) where
  -- the two tests
  abbrev pub BuysServed : ℕ → Type 0
  BuysServed p = bought_above lo hi os p ≤ sold lo hi os p

  abbrev pub SellsServed : ℕ → Type 0
  SellsServed p = sold_below lo hi os p ≤ bought lo hi os p

  -- what is executed at another price is bought above this one or sold below it
  executes_most : (p q : ℕ) → BuysServed p → SellsServed p → executed lo hi os q ≤ executed lo hi os p
  executes_most p q b s =
      let aw = above_within lo hi os p in
      let bw = below_within lo hi os p in
      elim (cases_order p q) [
        | inl e ↦ rw e (omega arith)
        | inr (inl h) ↦ omega (arith, bought_further lo hi os p q h)
        | inr (inr h) ↦ omega (arith, sold_further lo hi os p q h)
      ]

  pub meets : (p : ℕ) → lo ≤ p → p ≤ hi → BuysServed p → SellsServed p
      → ((q : ℕ) → lo ≤ q → q ≤ hi → executed lo hi os q ≤ executed lo hi os p)
      × (bought_above lo hi os p ≤ executed lo hi os p)
      × (sold_below lo hi os p ≤ executed lo hi os p)
  meets p l h b s = (
    λ q _ _. executes_most p q b s,
    omega (arith, above_within lo hi os p),
    omega (arith, below_within lo hi os p),
  )

  pub meets_only : (p : ℕ)
      → bought_above lo hi os p ≤ executed lo hi os p
      → sold_below lo hi os p ≤ executed lo hi os p
      → BuysServed p × SellsServed p
  meets_only p a u = (omega arith, omega arith)

  -- ---- never none

  abbrev pub Found : Type 0
  Found = (p : ℕ) × (lo ≤ p) × (p ≤ hi) × BuysServed p × SellsServed p

  -- a price that fails the second test is one above a price that meets the first
  fails_above : (p q : ℕ) → p ≡ q + 1 → bought lo hi os p < sold_below lo hi os p → BuysServed q
  fails_above p q e f =
      let next : bought lo hi os (q + 1) < sold_below lo hi os (q + 1) = rw e at f in
      omega (arith, above_next lo hi os q, below_next lo hi os q)

  -- so down from a price that meets the first the second is met in the end, at the lowest price if not before
  found_down : (k p : ℕ) → p ≡ lo + k → p ≤ hi → BuysServed p → Found
  found_down zero p e h b =
      let bottom : p ≡ lo = omega arith in
      let s : SellsServed p = rw bottom (omega (arith, none_below lo hi os)) in
      (p, omega arith, h, b, s)
  found_down (suc k) p e h b =
      elim (cases_lt (bought lo hi os p) (sold_below lo hi os p)) [
        | inl f ↦ found_down k (lo + k) refl (omega arith) (fails_above p (lo + k) (omega arith) f)
        | inr s ↦ (p, omega arith, h, b, s)
      ]

  pub some_price : lo ≤ hi → Found
  some_price r = found_down (hi - lo) hi (omega arith) (omega arith) (omega (arith, none_above lo hi os))

  -- ---- the candidates

  abbrev pub Within : ℕ → Type 0
  Within p = (lo ≤ p) × (p ≤ hi)

  pub candidates_within : All Within (candidates lo hi os)
  candidates_within = All-filter _ Within _ (All-filter _ Within _ (all_in_range Within lo hi (λ q l h. (l, h))))

  -- the test of the second step
  abbrev served : ℕ → Bool
  served p = leb (bought_above lo hi os p) (executed lo hi os p) && leb (sold_below lo hi os p) (executed lo hi os p)

  served_meets : (p : ℕ) → served p ≡ true → BuysServed p × SellsServed p
  served_meets p t =
      let parts = and_parts _ _ t in
      meets_only p (leb-true _ _ parts.0) (leb-true _ _ parts.1)

  abbrev pub Meets : ℕ → Type 0
  Meets p = BuysServed p × SellsServed p

  pub candidates_meet : All Meets (candidates lo hi os)
  candidates_meet =
      All-weaker (λ p. served p ≡ true) Meets served_meets (candidates lo hi os)
      (filter_passes served (most_executed (executed lo hi os) (prices lo hi)))

  pub candidates_rise : Rising (candidates lo hi os)
  candidates_rise = kept_rises _ _ (kept_rises _ _ (prices_rise lo hi))

  -- what holds of each candidate holds of each price that meets both tests
  pub at_candidate : (P : ℕ → Type 0) → All P (candidates lo hi os)
      → (p : ℕ) → lo ≤ p → p ≤ hi → BuysServed p → SellsServed p → P p
  at_candidate P c p l h b s =
      let e = executed lo hi os in
      let m = meets p l h b s in
      let some : e p ≤ largest e (prices lo hi) = in_range (λ q. e q ≤ largest e (prices lo hi)) lo hi (largest_most e (prices lo hi)) p l h in
      let all = largest_least e (e p) (prices lo hi) (all_in_range (λ q. e q ≤ e p) lo hi m.0) in
      let IfServed : ℕ → Type 0 = λ q. served q ≡ true → P q in
      in_range (λ q. nat_eq (e q) (largest e (prices lo hi)) ≡ true → IfServed q) lo hi (all_unkept _ IfServed (prices lo hi) (all_unkept served P _ c)) p l h
      (eq-eqb _ _ (omega arith))
      (and_from _ _ (le-leb _ _ m.1) (le-leb _ _ m.2))

  pub candidates_some : lo ≤ hi → candidates lo hi os ≡ [] → ⊥
  candidates_some r e =
      let f = some_price r in
      at_candidate (λ _. ⊥) (subst (All (λ _. ⊥)) (sym e) (All-nil (λ _. ⊥))) f.0 f.1 f.2 f.3 f.4
