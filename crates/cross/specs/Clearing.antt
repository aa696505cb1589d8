-- The clearing price: the price of a range that is found in three steps.
use Rattle.std.specs.Prelude.{ℕ, suc, ◌+◌, ◌-◌, ◌*◌, max, cond, ◌&&◌, List, [], ◌∷◌, filter, nat_eq, nat_le, nat_lt}
use Rattle.std.specs.List.{range_with_len}
use Rattle.market.specs.declared.order.OrderTerms.{OrderTerms}
use Rattle.cross.specs.Depth.{bought_above, executed, sold_below}

-- the prices of a range, rising
abbrev pub prices : (lowest highest : ℕ) → List ℕ
prices lo hi = range_with_len lo (suc hi - lo)

-- how far twice a price lies from twice the tie-breaker
abbrev pub distance : (twice p : ℕ) → ℕ
distance t p = (2 * p - t) + (t - 2 * p)

abbrev pub largest : (ℕ → ℕ) → List ℕ → ℕ
largest f [] = 0
largest f (p ∷ ps) = max (f p) (largest f ps)

-- one: the shares executed are most
abbrev pub most_executed : (ℕ → ℕ) → List ℕ → List ℕ
most_executed e ps = filter (λ p. nat_eq (e p) (largest e ps)) ps

-- two: the better-priced shares of either side are at most those executed
abbrev pub fully_served : (executed above below : ℕ → ℕ) → List ℕ → List ℕ
fully_served e a b ps = filter (λ p. nat_le (a p) (e p) && nat_le (b p) (e p)) ps

-- three: the distance is least. The prices rise, so that of two as near the lower one stays
abbrev pub nearest : (twice best : ℕ) → List ℕ → ℕ
nearest t p [] = p
nearest t p (q ∷ qs) = nearest t (cond (nat_lt (distance t q) (distance t p)) q p) qs

abbrev pub nearest_of : (twice : ℕ) → List ℕ → ℕ
nearest_of t [] = 0
nearest_of t (p ∷ ps) = nearest t p ps

-- the prices that meet the first two steps
abbrev pub candidates : (lowest highest : ℕ) → List OrderTerms → List ℕ
candidates lo hi os =
    fully_served (executed lo hi os) (bought_above lo hi os) (sold_below lo hi os) (most_executed (executed lo hi os) (prices lo hi))

abbrev pub clearing_price : (lowest highest twice : ℕ) → List OrderTerms → ℕ
clearing_price lo hi t os = nearest_of t (candidates lo hi os)
