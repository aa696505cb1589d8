-- What the three steps make of a rising list of prices: a filter keeps just those that pass, no value is above the
-- largest, and the nearest is one of the list that comes before each.
use Rattle.std.proofs.Common.{◌≡◌, ℕ, zero, suc, ◌+◌, ◌-◌, ◌<◌, ◌≤◌, Bool, true, false, cond, ltb, ◌⊎◌, List, [], ◌∷◌, get_or, filter, refl, subst, inl, inr, arith}
use Rattle.std.proofs.lemmas.List.FromFn.{length-range_with_len, get_or-range_with_len}
use Rattle.std.proofs.lemmas.List.Elements.{All-cons, All-filter, All-head, All-nil, All-tail, All-weaker}
use Rattle.std.proofs.lemmas.Bool.{false≢true, cond_both, ltb-true, ltb-false}
use Rattle.std.specs.List.{All, range_with_len}
use Rattle.cross.specs.Clearing.{prices, distance, largest, nearest, nearest_of}

-- ---- the prices of a range

all_counting : (P : ℕ → Type 0) (a n : ℕ) → ((q : ℕ) → a ≤ q → q < a + n → P q) → All P (range_with_len a n)
all_counting P a n h k d l =
    let within = length-range_with_len a n in
    rw (get_or-range_with_len a n k d (omega arith)) (h (a + k) (omega arith) (omega arith))

pub all_in_range : (P : ℕ → Type 0) (lo hi : ℕ) → ((q : ℕ) → lo ≤ q → q ≤ hi → P q) → All P (prices lo hi)
all_in_range P lo hi h = all_counting P lo (suc hi - lo) (λ q l u. h q l (omega arith))

pub in_range : (P : ℕ → Type 0) (lo hi : ℕ) → All P (prices lo hi) → (q : ℕ) → lo ≤ q → q ≤ hi → P q
in_range P lo hi h q l u =
    let n = suc hi - lo in
    let there : get_or (prices lo hi) (q - lo) 0 ≡ q = omega (arith, get_or-range_with_len lo n (q - lo) 0 (omega arith)) in
    subst P there (h (q - lo) 0 (omega (arith, length-range_with_len lo n)))

abbrev pub Rising : List ℕ → Type 0
Rising [] = Unit {0}
Rising (p ∷ ps) = All (λ q. p < q) ps × Rising ps

counting_rises : (a n : ℕ) → Rising (range_with_len a n)
counting_rises a zero = tt
counting_rises a (suc n) = (all_counting (λ q. a < q) (a + 1) n (λ q l _. omega arith), counting_rises (a + 1) n)

pub prices_rise : (lo hi : ℕ) → Rising (prices lo hi)
prices_rise lo hi = counting_rises lo (suc hi - lo)

-- ---- a filter

-- the head is kept or not
kept_head : (b : Bool) (P : ℕ → Type 0) (p : ℕ) (ks : List ℕ) → All P (cond b (p ∷ ks) ks)
    → (b ≡ true → P p) × All P ks
kept_head true P p ks h = (λ _. All-head P p ks h, All-tail P p ks h)
kept_head false P p ks h = (λ e. absurd (false≢true e), h)

-- what holds of all that is kept holds of each that passes
pub all_unkept : (test : ℕ → Bool) (P : ℕ → Type 0) (ps : List ℕ) → All P (filter test ps)
    → All (λ p. test p ≡ true → P p) ps
all_unkept test P [] h = All-nil (λ p. test p ≡ true → P p)
all_unkept test P (p ∷ ps) h =
    let parts = kept_head (test p) P p (filter test ps) h in
    All-cons (λ p. test p ≡ true → P p) p ps parts.0 (all_unkept test P ps parts.1)

pub kept_rises : (test : ℕ → Bool) (ps : List ℕ) → Rising ps → Rising (filter test ps)
kept_rises test [] r = tt
kept_rises test (p ∷ ps) r =
    let rest = kept_rises test ps r.1 in
    cond_both (test p) (p ∷ filter test ps) (filter test ps) Rising
    (λ _. (All-filter test (λ q. p < q) ps r.0, rest))
    (λ _. rest)

-- ---- the largest value: no value is above it, and it is not above what no value is above

pub largest_most : (f : ℕ → ℕ) (ps : List ℕ) → All (λ p. f p ≤ largest f ps) ps
largest_most f [] = All-nil (λ p. f p ≤ 0)
largest_most f (p ∷ ps) =
    let Low : ℕ → ℕ → Type 0 = λ m q. f q ≤ m in
    All-cons (Low (largest f (p ∷ ps))) p ps (omega arith)
    (All-weaker (Low (largest f ps)) (Low (largest f (p ∷ ps))) (λ q h. omega arith) ps (largest_most f ps))

pub largest_least : (f : ℕ → ℕ) (m : ℕ) (ps : List ℕ) → All (λ p. f p ≤ m) ps → largest f ps ≤ m
largest_least f m [] h = omega arith
largest_least f m (p ∷ ps) h =
    let Low : ℕ → Type 0 = λ q. f q ≤ m in
    omega (arith, All-head Low p ps h, largest_least f m ps (All-tail Low p ps h))

-- ---- the nearest price

-- nearer, or as near and not above
abbrev pub Before : (twice p q : ℕ) → Type 0
Before t p q = (distance t p < distance t q) ⊎ ((distance t p ≡ distance t q) × (p ≤ q))

before_before : (t p q r : ℕ) → Before t p q → Before t q r → Before t p r
before_before t p q r a b = grind arith

pub before_both : (t p q : ℕ) → Before t p q → Before t q p → p ≡ q
before_both t p q a b = grind arith

-- what holds of each holds of the nearest
nearest_any : (P : ℕ → Type 0) (t p : ℕ) (qs : List ℕ) → P p → All P qs → P (nearest t p qs)
nearest_any P t p [] h a = h
nearest_any P t p (q ∷ qs) h a =
    let closer = ltb (distance t q) (distance t p) in
    nearest_any P t (cond closer q p) qs (cond_both closer q p P (λ _. All-head P q qs a) (λ _. h)) (All-tail P q qs a)

pub nearest_of_any : (P : ℕ → Type 0) (t : ℕ) (ps : List ℕ) → (ps ≡ [] → ⊥) → All P ps → P (nearest_of t ps)
nearest_of_any P t [] some a = absurd (some refl)
nearest_of_any P t (p ∷ ps) some a = nearest_any P t p ps (All-head P p ps a) (All-tail P p ps a)

-- the nearest comes before each: one that is taken is nearer than all so far, and one left is above the best so far
nearest_before : (t p : ℕ) (qs : List ℕ) → All (λ q. p < q) qs → Rising qs
    → Before t (nearest t p qs) p × All (Before t (nearest t p qs)) qs
nearest_before t p [] a r = (inr (refl, omega arith), All-nil (Before t p))
nearest_before t p (q ∷ qs) a r =
    let taken = nearest_before t q qs r.0 r.1 in
    let left = nearest_before t p qs (All-tail (λ q. p < q) q qs a) r.1 in
    let above : p < q = All-head (λ q. p < q) q qs a in
    cond_both (ltb (distance t q) (distance t p)) q p
    (λ b. Before t (nearest t b qs) p × All (Before t (nearest t b qs)) (q ∷ qs))
    (λ e. (before_before t _ q p taken.0 (inl (ltb-true _ _ e)), All-cons (Before t (nearest t q qs)) q qs taken.0 taken.1))
    (λ e. (left.0, All-cons (Before t (nearest t p qs)) q qs (before_before t _ p q left.0 (grind (arith, ltb-false _ _ e))) left.1))

pub nearest_of_before : (t : ℕ) (ps : List ℕ) → Rising ps → All (Before t (nearest_of t ps)) ps
nearest_of_before t [] r = All-nil (Before t 0)
nearest_of_before t (p ∷ ps) r =
    let each = nearest_before t p ps r.0 r.1 in
    All-cons (Before t (nearest t p ps)) p ps each.0 each.1
