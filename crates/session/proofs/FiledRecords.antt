-- A body's records by place: how many there are, that none of them has a bad field, and what each says.
use Rattle.std.proofs.Common.{◌≡◌, ℕ, zero, suc, ◌+◌, ◌*◌, ◌/◌, ◌<◌, ◌≤◌, List, map, length, get_or, None, sym, mul-le-mul_left, mul-zero, mul-one, mul-add, arith}
use Rattle.std.proofs.Math.Nat.{mul-div-le}
use Rattle.std.proofs.lemmas.List.FromFn.{get_or-map-range_with_len, length-map-range_with_len}
use Rattle.std.specs.List.{range_with_len}
use Rattle.session.specs.Fields.{first_bad}
use Rattle.session.specs.Faults.{first_in}
use Rattle.session.specs.Records.{event_at, event_size, events_in, order_at, order_size, orders_in}
use Rattle.session.proofs.Checks.{or_none}
use Rattle.session.proofs.RecordSteps.{Table}

clean_from : (F : Table) (s n : ℕ) (bs : List ℕ) (a k : ℕ) → first_in F s n bs (s * a) ≡ None → k < n
    → first_bad (F bs (s * (a + k))) bs (s * (a + k)) ≡ None
clean_from F s zero bs a k e h = absurd (omega arith)
clean_from F s (suc n) bs a zero e h = let here : s * (a + 0) ≡ s * a = omega (arith, mul-add s a 0, mul-zero s) in rw here (or_none _ _ e).0
clean_from F s (suc n) bs a (suc k) e h =
    let next : s * a + s ≡ s * (a + 1) = omega (arith, mul-add s a 1, mul-one s) in
    let place : a + suc k ≡ (a + 1) + k = omega arith in
    rw place (clean_from F s n bs (a + 1) k (rw (← next) (or_none _ _ e).1) (omega arith))

-- where no record has a bad field, the k-th has none
pub clean_at : (F : Table) (s n : ℕ) (bs : List ℕ) (k : ℕ) → first_in F s n bs 0 ≡ None → k < n → first_bad (F bs (s * k)) bs (s * k) ≡ None
clean_at F s n bs k e h =
    let first : s * 0 ≡ 0 = mul-zero s in
    let place : 0 + k ≡ k = omega arith in
    rw place at (clean_from F s n bs 0 k (rw first e) h)

-- all that the records of a body say
abbrev said : {X : Type 0} → ℕ → (List ℕ → ℕ → X) → List ℕ → List X
said s read bs = map (λ k. read bs (s * k)) (range_with_len 0 (length bs / s))

-- as many as there are records
pub length_said : {X : Type 0} (s : ℕ) (read : List ℕ → ℕ → X) (bs : List ℕ) → length (said s read bs) ≡ length bs / s
length_said s read bs = length-map-range_with_len (λ k. read bs (s * k)) 0 (length bs / s)

-- the k-th record lies in the body
pub inside : (s : ℕ) (bs : List ℕ) (k : ℕ) → k < length bs / s → s * k + s ≤ length bs
inside s bs k below =
    let more : s * (k + 1) ≤ s * (length bs / s) = mul-le-mul_left s (omega arith) in
    omega (arith, more, mul-add s k 1, mul-one s, mul-div-le (length bs) s)

-- what is read at the k-th record stands at k in the list of the body
pub listed : {X : Type 0} (s : ℕ) (read : List ℕ → ℕ → X) (bs : List ℕ) (k : ℕ) → k < length bs / s
    → (x : X) → read bs (s * k) ≡ get_or (said s read bs) k x
listed s read bs k below x = sym (get_or-map-range_with_len (λ i. read bs (s * i)) 0 (length bs / s) k k x below (omega arith))

-- as many orders and events as records
pub length_orders : (bs : List ℕ) → length (orders_in bs) ≡ length bs / order_size
length_orders bs = length_said order_size order_at bs

pub length_events : (bs : List ℕ) → length (events_in bs) ≡ length bs / event_size
length_events bs = length_said event_size event_at bs
