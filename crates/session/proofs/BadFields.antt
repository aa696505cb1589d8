-- The checks of a body's fields find the first field that is outside its values: each check finds the least byte of
-- those that it is about, and the checks go through the body from its start.
use Rattle.std.proofs.Common.{◌≡◌, ℕ, zero, suc, ◌+◌, ◌*◌, ◌/◌, ◌<◌, ◌≤◌, true, eqb, ◌⊎◌, List, [], ◌∷◌, length, Some, None, Option, sym, refl, ap, subst, inl, inr, mul-zero, zero-add, mul-suc, arith}
use Rattle.std.proofs.lemmas.Bool.{both_ways, cond_both}
use Rattle.std.proofs.lemmas.Bool.Decides.{nat_tests}
use Rattle.std.specs.Option.{option_map}
use Rattle.session.specs.declared.body.BodyKind.{BodyKind}
use Rattle.session.specs.declared.body.BodyKind.TheVariants.{Heading, Resting, Events, Note}
use Rattle.session.specs.declared.field.Field.{Field}
use Rattle.session.specs.declared.field.Width.{Width}
use Rattle.session.specs.declared.field.Width.TheVariants.{One, Two, Four}
use Rattle.session.specs.Fields.{admits, byte, first_bad, size, span, value}
use Rattle.session.specs.Records.{event_size, heading_fields, named_fields, order_size}
use Rattle.session.specs.Faults.{bad_field, fields_of_event, fields_of_order, first_in, fits, or_else}
use Rattle.session.specs.FirstCauses.{BadAt, BadIn, BadRecord}
use Rattle.session.proofs.RecordSteps.{Table}

-- ---- a check that finds the least of certain bytes, and answers g of it

abbrev pub Finds : {X : Type 0} → (ℕ → X) → (ℕ → Type 0) → Option X → Type 0
Finds g P None = (c : ℕ) → P c → ⊥
Finds g P (Some x) = (b : ℕ) × (x ≡ g b) × P b × ((c : ℕ) → P c → b ≤ c)

-- one check after the other, where the bytes of the first come before those of the second
pub finds_or : {X : Type 0} (g : ℕ → X) (P Q : ℕ → Type 0) (a b : Option X)
    → ((c d : ℕ) → P c → Q d → c ≤ d)
    → Finds g P a
    → Finds g Q b
    → Finds g (λ c. P c ⊎ Q c) (or_else a b)
finds_or g P Q (Some x) b rise (n, e, p, least) second =
    (n, e, inl p, λ c w. elim w [ inl q ↦ least c q | inr q ↦ rise n c p q ])
finds_or g P Q None (Some x) rise none (n, e, q, least) =
    (n, e, inr q, λ c w. elim w [ inl p ↦ absurd (none c p) | inr r ↦ least c r ])
finds_or g P Q None None rise none none' = λ c w. elim w [ inl p ↦ none c p | inr q ↦ none' c q ]

-- the same bytes, said in another way
pub finds_like : {X : Type 0} (g : ℕ → X) (P Q : ℕ → Type 0) (o : Option X)
    → ((c : ℕ) → P c → Q c)
    → ((c : ℕ) → Q c → P c)
    → Finds g P o
    → Finds g Q o
finds_like g P Q None to from none = λ c q. none c (from c q)
finds_like g P Q (Some x) to from (n, e, p, least) = (n, e, to n p, λ c q. least c (from c q))

-- bytes counted from n on
pub finds_mapped : {X : Type 0} (g : ℕ → X) (n : ℕ) (P : ℕ → Type 0) (o : Option ℕ)
    → Finds (λ b. b) P o
    → Finds g (λ c. (k : ℕ) × (c ≡ n + k) × P k) (option_map (λ b. g (n + b)) o)
finds_mapped g n P None none = λ c w. none w.0 w.2
finds_mapped g n P (Some x) (b, e, p, least) =
    (n + b, ap (λ m. g (n + m)) e, (b, refl, p), λ c w. omega (arith, least w.0 w.2, w.1))

-- ---- the fields of one record

size_some : (w : Width) → 1 ≤ size w
size_some One = omega arith
size_some Two = omega arith
size_some Four = omega arith

-- a field begins within the span of the fields
bad_bounds : (fs : List Field) (bs : List ℕ) (at b : ℕ) → BadAt fs bs at b → (at ≤ b) × (b < at + span fs)
bad_bounds [] bs at b w = absurd w
bad_bounds (f ∷ fs) bs at b (inl (e, bad)) = let some = size_some f.width in (omega arith, omega arith)
bad_bounds (f ∷ fs) bs at b (inr w) =
    let within = bad_bounds fs bs (at + size f.width) b w in
    (omega arith, omega arith)

first_bad_finds : (fs : List Field) (bs : List ℕ) (at : ℕ) → Finds (λ b. b) (BadAt fs bs at) (first_bad fs bs at)
first_bad_finds [] bs at = λ c w. w
first_bad_finds (f ∷ fs) bs at =
    let next = at + size f.width in
    cond_both (admits f.values (value f.width bs at)) _ _ (Finds (λ b. b) (BadAt (f ∷ fs) bs at))
    (λ good. finds_like (λ b. b) (BadAt fs bs next) (BadAt (f ∷ fs) bs at) (first_bad fs bs next)
    (λ c w. inr w)
    (λ c w. elim w [ inl (e, bad) ↦ absurd (both_ways _ bad good) | inr p ↦ p ])
    (first_bad_finds fs bs next))
    (λ bad. (at, refl, inl (refl, bad), λ c w. (bad_bounds (f ∷ fs) bs at c w).0))

-- ---- the records of one body

-- every table of fields that a record may have is as long as the record
span_named : (k f : ℕ) → span (named_fields k f) ≡ 11
span_named k f =
    cond_both (eqb k 1) _ _ (λ fs. span fs ≡ 11) (λ _. refl)
    (λ _. cond_both (eqb k 2) _ _ (λ fs. span fs ≡ 11) (λ _. refl) (λ _. cond_both (eqb k 3) _ _ (λ fs. span fs ≡ 11) (λ _. refl) (λ _. refl)))

span_event : (bs : List ℕ) (at : ℕ) → span (fields_of_event bs at) ≡ event_size
span_event bs at = let s = span_named (byte bs (at + 4)) (byte bs (at + 5)) in omega arith

module _ (F : Table) (s : ℕ) (bs : List ℕ) (long : (at : ℕ) → span (F bs at) ≡ s) where
  -- a bad field of one of n records, which stand from a byte on
  abbrev BadFrom : (n at b : ℕ) → Type 0
  BadFrom n at b = (k : ℕ) × (k < n) × BadAt (F bs (at + s * k)) bs (at + s * k) b

  abbrev Bad : (at b : ℕ) → Type 0
  Bad at b = BadAt (F bs at) bs at b

  -- the first record, or one of those after it
  split : (n at b k : ℕ) → k < suc n → Bad (at + s * k) b → Bad at b ⊎ BadFrom n (at + s) b
  split n at b zero h w = let here : at + s * 0 ≡ at = omega (arith, mul-zero s) in inl (subst (λ a. Bad a b) here w)
  split n at b (suc k) h w =
      let later : at + s * suc k ≡ at + s + s * k = omega (arith, mul-suc s k) in
      inr (k, omega arith, subst (λ a. Bad a b) later w)

  join : (n at b : ℕ) → Bad at b ⊎ BadFrom n (at + s) b → BadFrom (suc n) at b
  join n at b (inl w) = let here : at ≡ at + s * 0 = omega (arith, mul-zero s) in (0, omega arith, subst (λ a. Bad a b) here w)
  join n at b (inr (k, h, w)) =
      let later : at + s + s * k ≡ at + s * suc k = omega (arith, mul-suc s k) in
      (suc k, omega arith, subst (λ a. Bad a b) later w)

  first_in_finds : (n at : ℕ) → Finds (λ b. b) (BadFrom n at) (first_in F s n bs at)
  first_in_finds zero at = λ c (k, h, w). omega arith
  first_in_finds (suc n) at =
      finds_like (λ b. b) (λ b. Bad at b ⊎ BadFrom n (at + s) b) (BadFrom (suc n) at) _
      (join n at)
      (λ c (k, h, w). split n at c k h w)
      (finds_or (λ b. b) (Bad at) (BadFrom n (at + s)) _ _
      (λ c d p (k, h, q).
      let one = bad_bounds (F bs at) bs at c p in
      let other = bad_bounds (F bs (at + s + s * k)) bs (at + s + s * k) d q in
      omega (arith, one, other, long at))
      (first_bad_finds (F bs at) bs at)
      (first_in_finds n (at + s)))

  -- the same of all the records of the body
  records_find : Finds (λ b. b) (BadRecord F s bs) (first_in F s (length bs / s) bs 0)
  records_find =
      let n = length bs / s in
      finds_like (λ b. b) (BadFrom n 0) (BadRecord F s bs) _
      (λ c (k, h, w). (k, h, subst (λ a. Bad a c) (zero-add (s * k)) w))
      (λ c (k, h, w). (k, h, subst (λ a. Bad a c) (sym (zero-add (s * k))) w))
      (first_in_finds n 0)

pub bad_field_finds : (kind : BodyKind) (bs : List ℕ) → Finds (λ b. b) (BadIn kind bs) (bad_field kind bs)
bad_field_finds Heading bs = first_bad_finds heading_fields bs 0
bad_field_finds Resting bs = records_find fields_of_order order_size bs (λ _. refl)
bad_field_finds Events bs = records_find fields_of_event event_size bs (span_event bs)
bad_field_finds Note bs = λ c w. w

-- a bad field lies in its body, where the body has a length of its kind
pub bad_within : (kind : BodyKind) (bs : List ℕ) (b : ℕ) → fits kind (length bs) ≡ true → BadIn kind bs b → b < length bs
bad_within Heading bs b h w =
    let sized : length bs ≡ 8 = grind (arith, nat_tests) in
    omega (arith, bad_bounds heading_fields bs 0 b w)
bad_within Resting bs b h (k, below, w) = omega (arith, bad_bounds (fields_of_order bs (order_size * k)) bs (order_size * k) b w)
bad_within Events bs b h (k, below, w) =
    omega (arith, bad_bounds (fields_of_event bs (event_size * k)) bs (event_size * k) b w, span_event bs (event_size * k))
bad_within Note bs b h w = absurd w
