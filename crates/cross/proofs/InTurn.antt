-- Shares given out in turn: each place asks for its weight, and gets it out of what those before it leave. All that
-- is there is given out, or all that is asked for where that is less.
use Rattle.std.proofs.Common.{◌≡◌, ℕ, zero, suc, ◌+◌, ◌-◌, ◌<◌, ◌≤◌, min, Bool, true, false, cond, ◌&&◌, List, ◌∷◌, sum_by, inl, inr, arith}
use Rattle.std.proofs.lemmas.List.Sums.{sum_by-cons}
use Rattle.std.proofs.lemmas.Bool.{and_parts, cases_Bool}
use Rattle.std.specs.List.{range_with_len}
use Rattle.cross.proofs.PlaceSums.{same_sums, same_pairs, sum_of_rest}

-- of any two among the places, one is before the other
abbrev pub Chain : (before : ℕ → ℕ → Bool) → (among : ℕ → Bool) → Type 0
Chain before among = (i j : ℕ) → among i ≡ true → among j ≡ true → i < j → before i j ≡ false → before j i ≡ true

module _ (weight : ℕ → ℕ) (before : ℕ → ℕ → Bool) where
  -- those among the places ask, and the others do not
  module _ (among : ℕ → Bool) (places : List ℕ) where
    abbrev pub asked : ℕ
    asked = sum_by (λ i. cond (among i) (weight i) 0) places

    abbrev pub asked_before : ℕ → ℕ
    asked_before j = sum_by (λ i. cond (among i && before i j) (weight i) 0) places

    -- what a place gets of e
    abbrev pub gets : (e j : ℕ) → ℕ
    gets e j = cond (among j) (min (weight j) (e - asked_before j)) 0

    abbrev pub given : ℕ → ℕ
    given e = sum_by (gets e) places

  module _ (never_itself : (i : ℕ) → before i i ≡ false)
      (onward : (i j k : ℕ) → before i j ≡ true → before j k ≡ true → before i k ≡ true) where
    -- one place more, a, and the later ones
    module _ (among : ℕ → Bool) (a n : ℕ) where
      abbrev later : List ℕ
      later = range_with_len (a + 1) n

      -- those that are before a
      abbrev prior : ℕ → Bool
      prior i = among i && before i a

      prior_chain : Chain before among → Chain before prior
      prior_chain chain i j x y = chain i j (and_parts _ _ x).0 (and_parts _ _ y).0

      prior_ask_less : asked prior later ≤ asked among later
      prior_ask_less =
          let own : (ℕ → Bool) → ℕ → ℕ = λ asks i. cond (asks i) (weight i) 0 in
          omega (arith, sum_of_rest (own prior) (own among) (a + 1) n (λ i. grind arith))

      -- whoever is before one of them is one of them
      asked_of_prior : (j : ℕ) → before j a ≡ true → asked_before prior later j ≡ asked_before among later j
      asked_of_prior j b =
          same_sums _ _ (a + 1) n
          (λ i _. let through : before i j ≡ true → before i a ≡ true = λ c. onward i j a c b in grind arith)

      asked_with_first : (j : ℕ)
          → asked_before among (a ∷ later) j ≡ cond (among a && before a j) (weight a) 0 + asked_before among later j
      asked_with_first j = sum_by-cons (λ i. cond (among i && before i j) (weight i) 0) a later

      -- where a asks, those before it get what they would without it, and each other one what it would of a's leavings
      moved_on : Chain before among → among a ≡ true → (e j : ℕ) → a < j
          → gets among (a ∷ later) e j + gets prior later (e - weight a) j
          ≡ gets prior later e j + gets among later (e - weight a) j
      moved_on chain asks e j l =
          let with_first = asked_with_first j in
          let of_prior = asked_of_prior j in
          let back = onward a j a in
          let itself = never_itself a in
          let either = chain a j asks in
          grind arith

      not_moved : among a ≡ false → (e j : ℕ) → gets among (a ∷ later) e j ≡ gets among later e j
      not_moved silent e j = let with_first = asked_with_first j in grind arith

    pub all_given : (among : ℕ → Bool) → Chain before among → (a n e : ℕ)
        → given among (range_with_len a n) e ≡ min e (asked among (range_with_len a n))
    all_given among chain a zero e = omega arith
    all_given among chain a (suc n) e =
        let ps = range_with_len (a + 1) n in
        let first = prior among a n in
        let got = gets among (a ∷ ps) e in
        let left = e - weight a in
        rw (sum_by-cons got a ps, sum_by-cons (λ i. cond (among i) (weight i) 0) a ps)
        (elim (cases_Bool (among a)) [
          | inl asks ↦
              let itself = never_itself a in
              let own = asked_with_first among a n a in
              let less = prior_ask_less among a n in
              let moved =
              same_pairs got (gets first ps left) (gets first ps e) (gets among ps left) (a + 1) n
              (λ j l. moved_on among a n chain asks e j (omega arith)) in
              let prior_all = all_given first (prior_chain among a n chain) (a + 1) n in
              let of_all = prior_all e in
              let of_left = prior_all left in
              let rest = all_given among chain (a + 1) n left in
              grind arith
          | inr silent ↦
              let same = same_sums got (gets among ps e) (a + 1) n (λ j _. not_moved among a n silent e j) in
              let rest = all_given among chain (a + 1) n e in
              grind arith
        ])
