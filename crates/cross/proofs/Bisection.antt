-- A bisection between an unserved and a served price: how it begins, and what it has found when the two are
-- neighbours.
use Rattle.std.proofs.Common.{◌≡◌, ℕ, ◌+◌, ◌-◌, ◌<◌, ◌≤◌, Bool, true, false, ◌⊎◌, subst, inl, inr, arith}
use Rattle.std.proofs.lemmas.Bool.{both_ways, cases_order}
use Rattle.cross.specs.Serving.{First}

-- the unserved and the served price on the way from one to the other, upwards or downwards
abbrev pub OnTheWay : (from to unserved found : ℕ) → Type 0
OnTheWay from to u f = ((from ≤ u) × (u < f) × (f ≤ to)) ⊎ ((to ≤ f) × (f < u) × (u ≤ from))

pub way_begins : (s : ℕ → Bool) (from to : ℕ) → s from ≡ false → s to ≡ true → OnTheWay from to from to
way_begins s from to u f =
    elim (cases_order from to) [
      | inl same ↦ absurd (both_ways (s to) (subst (λ p. s p ≡ false) same u) f)
      | inr apart ↦ elim apart [ inl up ↦ inl (omega arith, up, omega arith) | inr down ↦ inr (omega arith, down, omega arith) ]
    ]

pub way_ends : (s : ℕ → Bool) (from to u f : ℕ) → s u ≡ false → OnTheWay from to u f → (f - u) + (u - f) ≤ 1 → First s from to f
way_ends s from to u f e (inl up) near =
    let below : u ≡ f - 1 = omega (arith, up, near) in
    inl (omega (arith, up), up.2, subst (λ p. s p ≡ false) below e)
way_ends s from to u f e (inr down) near =
    let above : u ≡ f + 1 = omega (arith, down, near) in
    inr (omega (arith, down), down.0, subst (λ p. s p ≡ false) above e)
