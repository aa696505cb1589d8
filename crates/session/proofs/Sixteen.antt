-- Tests that antt computes at each of the numbers up to 15, the sums of 1, 2, 4 and 8.
use Rattle.std.proofs.Common.{◌≡◌, ℕ, zero, suc, ◌≤◌, Bool, true, ◌&&◌, refl, arith}
use Rattle.std.proofs.lemmas.Bool.Decides.{Decides-below_and}

-- a test holds at each number below n
unfoldable pub every : (ℕ → Bool) → ℕ → Bool
every test zero = true
every test (suc n) = test n && every test n

pub at_each : (test : ℕ → Bool) → every test 16 ≡ true → (m : ℕ) → m ≤ 15 → test m ≡ true
unfolding every
at_each test e m h =
    let holds : ℕ → Type 0 = λ k. test k ≡ true in
    (Decides-below_and test holds (every test) (λ k. (λ t. t, λ t. t)) refl (λ _. refl) 16).0 e m (omega arith)
