-- The prices that exist: whole cents from 1 to 20,000,000. Every other bound on a price goes back to these two.
use Rattle.std.specs.Prelude.{ℕ, ◌≤◌, Bool, ◌&&◌, nat_le}

abbrev pub lowest_price : ℕ
lowest_price = 1

abbrev pub highest_price : ℕ
highest_price = 20000000

abbrev pub LawfulPrice : ℕ → Type 0
LawfulPrice n = (lowest_price ≤ n) × (n ≤ highest_price)

-- the same as a test
abbrev pub lawful_price : ℕ → Bool
lawful_price n = nat_le lowest_price n && nat_le n highest_price
