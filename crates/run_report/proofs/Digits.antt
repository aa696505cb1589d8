-- The rule of decimal numbers: a number's digits are the same in any number of places above the number.
use Rattle.std.proofs.Common.{◌≡◌, ℕ, zero, suc, ◌/◌, ◌<◌, arith}
use Rattle.std.proofs.lemmas.Bool.Decides.{nat_tests}
use Rattle.run_report.specs.Decimals.{DecimalRule, decimal, digits}

same_digits : (j k n : ℕ) → n < j → n < k → digits j n ≡ digits k n
unfolding digits
same_digits zero k n h h' = absurd (omega arith)
same_digits (suc j) zero n h h' = absurd (omega arith)
same_digits (suc j) (suc k) n h h' = grind (arith, nat_tests, same_digits j k (n / 10))

pub decimal_rule : DecimalRule
unfolding decimal digits
decimal_rule =
    record { one = λ n h. grind (arith, nat_tests); more = λ n h. grind (arith, nat_tests, same_digits n (suc (n / 10)) (n / 10)) }
