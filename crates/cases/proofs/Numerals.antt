-- How often a run stands.
use Rattle.std.proofs.Common.{◌≡◌, ℕ, ◌<◌, true, cond, eqb, nat_lt, List, length, Option, Some, Result, Ok, Err, sym, ap, ◌∙◌, arith}
use Rattle.std.proofs.lemmas.Bool.Decides.{nat_tests}
use Rattle.std.proofs.lemmas.Str.Parse.{IsNumeralModel, numerals_by_value, tells_all_ascii_digits}
use Rattle.std.specs.List.{after_first, position_or_len}
use Rattle.std.specs.Result.{result_ok}
use Rattle.std.specs.Str.{all_ascii_digits}
use Rattle.std.specs.Str.Parse.{ParsesUnsigned, digits_value, without_leading_plus}
use Rattle.cases.specs.Runs.{numeral, times_of}

own : IsNumeralModel (λ ds. all_ascii_digits ds ≡ true) (digits_value 10)
own = numerals_by_value _ tells_all_ascii_digits

pub numeral_read : {E : Type 0} (bs : List ℕ) (r : Result ℕ E) → ParsesUnsigned 32 10 bs r → numeral bs ≡ result_ok r
numeral_read bs (Ok n) h =
    let ds = without_leading_plus bs in
    let digits : all_ascii_digits ds ≡ true = own.from ds h.0.0.1 in
    let some : 0 < length ds = h.0.0.0 in
    let small : digits_value 10 ds < 4_294_967_296 = h.0.1 in
    let is : n ≡ digits_value 10 ds = h.1 in
    grind (arith, nat_tests)
numeral_read bs (Err e) h =
    let ds = without_leading_plus bs in
    let no : all_ascii_digits ds ≡ true → 0 < length ds → digits_value 10 ds < 4_294_967_296 → ⊥
    = λ d l s. h ((l, own.to ds d), s) in
    grind (arith, nat_tests, no)

-- the number behind the `*`
pub told : (run after : List ℕ) (o : Option ℕ) → position_or_len (λ b. eqb b 42) run < length run → after ≡ after_first (λ b. eqb b 42) run → numeral after ≡ o
    → times_of run ≡ o
told run after o star behind is =
    let more : nat_lt (position_or_len (λ b. eqb b 42) run) (length run) ≡ true = grind (arith, nat_tests) in
    ap (λ b. cond b (numeral (after_first (λ b. eqb b 42) run)) (Some 1)) more ∙ (ap numeral (sym behind) ∙ is)
