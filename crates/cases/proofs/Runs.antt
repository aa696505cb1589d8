-- A run is read copy by copy, and a text run by run.
use Rattle.std.proofs.Common.{◌≡◌, ℕ, suc, ◌+◌, ◌-◌, ◌<◌, ◌≤◌, List, length, get_or, drop, Option, Some, sym, ap, ◌∙◌, arith}
use Rattle.std.specs.Option.{option_and_then}
use Rattle.std.proofs.lemmas.List.{at_drop_more}
use Rattle.cases.specs.Runs.{digits_of, times_of, with_copies, with_pairs, with_run, with_runs}

-- the digits of a run, so often
pub run_is : (run bs digits : List ℕ) (times : ℕ) → digits ≡ digits_of run → times_of run ≡ Some times → with_run run bs ≡ with_copies times digits bs
run_is run bs digits times is often =
    ap (option_and_then (λ n. with_copies n (digits_of run) bs)) often ∙ ap (λ ds. with_copies times ds bs) (sym is)

-- one copy more
pub copy_more : (times k : ℕ) (digits read bs : List ℕ) (o : Option (List ℕ)) → k < times → read ≡ digits → with_pairs read bs ≡ o
    → with_copies (times - k) digits bs ≡ option_and_then (with_copies (times - (k + 1)) digits) o
copy_more times k digits read bs o h same is =
    let one : times - k ≡ suc (times - (k + 1)) = omega arith in
    ap (λ n. with_copies n digits bs) one ∙ ap (option_and_then (with_copies (times - (k + 1)) digits)) (ap (λ ds. with_pairs ds bs) (sym same) ∙ is)

-- none is left
pub copies_all : (times k : ℕ) (digits bs : List ℕ) → times ≤ k → with_copies (times - k) digits bs ≡ Some bs
copies_all times k digits bs h =
    let none : times - k ≡ 0 = omega arith in
    ap (λ n. with_copies n digits bs) none

-- one run more
pub run_more : (runs : List (List ℕ)) (k : ℕ) (run bs : List ℕ) (o : Option (List ℕ)) → (k < length runs) × (run ≡ get_or runs k run) → with_run run bs ≡ o
    → with_runs (drop k runs) bs ≡ option_and_then (with_runs (drop (k + 1) runs)) o
run_more runs k run bs o h is =
    at_drop_more (λ rs. with_runs rs bs) runs k run h.0
    ∙ (ap (λ r. option_and_then (with_runs (drop (k + 1) runs)) (with_run r bs)) (sym h.1) ∙ ap (option_and_then (with_runs (drop (k + 1) runs))) is)
