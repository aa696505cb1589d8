-- The bytes that runs spell: none where a text is no runs, or where there are too many bytes.
use Rattle.std.specs.Prelude.{ℕ, zero, suc, cond, List, [], ◌∷◌, ◌++◌, length, nat_lt, Option, Some, None, ◌==◌, ◌&&◌}
use Rattle.std.specs.Option.{option_and_then}
use Rattle.std.specs.List.{after_first, before_first, position_or_len, slice_split}
use Rattle.std.specs.Str.{all_ascii_digits}
use Rattle.std.specs.Str.Parse.{digits_value, without_leading_plus}
use Rattle.cases.specs.Digits.{byte_of}

-- the most bytes that a case may have
abbrev pub most_bytes : ℕ
most_bytes = 70_000

-- bytes, and one more behind them
abbrev pub with_byte : (so_far : List ℕ) → ℕ → Option (List ℕ)
with_byte bs b = cond (nat_lt (length bs) most_bytes) (Some (bs ++ b ∷ [])) None

-- bytes, and those of pairs of digits behind them
abbrev pub with_pairs : (digits so_far : List ℕ) → Option (List ℕ)
with_pairs [] bs = Some bs
with_pairs (h ∷ []) bs = None
with_pairs (h ∷ l ∷ more) bs = option_and_then (with_pairs more) (option_and_then (with_byte bs) (byte_of h l))

-- the same so many times
abbrev pub with_copies : (times : ℕ) (digits so_far : List ℕ) → Option (List ℕ)
with_copies zero digits bs = Some bs
with_copies (suc n) digits bs = option_and_then (with_copies n digits) (with_pairs digits bs)

-- a decimal number below 2^32; a plus may stand before it
abbrev pub numeral : List ℕ → Option ℕ
numeral bs =
    let ds = without_leading_plus bs in
    cond (nat_lt 0 (length ds) && all_ascii_digits ds && nat_lt (digits_value 10 ds) 4_294_967_296) (Some (digits_value 10 ds)) None

-- the digits of a run
abbrev pub digits_of : List ℕ → List ℕ
digits_of run = before_first (λ b. b == 42) run

-- how often a run stands: once, where no `*`, 42, tells it
abbrev pub times_of : List ℕ → Option ℕ
times_of run =
    cond (nat_lt (position_or_len (λ b. b == 42) run) (length run)) (numeral (after_first (λ b. b == 42) run)) (Some 1)

-- bytes, and those of a run behind them
abbrev pub with_run : (run so_far : List ℕ) → Option (List ℕ)
with_run run bs = option_and_then (λ n. with_copies n (digits_of run) bs) (times_of run)

-- bytes, and those of runs behind them
abbrev pub with_runs : List (List ℕ) → (so_far : List ℕ) → Option (List ℕ)
with_runs [] bs = Some bs
with_runs (run ∷ more) bs = option_and_then (with_runs more) (with_run run bs)

-- the bytes of the runs of a text, between which `;`, 59, stands
abbrev pub spelled : List ℕ → Option (List ℕ)
spelled text = with_runs (slice_split (λ b. b == 59) text) []
