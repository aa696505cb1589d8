-- Digits are read pair by pair.
use Rattle.std.proofs.Common.{◌≡◌, ℕ, ◌+◌, ◌/◌, ◌%◌, ◌≤◌, List, [], length, get_or, drop, None, sym, ap, ◌∙◌, arith}
use Rattle.std.proofs.lemmas.List.{at_drop_all, at_drop_more}
use Rattle.std.specs.Simd.{first_chunks}
use Rattle.cases.specs.Runs.{with_pairs}
use Rattle.cases.proofs.Pairs.{cut, full, no_digits, odd_digits, whatever, with_cut}
use Rattle.cases.proofs.append_pairs.Goals as goal

-- the digits that are cut, whole and from a place on
reads : (digits : List ℕ) (pairs : List (List ℕ)) (bs cs : List ℕ) (i : ℕ) → length digits % 2 ≡ 0
    → pairs ≡ first_chunks 2 (length digits / 2) digits
    → with_cut (drop i pairs) cs ≡ with_cut pairs bs
    → with_pairs digits bs ≡ with_cut (drop i pairs) cs
reads digits pairs bs cs i even cuts same =
    sym (cut digits bs even) ∙ (ap (λ ps. with_cut ps bs) (sym cuts) ∙ sym same)

pub returns-in_default-clause-err : goal.returns-in_default-clause-err
returns-in_default-clause-err c = λ _. odd_digits c.args.digits.now c.args.bytes.now.items (omega (arith, c.as_chunks.ensures.back_len, c.in_default.len_at_least))

pub returns-then-len-ge-MOST_BYTES-clause-err : goal.returns-then-len-ge-MOST_BYTES-clause-err
returns-then-len-ge-MOST_BYTES-clause-err c =
    let pairs = c.as_chunks.result.0.now in
    let i = c.loop-high.high-index in
    let cs = c.loop-high.bytes.items in
    let room : 70_000 ≤ length cs = omega (arith, c.len.ensures) in λ _.
    reads c.args.digits.now pairs c.args.bytes.now.items cs i (omega (arith, c.as_chunks.ensures.back_len, c.in_default-empty.len_below)) c.as_chunks.ensures.front c.loop-high.invariant
    ∙ (at_drop_more (λ ps. with_cut ps cs) pairs i [] c.loop-high-test.true ∙ full (get_or pairs i []) (drop (i + 1) pairs) cs room)

pub returns-in_err-ok_or-clause-err : goal.returns-in_err-ok_or-clause-err
returns-in_err-ok_or-clause-err c =
    let pairs = c.as_chunks.result.0.now in
    let i = c.loop-high.high-index in
    let cs = c.loop-high.bytes.items in
    let none : c.pair.result ≡ None = grind arith in
    whatever _ c.from_residual.result (
    reads c.args.digits.now pairs c.args.bytes.now.items cs i (omega (arith, c.as_chunks.ensures.back_len, c.in_default-empty.len_below)) c.as_chunks.ensures.front c.loop-high.invariant
    ∙ (at_drop_more (λ ps. with_cut ps cs) pairs i [] c.loop-high-test.true ∙ no_digits (get_or pairs i []) (drop (i + 1) pairs) cs (sym c.pair.ensures.value ∙ none)))

pub returns-clause-ok : goal.returns-clause-ok
returns-clause-ok c =
    let pairs = c.as_chunks.result.0.now in
    let i = c.loop-high.high-index in
    let cs = c.loop-high.bytes.items in
    reads c.args.digits.now pairs c.args.bytes.now.items cs i (omega (arith, c.as_chunks.ensures.back_len, c.in_default-empty.len_below)) c.as_chunks.ensures.front c.loop-high.invariant
    ∙ at_drop_all (λ ps. with_cut ps cs) pairs i c.loop-high-test.false
