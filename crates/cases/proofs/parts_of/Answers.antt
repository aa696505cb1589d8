-- The digits stand before the `*`, and the number behind it.
use Rattle.std.proofs.Common.{sym, ◌∙◌, arith}
use Rattle.std.proofs.lemmas.Option.{MatchOption-at_some}
use Rattle.std.proofs.lemmas.Str.Pattern.{split_once_first}
use Rattle.cases.proofs.Numerals.{numeral_read, told}
use Rattle.cases.proofs.parts_of.Goals as goal

pub returns-in_err-ok : goal.returns-in_err-ok
returns-in_err-ok c =
    let parts = MatchOption-at_some _ _ _ c.in-Some.is (split_once_first 42 c.args.run.now c.split_once.result c.split_once.ensures.cases (omega arith)) in
    let read = numeral_read c.in-Some.times.now c.parse.result c.parse.ensures.value.0 in
    rw c.from_residual.ensures (told c.args.run.now c.in-Some.times.now _ parts.0 parts.2 (read ∙ (sym c.ok.ensures.value ∙ c.in_err-ok.was)))

pub returns : goal.returns
returns c =
    let parts = MatchOption-at_some _ _ _ c.in-Some.is (split_once_first 42 c.args.run.now c.split_once.result c.split_once.ensures.cases (omega arith)) in
    let read = numeral_read c.in-Some.times.now c.parse.result c.parse.ensures.value.0 in
    (parts.1, told c.args.run.now c.in-Some.times.now _ parts.0 parts.2 (read ∙ (sym c.ok.ensures.value ∙ c.in_ok-ok.was)))
