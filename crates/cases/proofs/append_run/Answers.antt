-- A run is read copy by copy.
use Rattle.std.proofs.Common.{sym, ◌∙◌}
use Rattle.std.proofs.lemmas.Option.{MatchOption-at_some}
use Rattle.std.proofs.lemmas.Result.{err_from_is_err_and}
use Rattle.cases.proofs.Runs.{copies_all, copy_more, run_is}
use Rattle.cases.proofs.append_run.Goals as goal

pub returns-in_err-append_pairs-clause-err : goal.returns-in_err-append_pairs-clause-err
returns-in_err-append_pairs-clause-err c =
    let digits = c.in_ok-digits.digits.now in
    let times = c.in_ok-digits.times in
    let parts = MatchOption-at_some _ _ _ c.in_ok-digits.ensures.ok_part c.parts_of.ensures in
    let whole = run_is c.args.run.now c.args.bytes.now.items digits times parts.0 parts.1 in
    let p = err_from_is_err_and c.from_residual-in_err-append_pairs.result c.from_residual-in_err-append_pairs.ensures.1 in
    rw (p.1, p.2) (λ e. whole ∙ (sym c.loop.invariant ∙ copy_more times c.loop.counter digits _ c.loop.bytes.items _ c.loop-test.true c.as_bytes.ensures.value (c.in_err-append_pairs.ensures.err e)))

pub loop-preserved : goal.loop-preserved
loop-preserved c =
    sym (copy_more c.in_ok-digits.times c.loop.counter c.in_ok-digits.digits.now _ c.loop.bytes.items _ c.loop-test.true c.as_bytes.ensures.value c.in_ok-append_pairs.ensures.ok)
    ∙ c.loop.invariant

pub returns-clause-ok : goal.returns-clause-ok
returns-clause-ok c =
    let digits = c.in_ok-digits.digits.now in
    let times = c.in_ok-digits.times in
    let parts = MatchOption-at_some _ _ _ c.in_ok-digits.ensures.ok_part c.parts_of.ensures in
    run_is c.args.run.now c.args.bytes.now.items digits times parts.0 parts.1
    ∙ (sym c.loop.invariant ∙ copies_all times c.loop.counter digits c.loop.bytes.items c.loop-test.false)
