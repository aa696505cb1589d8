-- A text is read run by run.
use Rattle.std.proofs.Common.{eqb, drop, length, sym, ap, ◌∙◌, arith}
use Rattle.std.proofs.lemmas.Iterator.Consumers.{YieldsList-at, YieldsList-end, YieldsList-turn}
use Rattle.std.proofs.lemmas.Iterator.Splits.{YieldsList-from_str_split}
use Rattle.std.proofs.lemmas.List.{at_drop_all, length_push}
use Rattle.std.proofs.lemmas.Result.{err_from_is_err_and}
use Rattle.std.specs.List.{slice_split}
use Rattle.cases.specs.Runs.{with_runs}
use Rattle.cases.proofs.Runs.{run_more}
use Rattle.cases.proofs.bytes_of.Goals as goal

pub loop-run-preserved : goal.loop-run-preserved
loop-run-preserved c =
    let s = c.split-run-items.ensures in
    let t = YieldsList-turn (YieldsList-at c.into_iter-run-iterator.ensures.into_iter_gives (YieldsList-from_str_split 59 c.args.text.now (omega arith) s.text s.has_more s.pattern)) c.loop-run.yielded _ c.loop-run.yielded_by _ _ c.in-Some.run' c.in-Some.is c.next.ensures.steps in
    let runs = slice_split (λ b. eqb b 59) c.args.text.now in
    ap (λ n. with_runs (drop n runs) c.append_run.new.bytes.items) (length_push c.loop-run.yielded c.in-Some.run')
    ∙ (sym (run_more runs (length c.loop-run.yielded) c.in-Some.run'.now c.loop-run.bytes.items _ t c.in_ok-append_run.ensures.ok) ∙ c.loop-run.invariant)

pub returns-in_err-append_run-clause-err : goal.returns-in_err-append_run-clause-err
returns-in_err-append_run-clause-err c =
    let s = c.split-run-items.ensures in
    let t = YieldsList-turn (YieldsList-at c.into_iter-run-iterator.ensures.into_iter_gives (YieldsList-from_str_split 59 c.args.text.now (omega arith) s.text s.has_more s.pattern)) c.loop-run.yielded _ c.loop-run.yielded_by _ _ c.in-Some.run' c.in-Some.is c.next.ensures.steps in
    let runs = slice_split (λ b. eqb b 59) c.args.text.now in
    let p = err_from_is_err_and c.from_residual.result c.from_residual.ensures.1 in
    rw (p.1, p.2) (λ e. sym c.loop-run.invariant ∙ run_more runs (length c.loop-run.yielded) c.in-Some.run'.now c.loop-run.bytes.items _ t (c.in_err-append_run.ensures.err e))

pub returns-clause-ok : goal.returns-clause-ok
returns-clause-ok c =
    let s = c.split-run-items.ensures in
    let t = YieldsList-end (YieldsList-at c.into_iter-run-iterator.ensures.into_iter_gives (YieldsList-from_str_split 59 c.args.text.now (omega arith) s.text s.has_more s.pattern)) c.loop-run.yielded _ c.loop-run.yielded_by _ _ c.in-None.is c.next.ensures.steps in
    let runs = slice_split (λ b. eqb b 59) c.args.text.now in
    sym c.loop-run.invariant ∙ at_drop_all (λ rs. with_runs rs c.loop-run.bytes.items) runs (length c.loop-run.yielded) (omega (arith, t.1))
