-- What the reader promises of the file is what the text says.
use Rattle.std.proofs.lemmas.Result.{IfOk-weaker}
use Rattle.reporting.proofs.Telling.{cause_told, session_told}
use Rattle.report.proofs.report.Goals as goal

pub returns-in-Ok : goal.returns-in-Ok
returns-in-Ok c =
    IfOk-weaker c.accepted_text.result _ _ (λ t. session_told _ _ c.args.file.now _ c.in-Ok.session c.in-Ok.ensures) c.accepted_text.ensures

pub returns-in-Err : goal.returns-in-Err
returns-in-Err c =
    IfOk-weaker c.refused_text.result _ _ (λ t. cause_told _ _ c.args.file.now _ c.in-Err.refusal c.in-Err.ensures) c.refused_text.ensures
