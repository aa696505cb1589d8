-- The line of the event, and behind it what the answer adds.
use Rattle.std.proofs.Common.{◌≡◌, ◌++◌, take, string_bytes, Ok, ap, ◌∙◌, rules}
use Rattle.std.proofs.lemmas.List.{append_assoc}
use Rattle.std.proofs.lemmas.Result.{IfOk-weaker}
use Rattle.std.specs.List.{flat_map}
use Rattle.replay.specs.declared.answer.Effect.TheVariants.{Published, Crossed}
use Rattle.run_report.specs.Answers.{fill_line, left_line}
use Rattle.run_report.proofs.AnswerLines.{told}
use Rattle.run_report.proofs.answers.push_answer.Goals as goal

pub returns-in-Ok-Published : goal.returns-in-Ok-Published
returns-in-Ok-Published c =
    let is : c.args.answer ≡ Ok (Published c.in-Ok-Published.figures) = search rules in
    IfOk-weaker c.push_info.result _ _
    (λ x p. told c.args.list.now c.args.place _ c.args.answer _ (string_bytes c.args.text.now) _ _ c.in_ok-push_event.ensures c.columns_of.ensures is p)
    c.push_info.ensures

pub returns-in_ok-push_fills-in-Ok-Crossed : goal.returns-in_ok-push_fills-in-Ok-Crossed
returns-in_ok-push_fills-in-Ok-Crossed c =
    let list = c.args.list.now in
    let o = c.in-Ok-Crossed.outcome in
    let is : c.args.answer ≡ Ok (Crossed o) = search rules in
    let mid = string_bytes c.push_event.new.text in
    let fills = flat_map fill_line (take o.records list) in
    let filled = c.in_ok-push_fills-in-Ok-Crossed.ensures ∙ ap (λ rs. mid ++ flat_map fill_line rs) c.first_of.ensures in
    IfOk-weaker c.push_left.result _ _
    (λ x p.
    told list c.args.place _ c.args.answer _ (string_bytes c.args.text.now) _ _ c.in_ok-push_event.ensures c.columns_of.ensures is
    (p ∙ (ap (λ bs. bs ++ left_line o) filled ∙ append_assoc mid fills (left_line o))))
    c.push_left.ensures
