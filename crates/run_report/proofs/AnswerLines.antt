-- What an answer adds stands behind the line of its event.
use Rattle.std.proofs.Common.{◌≡◌, ℕ, List, ◌++◌, sym, ap, ◌∙◌}
use Rattle.std.proofs.lemmas.List.{append_assoc}
use Rattle.cross.specs.declared.allotment.Allotment.{Allotment}
use Rattle.replay.specs.Performing.{Answer, reply}
use Rattle.run_report.specs.Answers.{Shown, added_lines, answer_lines, event_line, shown}

pub told : (list : List Allotment) (place : ℕ) (s : Shown) (answer case : Answer) (before mid final : List ℕ)
    → mid ≡ before ++ event_line place s
    → s ≡ shown (reply answer)
    → answer ≡ case
    → final ≡ mid ++ added_lines list (reply case)
    → final ≡ before ++ answer_lines list place (reply answer)
told list place s answer case before mid final event columns is adds =
    adds
    ∙ (ap (λ bs. bs ++ added_lines list (reply case)) event
    ∙ (append_assoc before (event_line place s) (added_lines list (reply case))
    ∙ (ap (λ (x : Shown). before ++ (event_line place x ++ added_lines list (reply case))) columns
    ∙ ap (λ (x : Answer). before ++ (event_line place (shown (reply answer)) ++ added_lines list (reply x))) (sym is))))
