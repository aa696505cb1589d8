-- The line has the refusal's number, layer and byte.
use Rattle.std.proofs.Common.{◌≡◌, ℕ, List, ◌++◌, string_bytes, ap, ◌∙◌, rules}
use Rattle.market.specs.Causes.{Cause, at, cause}
use Rattle.run_report.specs.Text.{first_line, refused_line}
use Rattle.run_report.proofs.refused_text.Goals as goal

pub returns : goal.returns
returns c =
    let told : Cause = at c.number-number.result c.layer-layer.result c.byte-byte.result in
    let is : told ≡ cause c.args.refusal = λ i. at (c.number-number.ensures i) (c.layer-layer.ensures i) (c.byte-byte.ensures i) in
    let pushed : string_bytes c.push_line.new.text ≡ string_bytes c.in_ok-text.text ++ refused_line told = search rules in
    pushed
    ∙ (ap (λ (bs : List ℕ). bs ++ refused_line told) c.in_ok-text.ensures.ok ∙ ap (λ (x : Cause). first_line ++ refused_line x) is)
