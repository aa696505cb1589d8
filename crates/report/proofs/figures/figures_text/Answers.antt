-- What is counted and named is what the session says, line by line.
use Rattle.std.proofs.Common.{ℕ, List, [], ◌∷◌, ◌++◌, codes, length, ap, ◌∙◌}
use Rattle.report.specs.Text.{figures_text, first_line, line}
use Rattle.report.proofs.Lines.{figures_are}
use Rattle.report.proofs.figures.figures_text.Goals as goal

pub returns : goal.returns
returns c =
    let s = c.args.session.now in
    let low = c.args.figures.collar.lowest.cents in
    let high = c.args.figures.collar.highest.cents in
    let price = c.args.figures.crossing.price.cents in
    let shares = c.args.figures.crossing.executed in
    let l = s.heading.last_sale.cents in
    let n = length s.note.now in
    let read : List ℕ = line (codes "read") (c.count-resting.result ∷ c.count-events.result ∷ n ∷ l ∷ c.number-ranking.result ∷ []) [] in
    let collar : List ℕ = line (codes "collar") (low ∷ high ∷ []) [] in
    let clears : List ℕ = line (codes "clears") (price ∷ shares ∷ []) [] in
    c.in_ok-writeln-3.ensures.bytes
    ∙ (ap (λ bs. bs ++ clears) (c.in_ok-writeln-2.ensures.bytes ∙ ap (λ bs. bs ++ collar) (c.in_ok-writeln.ensures.bytes ∙ ap (λ bs. bs ++ read) c.in_ok-text.ensures.ok))
    ∙ (figures_are c.count-resting.result c.count-events.result n l c.number-ranking.result low high price shares
    ∙ (λ i. first_line ++ figures_text (c.count-resting.ensures i) (c.count-events.ensures i) n l (c.number-ranking.ensures i) low high price shares [])))
