-- A line, and then the rest: what is pushed behind lines stands behind them.
use Rattle.std.proofs.Common.{◌≡◌, ℕ, List, [], ◌∷◌, ◌++◌, codes, decimal, refl, ap, ◌∙◌}
use Rattle.std.proofs.lemmas.List.{append_assoc}
use Rattle.market.specs.Causes.{Cause}
use Rattle.report.specs.Text.{figures_text, first_line, line, numbers, refused_line}

numbers_then : (ns inner rest : List ℕ) → numbers ns inner ++ rest ≡ numbers ns (inner ++ rest)
numbers_then [] inner rest = refl
numbers_then (n ∷ ns) inner rest =
    append_assoc (codes ",") (decimal n ++ numbers ns inner) rest
    ∙ ap (λ xs. codes "," ++ xs) (append_assoc (decimal n) (numbers ns inner) rest ∙ ap (λ xs. decimal n ++ xs) (numbers_then ns inner rest))

line_then : (word ns inner rest : List ℕ) → line word ns inner ++ rest ≡ line word ns (inner ++ rest)
line_then word ns inner rest = append_assoc word (numbers ns inner) rest ∙ ap (λ xs. word ++ xs) (numbers_then ns inner rest)

-- the lines of the figures, one behind the other
pub figures_are : (r e n l k lo hi p x : ℕ)
    → ((first_line ++ line (codes "read") (r ∷ e ∷ n ∷ l ∷ k ∷ []) []) ++ line (codes "collar") (lo ∷ hi ∷ []) []) ++ line (codes "clears") (p ∷ x ∷ []) []
    ≡ first_line ++ figures_text r e n l k lo hi p x []
figures_are r e n l k lo hi p x =
    let clears = line (codes "clears") (p ∷ x ∷ []) [] in
    let collar = line (codes "collar") (lo ∷ hi ∷ []) [] in
    let read = r ∷ e ∷ n ∷ l ∷ k ∷ [] in
    append_assoc (first_line ++ line (codes "read") read []) collar clears
    ∙ (append_assoc first_line (line (codes "read") read []) (collar ++ clears)
    ∙ ap (λ xs. first_line ++ xs)
    (line_then (codes "read") read [] (collar ++ clears) ∙ ap (line (codes "read") read) (line_then (codes "collar") (lo ∷ hi ∷ []) [] clears)))

-- behind the lines of the figures
pub figures_then : (r e n l k lo hi p x : ℕ) (rest : List ℕ)
    → (first_line ++ figures_text r e n l k lo hi p x []) ++ rest ≡ first_line ++ figures_text r e n l k lo hi p x rest
figures_then r e n l k lo hi p x rest =
    let clears = p ∷ x ∷ [] in
    let collar = lo ∷ hi ∷ [] in
    let read = r ∷ e ∷ n ∷ l ∷ k ∷ [] in
    append_assoc first_line (figures_text r e n l k lo hi p x []) rest
    ∙ ap (λ xs. first_line ++ xs)
    (line_then (codes "read") read (line (codes "collar") collar (line (codes "clears") clears [])) rest
    ∙ ap (line (codes "read") read)
    (line_then (codes "collar") collar (line (codes "clears") clears []) rest ∙ ap (line (codes "collar") collar) (line_then (codes "clears") clears [] rest)))

-- the line of a cause is a line as the others
pub refused_is : (c : Cause) → refused_line c ≡ line (codes "refused") (c.number ∷ c.layer ∷ c.byte ∷ []) []
refused_is c = simp append_assoc
