-- The lines that tell the answers of a run.
use Rattle.std.specs.Prelude.{ℕ, ◌+◌, Bool, List, [], ◌∷◌, ◌++◌, take, pos, codes}
use Rattle.std.specs.List.{flat_map}
use Rattle.market.specs.declared.order.OrderTerms.{OrderTerms}
use Rattle.cross.specs.declared.allotment.Allotment.{Allotment}
use Rattle.auction.specs.declared.answer.Figures.{Figures}
use Rattle.auction.specs.declared.answer.Outcome.{Outcome}
use Rattle.replay.specs.Performing.{Reply, State, refuses, enters, cancels, quotes, publishes, moves, crosses}
use Rattle.replay.specs.Runs.{Asked, step}
use Rattle.run_report.specs.Decimals.{decimal}
use Rattle.run_report.specs.Lines.{line}

-- What a line shows of an answer: the number of its refusal or 0, a price and shares, each 0 where the answer has none.
pub record Shown : Type 0 where
  pub number : ℕ
  pub price : ℕ
  pub shares : ℕ

abbrev show : (number price shares : ℕ) → Shown
show n p s = record { number = n; price = p; shares = s }

abbrev pub shown : Reply → Shown
shown (refuses c) = show c.number 0 0
shown (enters n) = show 0 0 n
shown (cancels n) = show 0 0 n
shown quotes = show 0 0 0
shown (publishes f) = show 0 f.reference_price f.paired_shares
shown moves = show 0 0 0
shown (crosses o) = show 0 o.price o.executed

-- the line of an event: its place, and what is shown of its answer
abbrev pub event_line : (place : ℕ) → Shown → List ℕ
event_line place s = line (decimal place) (pos s.number ∷ pos s.price ∷ pos s.shares ∷ [])

-- the published figures
abbrev pub info_line : Figures → List ℕ
info_line f =
    line (codes "info")
    (pos f.reference_price
    ∷ pos f.paired_shares
    ∷ f.imbalance
    ∷ pos f.indicative_price
    ∷ pos f.auction_price
    ∷ pos f.collar_lowest
    ∷ pos f.collar_highest
    ∷ pos f.twice_middle
    ∷ [])

-- one allotment of a cross: a place and its fill
abbrev pub fill_line : Allotment → List ℕ
fill_line a = line (codes "fill") (pos a.place ∷ pos a.fill ∷ [])

-- what a cross left unfilled: shares ended, and shares released
abbrev pub left_line : Outcome → List ℕ
left_line o = line (codes "left") (pos o.ended ∷ pos o.released ∷ [])

-- the lines that an accepted publish or cross adds, where the allotments are the first records of a list
abbrev pub added_lines : List Allotment → Reply → List ℕ
added_lines list (refuses c) = []
added_lines list (enters n) = []
added_lines list (cancels n) = []
added_lines list quotes = []
added_lines list (publishes f) = info_line f
added_lines list moves = []
added_lines list (crosses o) = flat_map fill_line (take o.records list) ++ left_line o

abbrev pub answer_lines : List Allotment → (place : ℕ) → Reply → List ℕ
answer_lines list place a = event_line place (shown a) ++ added_lines list a

-- The lines of a run, with the places of its calls counted on: each answer, with the allotment list that its call left.
abbrev pub run_lines : (OrderTerms → OrderTerms → Bool) → (place : ℕ) → State → List Asked → List ℕ
run_lines good place s [] = []
run_lines good place s (c ∷ more) =
    answer_lines (step good s c).next.list place (step good s c).answer ++ run_lines good (place + 1) (step good s c).next more

-- the lines of answers that were given, with one allotment list
abbrev pub all_lines : List Allotment → (place : ℕ) → List Reply → List ℕ
all_lines list place [] = []
all_lines list place (a ∷ more) = answer_lines list place a ++ all_lines list (place + 1) more
