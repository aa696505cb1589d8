-- What the report of a session file says.
use Rattle.std.specs.Prelude.{ℕ, List, [], ◌∷◌, ◌++◌, length, Some, None, codes, decimal, Option}
use Rattle.std.specs.List.{flat_map}
use Rattle.market.specs.Causes.{Cause}
use Rattle.market.specs.Ranges.{collar_highest, collar_lowest, twice_middle}
use Rattle.market.specs.declared.order.OrderTerms.{OrderTerms}
use Rattle.cross.specs.declared.allotment.Allotment.{Allotment}
use Rattle.cross.specs.Allotments.{allotments}
use Rattle.cross.specs.Clearing.{clearing_price}
use Rattle.cross.specs.Crossing.{clearing_fills}
use Rattle.cross.specs.Depth.{executed}
use Rattle.session.specs.Layout.{Session}
use Rattle.reporting.specs.Told.{CauseTold, SessionTold, Told}
pub use Rattle.reporting.specs.Sessions.{or_empty, ranking_of}
pub use Rattle.reporting.specs.Told.{first_line, refused_line}

-- decimal numbers, a comma before each, a line feed, and then the rest
abbrev pub numbers : List ℕ → List ℕ → List ℕ
numbers [] rest = 10 ∷ rest
numbers (n ∷ ns) rest = codes "," ++ (decimal n ++ numbers ns rest)

-- a line of a word and numbers, and then the rest
abbrev pub line : List ℕ → List ℕ → List ℕ → List ℕ
line word ns rest = word ++ numbers ns rest

-- how many there are; an absent body counts as empty
abbrev pub count : {X : Type 0} → Option (List X) → ℕ
count None = 0
count (Some xs) = length xs

-- the lines of an accepted file, by their numbers: what is in it, the collar of the last sale, and the price and the
-- shares at which its resting orders would clear in that collar; and then the rest
abbrev pub figures_text : (resting events note last_sale ranking low high price shares : ℕ) → List ℕ → List ℕ
figures_text r e n l k lo hi p x rest =
    line (codes "read") (r ∷ e ∷ n ∷ l ∷ k ∷ []) (line (codes "collar") (lo ∷ hi ∷ []) (line (codes "clears") (p ∷ x ∷ []) rest))

-- the line of one record of an allotment list
abbrev pub fill_line : Allotment → List ℕ
fill_line a = line (codes "fill") (a.place ∷ a.fill ∷ []) []

-- the same of a last sale and a list of resting orders
module _ (last_sale : ℕ) (os : List OrderTerms) where
  abbrev low : ℕ
  low = collar_lowest last_sale last_sale

  abbrev high : ℕ
  high = collar_highest last_sale last_sale

  abbrev clears_at : ℕ
  clears_at = clearing_price low high (twice_middle last_sale last_sale) os

  -- a line for the fill of each order: the buys by rising place, and then the sells
  abbrev pub fill_lines : (ranking : ℕ) → List ℕ
  fill_lines k = flat_map fill_line (allotments os (clearing_fills low high (ranking_of k) os (twice_middle last_sale last_sale)))

  abbrev pub priced_text : (resting events note ranking : ℕ) → List ℕ
  priced_text r e n k = figures_text r e n last_sale k low high clears_at (executed low high os clears_at) (fill_lines k)

abbrev pub session_lines : Session → List ℕ
session_lines s =
    priced_text s.last_sale (or_empty s.resting) (count s.resting) (count s.events) (count s.note) s.ranking

-- the file keeps the layout of this session and of no other, and the text tells what is in it
abbrev pub TellsSession : (file text : List ℕ) → Session → Type 0
TellsSession = SessionTold session_lines

-- the file is refused for this cause and keeps the layout of no session, and the text tells the cause
abbrev pub TellsCause : (file text : List ℕ) → Cause → Type 0
TellsCause = CauseTold refused_line

-- a file is told by the session that it holds, or else by its one cause
abbrev pub Reports : (file text : List ℕ) → Type 0
Reports = Told session_lines refused_line
