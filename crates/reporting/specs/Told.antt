-- How a report tells a file, by the lines that it has for a session and for a cause.
use Rattle.std.specs.Prelude.{◌≡◌, ℕ, List, ◌++◌, Some, None, codes}
use Rattle.market.specs.Causes.{Cause}
use Rattle.market.specs.CauseText.{cause_text}
use Rattle.session.specs.Faults.{fault}
use Rattle.session.specs.Layout.{KeepsLayout, Session}

abbrev pub first_line : List ℕ
first_line = codes "event,answer,price,shares\n"

-- the number, layer and byte of a cause
abbrev pub refused_line : Cause → List ℕ
refused_line c = codes "refused," ++ (cause_text c ++ codes "\n")

-- the file keeps the layout of this session and of no other, and the text tells its lines
pub record SessionTold (lines : Session → List ℕ) (file text : List ℕ) (s : Session) : Type 0 where
  pub no_cause : fault file ≡ None
  pub keeps : KeepsLayout file s
  pub only : (t : Session) → KeepsLayout file t → t ≡ s
  pub told : text ≡ first_line ++ lines s

-- the file is refused for this cause and keeps the layout of no session, and the text tells the cause
pub record CauseTold (line : Cause → List ℕ) (file text : List ℕ) (c : Cause) : Type 0 where
  pub because : fault file ≡ Some c
  pub breaks : (s : Session) → KeepsLayout file s → ⊥
  pub told : text ≡ first_line ++ line c

-- a file is told by the session that it holds, or else by its one cause
pub data Told (lines : Session → List ℕ) (line : Cause → List ℕ) (file text : List ℕ) : Type 0 where
  accepted : (s : Session) → SessionTold lines file text s → Told lines line file text
  refused : (c : Cause) → CauseTold line file text c → Told lines line file text
