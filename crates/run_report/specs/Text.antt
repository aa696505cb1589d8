-- What the report of a session file says.
use Rattle.std.specs.Prelude.{ℕ, List, [], ◌∷◌, pos, codes}
use Rattle.market.specs.Causes.{Cause}
use Rattle.session.specs.Layout.{Session}
use Rattle.reporting.specs.Told.{CauseTold, SessionTold, Told}
use Rattle.run_report.specs.Answers.{run_lines}
use Rattle.run_report.specs.Lines.{line}
use Rattle.run_report.specs.Sessions.{ranking_of, session_calls, session_state}
pub use Rattle.reporting.specs.Told.{first_line}

abbrev pub refused_line : Cause → List ℕ
refused_line c = line (codes "refused") (pos c.number ∷ pos c.layer ∷ pos c.byte ∷ [])

abbrev pub session_lines : Session → List ℕ
session_lines s = run_lines (ranking_of s.ranking) 0 (session_state s) (session_calls s)

-- the file keeps the layout of this session and of no other, and the text tells how its events are answered
abbrev pub TellsSession : (file text : List ℕ) → Session → Type 0
TellsSession = SessionTold session_lines

-- the file is refused for this cause and keeps the layout of no session, and the text tells the cause
abbrev pub TellsCause : (file text : List ℕ) → Cause → Type 0
TellsCause = CauseTold refused_line

-- a file is told by the session that it holds, or else by its one cause
abbrev pub Reports : (file text : List ℕ) → Type 0
Reports = Told session_lines refused_line
