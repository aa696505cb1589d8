-- What the reader promises of a file is what a text of its lines tells.
use Rattle.std.proofs.Common.{◌≡◌, ℕ, Bool, true, false, cond, List, [], ◌++◌, Some, None, refl}
use Rattle.market.specs.Causes.{Cause, cause}
use Rattle.market.specs.declared.refusal.Refusal.{Refusal}
use Rattle.session.specs.Layout.{Session}
use Rattle.session.specs.Reading.{Accepts, Refuses, handed}
use Rattle.session.specs.declared.file.SessionFile.{SessionFile}
use Rattle.reporting.specs.Sessions.{or_empty}
use Rattle.reporting.specs.Told.{Told, accepted, first_line, refused}

pub session_told : (lines : Session → List ℕ) (line : Cause → List ℕ) (file text : List ℕ) (f : SessionFile) → Accepts file f
    → text ≡ first_line ++ lines (handed f)
    → Told lines line file text
session_told lines line file text f a told =
    accepted (handed f) (record { no_cause = a.no_cause; keeps = a.keeps; only = a.only; told = told })

pub cause_told : (lines : Session → List ℕ) (line : Cause → List ℕ) (file text : List ℕ) (e : Refusal) → Refuses file e
    → text ≡ first_line ++ line (cause e)
    → Told lines line file text
cause_told lines line file text e r told = refused (cause e) (record { because = r.because; breaks = r.breaks; told = told })

-- an absent body counts as empty
pub listed : {X : Type 0} (b : Bool) (xs : List X) → (b ≡ false → xs ≡ []) → xs ≡ or_empty (cond b (Some xs) None)
listed true xs h = refl
listed false xs h = h refl
