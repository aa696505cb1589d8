-- What a check answers: nothing where there is no cause, else the cause as a refusal.
use Rattle.std.specs.Prelude.{◌≡◌, Some, None, Option, Result, MatchResult}
use Rattle.market.specs.Causes.{Cause, cause}
use Rattle.market.specs.declared.refusal.Refusal.{Refusal}

abbrev pub Told : {X : Type 0} → Result X Refusal → Option Cause → Type 0
Told r c = MatchResult r (λ _. c ≡ None) (λ e. c ≡ Some (cause e))
