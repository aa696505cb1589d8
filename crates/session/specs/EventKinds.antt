-- The number of each kind of event.
use Rattle.std.specs.Prelude.{◌≡◌, ℕ, false, Result, MatchResult}
use Rattle.market.specs.Causes.{at, cause}
use Rattle.market.specs.declared.refusal.Refusal.{Refusal}
use Rattle.session.specs.Fields.{admits}
use Rattle.session.specs.declared.field.Values.TheVariants.{EventKind as AKind}
use Rattle.session.specs.declared.record.kind.EventKind.{EventKind}
use Rattle.session.specs.declared.record.kind.EventKind.TheVariants.{Enter, Cancel, Quote, Publish, Lock, Shut, Cross}

abbrev pub kind_number : EventKind → ℕ
kind_number Enter = 1
kind_number Cancel = 2
kind_number Quote = 3
kind_number Publish = 4
kind_number Lock = 5
kind_number Shut = 6
kind_number Cross = 7

-- the kind of a number, or the refusal of a value where the number is outside the field's values
abbrev pub NamesKind : ℕ → Result EventKind Refusal → Type 0
NamesKind n r = MatchResult r (λ k. kind_number k ≡ n) (λ e. (cause e ≡ at 5 0 0) × (admits AKind n ≡ false))
