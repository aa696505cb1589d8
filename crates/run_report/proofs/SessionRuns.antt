-- The run of a session is never refused.
use Rattle.std.proofs.Common.{ℕ, ◌≤◌, refl, arith, Ok, Err, Result, MatchResult}
use Rattle.std.proofs.lemmas.Bool.Decides.{nat_tests}
use Rattle.std.specs.Result.{IsOk}
use Rattle.market.specs.Prices.{LawfulPrice}
use Rattle.replay.specs.Replaying.{Fails}
use Rattle.replay.specs.declared.step.Failure.{Failure}
use Rattle.replay.specs.declared.step.Failure.TheVariants.{Refused, AnswersShort}

-- from a lawful last sale, with room for every answer
pub made : (l n room : ℕ) (r : Result (Unit {0}) Failure) (P : Unit {0} → Type 0) → LawfulPrice l → n ≤ room → MatchResult r P (Fails l n room) → IsOk r
made l n room (Ok x) P h k m = refl
made l n room (Err (Refused e)) P h k m = let lawful = m.2 in absurd (grind (arith, nat_tests))
made l n room (Err AnswersShort) P h k m = absurd (omega (arith, m, k))
