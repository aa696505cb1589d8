use Rattle.std.proofs.Common.{◌≡◌, List, [], ◌∷◌, drop, None, Option, Result}
use Rattle.market.specs.Causes.{Cause}
use Rattle.market.specs.declared.refusal.Refusal.{Refusal}
use Rattle.session.specs.declared.body.BodyKind.{BodyKind}
use Rattle.session.specs.Faults.{first_of, or_else}
use Rattle.session.specs.Told.{Told}
use Rattle.session.proofs.body.layers.check_bodies.Given as goal

-- the first of these bodies' faults
abbrev first_among : (BodyKind → Option Cause) → List BodyKind → Option Cause
first_among f [] = None
first_among f (k ∷ ks) = or_else (f k) (first_among f ks)

-- what is left of the bodies gives the answer
abbrev pub invariant-loop-kind : goal.invariant-loop-kind
invariant-loop-kind g l =
    (f : BodyKind → Option Cause) → ((k : BodyKind) (r : Result (Unit {0}) Refusal) → g.F.Fn.post l.check (k, tt) r → Told r (f k))
    → first_among f (drop l.kind-index l.kind-items) ≡ first_of f
