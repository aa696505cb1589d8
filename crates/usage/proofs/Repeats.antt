-- A cross into one list, and where that was refused its repeat into another, are one cross into the longer of both.
use Rattle.std.proofs.Common.{◌≡◌, ℕ, max, Bool, true, false, cond, ltb, List, Ok, Err, Result, sym, refl, ap, ◌∙◌, arith, MatchResult}
use Rattle.std.proofs.lemmas.Bool.{cond-true}
use Rattle.std.proofs.lemmas.Bool.Decides.{nat_tests}
use Rattle.market.specs.Causes.{Cause, cause}
use Rattle.market.specs.declared.order.OrderTerms.{OrderTerms}
use Rattle.market.specs.declared.refusal.Refusal.{Refusal}
use Rattle.cross.specs.declared.allotment.Allotment.{Allotment}
use Rattle.auction.specs.Auctions.{Auction}
use Rattle.auction.specs.Outcomes.{list_after}
use Rattle.auction.specs.Refusing.{refusal, verdict_back}
use Rattle.auction.proofs.RefusalNumbers.{above_none}
use Rattle.usage.specs.Repeating.{first_after, first_short, second_after}

-- the causes of a cross: its time, and a list that is too short
abbrev pub cross_cause : (below outside short : Bool) → Cause
cross_cause below outside short = refusal (cond below 6 (cond outside 7 (cond short 12 0)))

-- accepted, it had room ..
pub has_room : (below outside short : Bool) → refusal 0 ≡ cross_cause below outside short → short ≡ false
has_room true outside short h = absurd (omega (arith, ap (λ (c : Cause). c.number) h))
has_room false true short h = absurd (omega (arith, ap (λ (c : Cause). c.number) h))
has_room false false true h = absurd (omega (arith, ap (λ (c : Cause). c.number) h))
has_room false false false h = refl

-- .. and would have been accepted with the longer of both
longer_has_room : (m k n : ℕ) → ltb m n ≡ false → ltb m n ≡ ltb (max m k) n
longer_has_room m k n h = grind (arith, nat_tests)

pub accepted_in_longer : (below outside : Bool) (m k n : ℕ) → refusal 0 ≡ cross_cause below outside (ltb m n) → refusal 0 ≡ cross_cause below outside (ltb (max m k) n)
accepted_in_longer below outside m k n h =
    h ∙ ap (λ s. cross_cause below outside s) (longer_has_room m k n (has_room below outside (ltb m n) h))

-- refused, and then accepted with another list, the first was too short
pub was_short : (e : Refusal) (below outside short later : Bool) → cause e ≡ cross_cause below outside short → refusal 0 ≡ cross_cause below outside later → short ≡ true
was_short e true outside short later h k = absurd (omega (arith, ap (λ (c : Cause). c.number) k))
was_short e false true short later h k = absurd (omega (arith, ap (λ (c : Cause). c.number) k))
was_short e false false true later h k = refl
was_short e false false false later h k = absurd (above_none e (ap (λ (c : Cause). c.number) h))

-- where the first was too short, the other has room if the longer of both has
longer_than_short : (m k n : ℕ) → ltb m n ≡ true → ltb k n ≡ ltb (max m k) n
longer_than_short m k n h = grind (arith, nat_tests)

as_longer : (e : Refusal) (below outside short later longer : Bool) → cause e ≡ cross_cause below outside short → (short ≡ true → later ≡ longer) → cross_cause below outside later ≡ cross_cause below outside longer
as_longer e true outside short later longer h same = refl
as_longer e false true short later longer h same = refl
as_longer e false false true later longer h same = ap (λ s. cross_cause false false s) (same refl)
as_longer e false false false later longer h same = absurd (above_none e (ap (λ (c : Cause). c.number) h))

-- refused, a cross is answered when it is repeated as with the longer of both
pub repeated_in_longer : (e : Refusal) (v : Cause) (below outside : Bool) (m k n : ℕ) → cause e ≡ cross_cause below outside (ltb m n) → v ≡ cross_cause below outside (ltb k n)
    → v ≡ cross_cause below outside (ltb (max m k) n)
repeated_in_longer e v below outside m k n h is =
    is ∙ as_longer e below outside (ltb m n) (ltb k n) (ltb (max m k) n) h (longer_than_short m k n)

-- what is known of a call that hands its stage back, made other where its verdict helps
pub by_verdict : {X Y : Type 0} (r : Result X (Y × Refusal)) {P P' : X → Type 0} {Q Q' : Y × Refusal → Type 0} (v : Cause)
    → verdict_back r ≡ v
    → MatchResult r P Q
    → ((s : X) → refusal 0 ≡ v → P s → P' s)
    → ((e : Y × Refusal) → Q e → Q' e)
    → MatchResult r P' Q'
by_verdict (Ok s) v h known accepted refused = accepted s h known
by_verdict (Err e) v h known accepted refused = refused e known

-- the second list is written
module _ (a : Auction) (filed : List OrderTerms) (good : OrderTerms → OrderTerms → Bool) (first second : List Allotment) where
  pub second_written : (l o : List Allotment) → first_short a filed good first second ≡ true → l ≡ first → o ≡ list_after a filed good second
      → (l ≡ first_after a filed good first second) × (o ≡ second_after a filed good first second)
  second_written l o short e f = (e ∙ sym (cond-true _ _ _ short), f ∙ sym (cond-true _ _ _ short))
