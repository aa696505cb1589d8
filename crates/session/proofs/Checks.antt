-- Checks that answer a fault or none: what is known of their parts where they find nothing, and where they find one.
use Rattle.std.proofs.Common.{◌≡◌, Bool, true, false, cond, ◌⊎◌, Some, None, Option, refl, inl, inr}
use Rattle.std.specs.Option.{option_map}
use Rattle.session.specs.Faults.{or_else}

-- a fault where the test holds, else what the next check says
pub fault_if : {X : Type 0} (b : Bool) (x : X) (o : Option X) → cond b (Some x) o ≡ None → (b ≡ false) × (o ≡ None)
fault_if true x o e = (cc, cc)
fault_if false x o e = (refl, e)

-- a fault unless the test holds
pub fault_unless : {X : Type 0} (b : Bool) (o : Option X) (x : X) → cond b o (Some x) ≡ None → (b ≡ true) × (o ≡ None)
fault_unless true o x e = (refl, e)
fault_unless false o x e = (cc, cc)

-- one check after the other
pub or_none : {X : Type 0} (a b : Option X) → or_else a b ≡ None → (a ≡ None) × (b ≡ None)
or_none None b e = (refl, e)
or_none (Some x) b e = (cc, cc)

pub or_some : {X : Type 0} (a b : Option X) (x : X) → or_else a b ≡ Some x → (a ≡ Some x) ⊎ ((a ≡ None) × (b ≡ Some x))
or_some None b x e = inr (refl, e)
or_some (Some y) b x e = inl e

pub mapped_none : {X Y : Type 0} (f : X → Y) (o : Option X) → option_map f o ≡ None → o ≡ None
mapped_none f None e = refl
mapped_none f (Some x) e = cc
