-- What crossing a book promises.
use Rattle.std.specs.Prelude.{◌≡◌, ℕ, ◌<◌, Bool, List, length}
use Rattle.market.specs.Causes.{at, cause}
use Rattle.market.specs.declared.refusal.Refusal.{Refusal}
use Rattle.market.specs.declared.order.OrderTerms.{OrderTerms}
use Rattle.cross.specs.declared.allotment.Allotment.{Allotment}
use Rattle.cross.specs.declared.crossing.Crossing.{Crossing}
use Rattle.cross.specs.Allotments.{allotted}
use Rattle.cross.specs.Clearing.{clearing_price}
use Rattle.cross.specs.Crosses.{Best, Fair}
use Rattle.cross.specs.Depth.{executed}
use Rattle.cross.specs.Fills.{fill}

-- the fills at the clearing price, where as many shares execute as there can
abbrev pub clearing_fills : (lowest highest : ℕ) → (OrderTerms → OrderTerms → Bool) → List OrderTerms → (twice : ℕ) → ℕ → ℕ
clearing_fills lo hi good os t = fill lo hi good os (clearing_price lo hi t os) (executed lo hi os (clearing_price lo hi t os))

-- refused by number 12, since the list is shorter than the book; it stays as it was
abbrev pub TooShort : List OrderTerms → (before after : List Allotment) → Refusal → Type 0
TooShort os before after e = (cause e ≡ at 12 0 0) × (length before < length os) × (after ≡ before)

-- The price and the shares are those of the definitions, the list holds the fills, and with these fills no rival does
-- better and the ranking is kept.
pub record Crossed
    (lo hi : ℕ) (good : OrderTerms → OrderTerms → Bool) (os : List OrderTerms) (t : ℕ) (before after : List Allotment) (c : Crossing) : Type 0 where
  pub price : c.price.cents ≡ clearing_price lo hi t os
  pub shares : c.executed ≡ executed lo hi os (clearing_price lo hi t os)
  pub written : after ≡ allotted os (clearing_fills lo hi good os t) before
  pub best : Best lo hi os t (clearing_price lo hi t os) (clearing_fills lo hi good os t)
  pub fair : Fair lo hi os good (clearing_price lo hi t os) (clearing_fills lo hi good os t)
