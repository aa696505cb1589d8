-- The figures of a book that was crossed.
use Rattle.std.specs.Prelude.{◌≡◌, ℕ, Bool, List}
use Rattle.market.specs.declared.order.OrderTerms.{OrderTerms}
use Rattle.cross.specs.declared.allotment.Allotment.{Allotment}
use Rattle.cross.specs.Allotments.{allotted}
use Rattle.cross.specs.Clearing.{clearing_price}
use Rattle.cross.specs.Crossing.{clearing_fills}
use Rattle.cross.specs.Depth.{executed}

pub record Priced
    (lo hi : ℕ) (good : OrderTerms → OrderTerms → Bool) (os : List OrderTerms) (t : ℕ) (before after : List Allotment) (price shares : ℕ) : Type 0 where
  pub at : price ≡ clearing_price lo hi t os
  pub executes : shares ≡ executed lo hi os (clearing_price lo hi t os)
  pub fills : after ≡ allotted os (clearing_fills lo hi good os t) before
