-- What an order asks for and what it gets at a level: a price in a range, and the shares that execute there.
use Rattle.std.specs.Prelude.{ℕ, Bool, List}
use Rattle.market.specs.declared.order.OrderTerms.{OrderTerms}
use Rattle.cross.specs.declared.level.Level.{Level}
use Rattle.cross.specs.Fills.{fill}
use Rattle.cross.specs.Queues.{asks}

abbrev pub asks_at : Level → OrderTerms → ℕ
asks_at l = asks l.range.lowest.cents l.range.highest.cents l.price.cents

abbrev pub fill_at : Level → (good : OrderTerms → OrderTerms → Bool) → List OrderTerms → ℕ → ℕ
fill_at l good os = fill l.range.lowest.cents l.range.highest.cents good os l.price.cents l.executed
