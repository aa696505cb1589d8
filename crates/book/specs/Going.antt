-- What is ahead of one who goes over a book.
use Rattle.std.specs.Prelude.{List, drop}
use Rattle.market.specs.declared.order.OrderTerms.{OrderTerms}
use Rattle.book.specs.declared.orders.Orders.{Orders}

-- the orders from a place on, where `orders` lists the book
abbrev pub ahead : {B : Type 0} → (B → List OrderTerms) → Orders B → List OrderTerms
ahead orders s = drop s.place (orders s.book.now)
