-- How a book answers for a place.
use Rattle.std.specs.Prelude.{◌≡◌, ℕ, ◌<◌, ◌≤◌, List, length, Option, MatchOption, slice_index_or}
use Rattle.market.specs.declared.order.OrderTerms.{OrderTerms}
use Rattle.market.specs.declared.order.sound.Order.{Order}

-- none at or past the end of the list, else the order that stands there
abbrev pub AnswersAt : List OrderTerms → ℕ → Option Order → Type 0
AnswersAt os place r =
    MatchOption r (length os ≤ place) (λ o. (place < length os) × (o.terms ≡ slice_index_or os place o.terms))
