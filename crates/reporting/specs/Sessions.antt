-- What a report takes from a session.
use Rattle.std.specs.Prelude.{ℕ, Bool, cond, List, [], Some, None, Option, ◌==◌}
use Rattle.market.specs.declared.order.OrderTerms.{OrderTerms}
use Rattle.cross.specs.Rankings.{by_display, by_shares}

-- an absent body counts as empty
abbrev pub or_empty : {X : Type 0} → Option (List X) → List X
or_empty None = []
or_empty (Some xs) = xs

-- the ranking that a heading names
abbrev pub ranking_of : ℕ → OrderTerms → OrderTerms → Bool
ranking_of n = cond (n == 1) by_display by_shares
