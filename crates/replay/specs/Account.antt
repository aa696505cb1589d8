-- The account of shares: what was accepted rests, or was withdrawn, filled, ended or released.
use Rattle.std.specs.Prelude.{◌≡◌, ℕ, ◌+◌, ◌≤◌, Bool, List, length, take, sum_by}
use Rattle.market.specs.declared.order.OrderTerms.{OrderTerms}
use Rattle.replay.specs.Performing.{State, Reply, refuses, enters, cancels, quotes, publishes, moves, crosses}
use Rattle.replay.specs.Runs.{Asked, after, answers}

-- what one answer says of shares
pub record Shares : Type 0 where
  pub accepted : ℕ
  pub withdrawn : ℕ
  pub filled : ℕ
  pub ended : ℕ
  pub released : ℕ

abbrev none : Shares
none = record { accepted = 0; withdrawn = 0; filled = 0; ended = 0; released = 0 }

abbrev pub shares_in : Reply → Shares
shares_in (refuses c) = none
shares_in (enters n) = record { accepted = n; withdrawn = 0; filled = 0; ended = 0; released = 0 }
shares_in (cancels n) = record { accepted = 0; withdrawn = n; filled = 0; ended = 0; released = 0 }
shares_in quotes = none
shares_in (publishes f) = none
shares_in moves = none
shares_in (crosses o) = record { accepted = 0; withdrawn = 0; filled = o.filled; ended = o.ended; released = o.released }

abbrev pub total : (Shares → ℕ) → List Reply → ℕ
total part reply = sum_by (λ a. part (shares_in a)) reply

-- the shares that a book shows
abbrev pub resting : List OrderTerms → ℕ
resting os = sum_by (λ o. o.shares) os

-- a book accounts for the answers that were given
abbrev pub Balanced : List OrderTerms → List Reply → Type 0
Balanced os reply =
    total (λ s. s.accepted) reply
    ≡ resting os
    + (total (λ s. s.withdrawn) reply + (total (λ s. s.filled) reply + (total (λ s. s.ended) reply + total (λ s. s.released) reply)))

-- after the start, and after each call of a run
abbrev pub Account : (OrderTerms → OrderTerms → Bool) → State → List Asked → Type 0
Account good d ss =
    (n : ℕ) → n ≤ length ss → Balanced (after good d (take n ss)).auction.orders (answers good d (take n ss))
