-- The events that a session file may hold.
use Rattle.std.specs.Prelude.{◌≡◌, ℕ, ◌<◌, ◌≤◌, true, List, length, Option, MatchOption, slice_index_or}
use Rattle.market.specs.Orders.{Sound, lawful_shares}
use Rattle.market.specs.Calls.{Call, enter, cancel, quote, publish, lock, shut, cross, Timed, last_time, timed}
use Rattle.market.specs.declared.event.TimedEvent.{TimedEvent}
use Rattle.session.specs.declared.field.Values.TheVariants.{CentsOrNone}
use Rattle.session.specs.Fields.{admits}

-- the calls that a file may hold
abbrev pub SoundCall : Call → Type 0
SoundCall (enter o) = Sound o
SoundCall (cancel e n) = (1 ≤ e) × (lawful_shares n ≡ true)
SoundCall (quote b o) = (admits CentsOrNone b ≡ true) × (admits CentsOrNone o ≡ true)
SoundCall publish = Unit {0}
SoundCall lock = Unit {0}
SoundCall shut = Unit {0}
SoundCall cross = Unit {0}

abbrev pub SoundEvent : Timed → Type 0
SoundEvent e = (e.time ≤ last_time) × SoundCall e.call

-- the answer for a place of a list of events: none at or past its end, else the event that stands there, which is one
-- that a file may hold
abbrev pub AnswersEvent : List Timed → ℕ → Option TimedEvent → Type 0
AnswersEvent es place r =
    MatchOption r (length es ≤ place)
    (λ e. (place < length es) × (timed e ≡ slice_index_or es place (timed e)) × SoundEvent (timed e))
