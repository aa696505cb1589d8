-- The stages of an auction, and which calls each has.
use Rattle.std.specs.Prelude.{ℕ, Bool, true, false}
use Rattle.market.specs.Calls.{Call, enter, cancel, quote, publish, lock, shut, cross}
use Rattle.auction.specs.Schedule.{lock_time, shut_time}

pub data Stage : Type 0 where
  in_open : Stage
  in_locked : Stage
  in_shut : Stage
  in_crossed : Stage

-- something that the first three stages have or lack
abbrev by_stage : (in_open in_locked in_shut : Bool) → Stage → Bool
by_stage o l s in_open = o
by_stage o l s in_locked = l
by_stage o l s in_shut = s
by_stage o l s in_crossed = false

-- the stages in which orders come, the quote can be replaced, and the figures can be published
abbrev pub takes_orders : Stage → Bool
takes_orders = by_stage true true false

abbrev pub takes_quotes : Stage → Bool
takes_quotes = by_stage true true true

abbrev pub publishes : Stage → Bool
publishes = by_stage false true true

-- which calls each stage has
abbrev pub has_call : Call → Stage → Bool
has_call (enter o) = takes_orders
has_call (cancel e n) = by_stage true false false
has_call (quote b o) = takes_quotes
has_call publish = publishes
has_call lock = by_stage true false false
has_call shut = by_stage false true false
has_call cross = by_stage false false true

-- a locked auction takes orders within the collar
abbrev pub in_collar : Stage → Bool
in_collar = by_stage false true false

-- orders come until the lock time, and into a locked auction until the shut time; the other stages have no enter
abbrev pub entry_end : Stage → ℕ
entry_end in_open = lock_time
entry_end in_locked = shut_time
entry_end in_shut = lock_time
entry_end in_crossed = lock_time
