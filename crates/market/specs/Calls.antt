-- The calls on an auction as plain values.
use Rattle.std.specs.Prelude.{ℕ}
use Rattle.market.specs.declared.order.OrderTerms.{OrderTerms}
use Rattle.market.specs.declared.event.Event.{Event}
use Rattle.market.specs.declared.event.Event.TheVariants.{Enter, Cancel, Quote, Publish, Lock, Shut, Cross}
use Rattle.market.specs.declared.event.TimedEvent.{TimedEvent}
use Rattle.market.specs.Ranges.{cents_of}

-- to enter an order, to cancel shares of an entry number, to set a quote (0: none), ..
pub data Call : Type 0 where
  enter : OrderTerms → Call
  cancel : (entry shares : ℕ) → Call
  quote : (bid offer : ℕ) → Call
  publish : Call
  lock : Call
  shut : Call
  cross : Call

-- the last millisecond of a day
abbrev pub last_time : ℕ
last_time = 86399999

-- a call with its time, in milliseconds after midnight
pub record Timed : Type 0 where
  pub time : ℕ
  pub call : Call

-- what the program's own events say
abbrev pub call_of : Event → Call
call_of (Enter o) = enter o.terms
call_of (Cancel e n) = cancel e n
call_of (Quote q) = quote (cents_of q.bid) (cents_of q.offer)
call_of Publish = publish
call_of Lock = lock
call_of Shut = shut
call_of Cross = cross

abbrev pub timed : TimedEvent → Timed
timed e = record { time = e.time; call = call_of e.event }
