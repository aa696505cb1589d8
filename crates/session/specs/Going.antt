-- What is ahead of one who goes over the events of a file.
use Rattle.std.specs.Prelude.{List, drop}
use Rattle.market.specs.Calls.{Timed}
use Rattle.session.specs.declared.events.going.Events.{Events}
use Rattle.session.specs.Records.{events_in}

-- the events from a place on
abbrev pub ahead : Events → List Timed
ahead s = drop s.places.start (events_in s.filed.records.now)
