-- The run of a session: its events on the auction of its last sale, each with its resting orders as the filed book, under
-- its ranking.
use Rattle.std.specs.Prelude.{◌+◌, List, map, replicate}
use Rattle.market.specs.Calls.{Timed}
use Rattle.market.specs.declared.order.OrderTerms.{OrderTerms}
use Rattle.cross.specs.declared.allotment.Allotment.{Allotment}
use Rattle.session.specs.Layout.{Session}
use Rattle.session.specs.Records.{most_resting, orders_in}
use Rattle.session.specs.declared.record.Record.{Ghosts}
use Rattle.session.specs.declared.record.filed.FiledRecords.{FiledRecords}
use Rattle.auction.specs.Rows.{most_accepted}
use Rattle.replay.specs.Performing.{State}
use Rattle.replay.specs.Runs.{Asked, first_state}
pub use Rattle.reporting.specs.Sessions.{or_empty, ranking_of}

-- the orders of a filed book
abbrev pub filed_orders : {R : Type 0} {G : Ghosts R} → FiledRecords R G → List OrderTerms
filed_orders b = orders_in b.records.now

-- an event, with the book that stands as the filed book
abbrev pub asked_with : List OrderTerms → Timed → Asked
asked_with filed e = record { time = e.time; call = e.call; filed = filed }

-- The allotment list that a report lends has room for the fullest auction book and the longest resting body.
abbrev pub blank_list : List Allotment
blank_list = replicate (most_accepted + most_resting) (record { place = 0; fill = 0 })

abbrev pub session_state : Session → State
session_state s = first_state s.last_sale blank_list

abbrev pub session_calls : Session → List Asked
session_calls s = map (asked_with (or_empty s.resting)) (or_empty s.events)
