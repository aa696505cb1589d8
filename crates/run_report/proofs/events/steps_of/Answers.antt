-- The events that the session goes over are those of its body.
use Rattle.std.proofs.Common.{rules, ◌∙◌, ap}
use Rattle.std.proofs.lemmas.Iterator.{YieldsList-from_map_by}
use Rattle.std.proofs.lemmas.Iterator.Consumers.{YieldsList-from_first, map_from_collect}
use Rattle.market.specs.Calls.{timed}
use Rattle.session.specs.Going.{ahead}
use Rattle.session.specs.Records.{events_in, orders_in}
use Rattle.replay.specs.Runs.{asked}
use Rattle.run_report.specs.Sessions.{asked_with, filed_orders}
use Rattle.run_report.proofs.events.steps_of.Goals as goal

pub returns : goal.returns
returns c =
    let f = c.args.session.now in
    map_from_collect c.collect.result c.collect.ensures.ran (
    YieldsList-from_map_by _ (asked filed_orders) (asked_with (orders_in f.resting.records.now))
    (YieldsList-from_first timed ahead (events_in f.events.records.now) (ap ahead c.map.ensures.source ∙ c.iter.ensures))
    c.map.ensures.closure
    (λ x r q k. search rules)
    )
