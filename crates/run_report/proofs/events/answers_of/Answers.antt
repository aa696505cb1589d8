-- There is an answer for each event, and the calls are the events.
use Rattle.std.proofs.Common.{◌≡◌, ◌≤◌, List, map, length, sym, ap, ◌∙◌, arith}
use Rattle.std.proofs.lemmas.List.{with_items_is, take_all}
use Rattle.session.specs.Records.{events_in, orders_in}
use Rattle.market.specs.RankingNames.{ranking_number}
use Rattle.replay.specs.declared.step.Step.{Step}
use Rattle.replay.specs.Performing.{Answer, reply}
use Rattle.replay.specs.Runs.{Asked, after, answers, asked, first_state}
use Rattle.run_report.specs.Sessions.{asked_with, filed_orders, ranking_of}
use Rattle.run_report.proofs.SessionRuns.{made}
use Rattle.run_report.proofs.events.answers_of.Goals as goal

pub unwrap-requires : goal.unwrap-requires
unwrap-requires c =
    let h = c.args.session.now.heading in
    made h.last_sale.cents (length c.deref.result.now) (length c.deref_mut.result.now) c.replay_by.result _ h.last_sale.lawful
    (omega (
      arith,
      ap length c.deref.ensures.value,
      c.deref_mut.ensures.len,
      c.in_ok-given.ensures.len,
      c.len.ensures,
    ))
    c.replay_by.ensures

pub returns : goal.returns
returns c =
    let s = c.args.session.now in
    let es = events_in s.events.records.now in
    let good = ranking_of (ranking_number s.heading.ranking) in
    let first = first_state s.heading.last_sale.cents c.args.list.now in
    let v = c.in_ok-given.given in
    let ws = c.replay_by.new.given in
    let n = length c.deref.result.now in
    let did = rw c.unwrap.ensures at c.replay_by.ensures in
    let calls : map (asked filed_orders) c.deref.result.now ≡ map (asked_with (orders_in s.resting.records.now)) es
    = ap (λ (xs : List (Step _)). map (asked filed_orders) xs) c.deref.ensures.value ∙ c.in_ok-steps.ensures in
    let same : length ws ≡ v.len = omega (arith, c.replay_by.auto.given, c.deref_mut.ensures.len) in
    let all : length ws ≤ n
    = omega (arith, same, ap length c.deref.ensures.value, c.in_ok-given.ensures.len, c.len.ensures) in (
      ap (λ (xs : List Answer). map reply xs) (with_items_is v ws same)
          ∙ (sym (ap (λ (xs : List Answer). map reply xs) (take_all n ws all)) ∙ (did.answered ∙ ap (answers good first) calls)),
      did.written ∙ ap (λ (cs : List Asked). (after good first cs).list) calls,
    )
