-- What is run and told is the session that is handed out.
use Rattle.std.proofs.Common.{◌≡◌, ℕ, List, ◌++◌, map, sym, ap, ◌∙◌}
use Rattle.market.specs.Calls.{Timed}
use Rattle.market.specs.RankingNames.{ranking_number}
use Rattle.market.specs.declared.order.OrderTerms.{OrderTerms}
use Rattle.session.specs.Contents.{present}
use Rattle.session.specs.Reading.{handed}
use Rattle.session.specs.Records.{events_in, orders_in}
use Rattle.session.specs.declared.body.BodyKind.TheVariants.{Resting, Events}
use Rattle.replay.specs.Performing.{Answer, reply}
use Rattle.replay.specs.Runs.{first_state}
use Rattle.reporting.proofs.Telling.{listed}
use Rattle.run_report.specs.Answers.{all_lines, run_lines}
use Rattle.run_report.specs.Sessions.{asked_with, blank_list, or_empty, ranking_of}
use Rattle.run_report.specs.Text.{first_line}
use Rattle.run_report.proofs.RunLines.{told_by_last_list}
use Rattle.run_report.proofs.accepted_text.Goals as goal

pub returns : goal.returns
returns c =
    let f = c.args.session.now in
    let file = f.file.now in
    let h = f.heading in
    let orders = orders_in f.resting.records.now in
    let events = events_in f.events.records.now in
    let resting : orders ≡ or_empty (handed f).resting = listed (present file Resting) orders (λ absent. ap orders_in (c.requires.no_orders absent)) in
    let timed : events ≡ or_empty (handed f).events = listed (present file Events) events (λ absent. ap events_in (c.requires.no_events absent)) in
    let good = ranking_of (ranking_number h.ranking) in
    let state = first_state h.last_sale.cents blank_list in
    let Lines : List OrderTerms → List Timed → List ℕ
    = λ os es. run_lines good 0 state (map (asked_with os) es) in
    let blank : c.default-list.result ≡ record { place = 0; fill = 0 } = (λ i. record { place = c.default-list.ensures.0 i; fill = c.default-list.ensures.1 i }) in
    let did = rw blank at c.in_ok-answers.ensures in
    let lines : all_lines c.answers_of.new.list 0 (map reply c.deref.result.now) ≡ Lines orders events
    = ap (λ (given : List Answer). all_lines c.answers_of.new.list 0 (map reply given)) c.deref.ensures.value
    ∙ ((λ i. all_lines (did.1 i) 0 (did.0 i)) ∙ sym (told_by_last_list good 0 state (map (asked_with orders) events))) in
    c.in_ok-push_answers.ensures
    ∙ (ap (λ (bs : List ℕ). bs ++ all_lines c.answers_of.new.list 0 (map reply c.deref.result.now)) c.in_ok-text.ensures.ok
    ∙ (ap (λ (bs : List ℕ). first_line ++ bs) lines ∙ (λ i. first_line ++ Lines (resting i) (timed i))))
