-- One call more, and at the end all of them.
use Rattle.std.proofs.Common.{◌≡◌, ℕ, ◌+◌, ◌<◌, List, [], ◌∷◌, ◌++◌, map, length, take, drop, set, ap, ◌∙◌, arith}
use Rattle.std.proofs.lemmas.List.{drop-set-lt, map_push, take_more_set}
use Rattle.replay.specs.Performing.{Answer, Reply, State, held_auction, reply}
use Rattle.replay.specs.Runs.{answers, asked}
use Rattle.replay.proofs.Folding.{after_more, answers_more}
use Rattle.replay.proofs.running.run.Goals as goal

-- one answer more at its place
answered_more : (xs : List Answer) (i : ℕ) (v : Answer) → i < length xs → map reply (take (i + 1) (set xs i v)) ≡ map reply (take i xs) ++ reply v ∷ []
answered_more xs i v h = ap (map reply) (take_more_set xs i v h) ∙ map_push reply (take i xs) v

pub loop-place-preserved : goal.loop-place-preserved
loop-place-preserved g c =
    let good = g.R.Ranking.good in
    let orders = g.F.Book.orders in
    let ss = c.args.steps.now in
    let xs = c.loop-place.given in
    let i = c.loop-place.place in
    let here : State = record { auction = held_auction c.loop-place.held c.loop-place.book; list = c.loop-place.list } in
    let next : State = record { auction = held_auction c.perform-next.result.0 c.perform-next.new.book; list = c.perform-next.new.list } in
    let a = reply c.perform-next.result.1 in
    let outs = map reply (take i xs) in
    let lt : i < length xs = omega (arith, c.loop-place.auto.given, c.requires, c.loop-place-test.true) in
    let more = after_more orders good here next a ss i c.index-steps-place.result c.loop-place-test.true c.index-steps-place.is c.perform-next.ensures in
    let told = answers_more orders good here next a ss i c.index-steps-place.result c.loop-place-test.true c.index-steps-place.is c.perform-next.ensures outs in
    let one = answered_more xs i c.perform-next.result.1 lt in (
      more ∙ c.loop-place.invariant.0,
      ap (λ (rs : List Reply). rs ++ answers good next (map (asked orders) (drop (i + 1) ss))) one ∙ (told ∙ c.loop-place.invariant.1),
      drop-set-lt (length ss) xs i c.perform-next.result.1 c.loop-place-test.true ∙ c.loop-place.invariant.2,
    )
