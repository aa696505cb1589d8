use Rattle.std.proofs.Common.{◌≡◌, ◌++◌, map, length, take, drop}
use Rattle.replay.specs.Performing.{State, held_auction, reply}
use Rattle.replay.specs.Runs.{after, answers, asked}
use Rattle.replay.proofs.running.run.Given as goal

-- what the calls so far and those to come do is what all of them do, and later answers stay
abbrev pub invariant-loop-place : goal.invariant-loop-place
invariant-loop-place g l =
    let good = g.R.Ranking.good in
    let all = map (asked g.F.Book.orders) l.steps in
    let rest = map (asked g.F.Book.orders) (drop l.place l.steps) in
    let here : State = record { auction = held_auction l.held l.book; list = l.list } in
    let first : State = record { auction = held_auction l.initial.held l.initial.book; list = l.initial.list } in
    (after good here rest ≡ after good first all)
    × (map reply (take l.place l.given) ++ answers good here rest ≡ answers good first all)
    × (drop (length l.steps) l.given ≡ drop (length l.steps) l.initial.given)
