-- The sorted queue is the queue in the ranking's sequence, so what is given out along it are the fills.
use Rattle.std.proofs.Common.{◌<◌, length, ◌∙◌, rules}
use Rattle.std.proofs.lemmas.List.Sorted.{All-permutation, answers_always}
use Rattle.cross.specs.QueueOrder.{less_is}
use Rattle.cross.proofs.Queueing.{slots_within}
use Rattle.cross.proofs.SortedQueue.{earlier, earlier_ranks, fills_given}
use Rattle.cross.proofs.allotment.writing.serve_side.Goals as goal

pub give_out-requires : goal.give_out-requires
give_out-requires g c =
    All-permutation (λ q. q.slot < length c.args.list.now) _ _ c.sort_unstable_by.ensures.permutation
    (slots_within c.args.side (g.B.Book.orders c.args.book.now) _ _ c.queue_side-count.ensures.queued _ c.requires)

pub returns : goal.returns
returns g c =
    let good = g.R.Ranking.good in
    let laws = g.met.R.Ranking.lawful in
    let os = g.B.Book.orders c.args.book.now in
    let up = c.sort_unstable_by.ensures.sorted (earlier good) (earlier_ranks good laws) (answers_always _ _ _ (λ f a r f' k. search (rules, less_is))) in
    record {
      count = c.queue_side-count.ensures.count;
      records = rw c.queue_side-count.ensures.count
          (c.give_out.ensures
          ∙ fills_given good laws c.args.side os _ _ _ _ c.sort_unstable_by.new.self c.queue_side-count.ensures.queued c.sort_unstable_by.ensures.permutation up c.args.level.executed c.args.list.now c.requires);
    }
