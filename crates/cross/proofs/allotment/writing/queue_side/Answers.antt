-- The orders of a side, a place at a time.
use Rattle.std.proofs.Common.{◌≡◌, true, false, refl, arith, rules}
use Rattle.cross.specs.Rankings.{same_side}
use Rattle.cross.proofs.Queueing.{queueing_ends, queues_none, queues_one, record_free}
use Rattle.cross.proofs.allotment.writing.queue_side.Goals as goal
use Rattle.cross.proofs.allotment.writing.queue_side.Goals.{then-eq, else-eq}

pub bounds-queue-count : goal.bounds-queue-count
bounds-queue-count g c = record_free _ _ _ _ _ _ _ _ c.in-Some.ensures.steps c.loop-place.invariant.queueing _ (g.B.Book.short c.args.book.now)

pub listed : goal.listed
listed g c =
    omega (
      arith,
      c.loop-place.invariant.long,
      record_free _ _ _ _ _ _ _ _ c.in-Some.ensures.steps c.loop-place.invariant.queueing _ (g.B.Book.short c.args.book.now),
    )

pub loop-place-preserved : goal.loop-place-preserved
loop-place-preserved g c =
    let step = c.in-Some.ensures.steps in
    let here = c.loop-place.invariant.queueing in
    elim c.if-eq.branch [
      | then-eq w ↦
          let mine : same_side c.in-Some.order.terms.side c.args.side ≡ true = search rules in
          record {
            can_next = search rules;
            ends = search rules;
            long = search rules;
            queueing = rw (w.count-is, w.queue-is) (queues_one _ _ _ _ _ _ _ _ step here _ refl refl refl mine (omega (arith, c.loop-place.invariant.long, g.B.Book.short c.args.book.now)));
          }
      | else-eq w ↦
          let other : same_side c.in-Some.order.terms.side c.args.side ≡ false = search rules in
          record {
            can_next = search rules;
            ends = search rules;
            long = search rules;
            queueing = rw (w.count-is, w.queue-is) (queues_none _ _ _ _ _ _ _ _ step here other);
          }
    ]

pub returns : goal.returns
returns g c =
    let all = queueing_ends _ _ _ _ _ _ c.in-None.ensures.steps.0 c.loop-place.invariant.queueing in
    record { count = all.0; queued = all.1 }
