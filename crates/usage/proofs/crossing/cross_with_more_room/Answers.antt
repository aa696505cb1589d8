-- Accepted at once, the first list had room. Refused, the repeat finds the auction and its book as they were.
use Rattle.std.proofs.Common.{◌≡◌, true, false, rules, ltb, length, ap, ◌∙◌}
use Rattle.market.specs.Calls.{cross}
use Rattle.auction.specs.Auctions.{shut_auction, whole}
use Rattle.auction.specs.Changing.{crossed}
use Rattle.auction.specs.Outcomes.{list_after, outcome}
use Rattle.auction.specs.Refusing.{first_cause, outside, refusal, verdict_back}
use Rattle.auction.specs.Schedule.{cross_time, day_end}
use Rattle.usage.proofs.Repeats.{
  accepted_in_longer,
  by_verdict,
  cross_cause,
  has_room,
  repeated_in_longer,
  second_written,
  was_short,
}
use Rattle.usage.proofs.crossing.cross_with_more_room.Goals as goal

pub returns-in-Ok-clause-cause : goal.returns-in-Ok-clause-cause
returns-in-Ok-clause-cause g c =
    let n = length (whole (shut_auction c.args.auction c.args.book.now) (g.F.Book.orders c.args.filed.now)) in
    accepted_in_longer (ltb c.args.time c.args.auction.progress.last_time) (outside cross_time day_end c.args.time) (length c.args.list.now) (length c.args.longer.now) n c.in-Ok.ensures.cause

pub returns-in-Ok-clause-after : goal.returns-in-Ok-clause-after
returns-in-Ok-clause-after g c =
    let n = length (whole (shut_auction c.args.auction c.args.book.now) (g.F.Book.orders c.args.filed.now)) in
    let room : ltb (length c.args.list.now) n ≡ false
    = has_room (ltb c.args.time c.args.auction.progress.last_time) (outside cross_time day_end c.args.time) (ltb (length c.args.list.now) n) c.in-Ok.ensures.cause in
    search rules

pub returns-in-Err : goal.returns-in-Err
returns-in-Err g c =
    let x = c.in-Err.ensures in
    let y = c.cross-in-Err.ensures in
    let filed = g.F.Book.orders c.args.filed.now in
    let good = g.R.Ranking.good in
    let a = shut_auction c.args.auction c.args.book.now in
    let n = length (whole a filed) in
    let m = length c.args.list.now in
    let k = length c.args.longer.now in
    let below = ltb c.args.time c.args.auction.progress.last_time in
    let late = outside cross_time day_end c.args.time in
    let same : shut_auction c.in-Err.auction c.cross.new.book ≡ a = λ i. shut_auction (x.after.0 i) (x.after.1 i) in
    let repeat : verdict_back c.cross-in-Err.result ≡ cross_cause below late (ltb k n)
    = y.cause ∙ ap (λ b. refusal (first_cause b filed k c.args.time cross)) same in
    let short : refusal 0 ≡ cross_cause below late (ltb k n) → ltb m n ≡ true
    = was_short c.in-Err.field-0-1 below late (ltb m n) (ltb k n) x.cause in
    record {
      cause = repeated_in_longer c.in-Err.field-0-1 (verdict_back c.cross-in-Err.result) below late m k n x.cause repeat;
      after =
          by_verdict c.cross-in-Err.result (cross_cause below late (ltb k n)) repeat y.after
          (λ s v p.
          let written = p.2 ∙ ap (λ b. list_after b filed good c.args.longer.now) same in
          let lists = second_written a filed good c.args.list.now c.args.longer.now c.cross.new.list c.cross-in-Err.new.list (short v) x.after.2 written in
          (p.0 ∙ ap (λ b. crossed b c.args.time) same, p.1 ∙ ap (λ b. outcome b filed good) same, lists.0, lists.1))
          (λ e q. (q.0 ∙ x.after.0, q.1 ∙ x.after.1, x.after.2, q.2));
    }
