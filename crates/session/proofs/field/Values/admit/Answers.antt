-- A number names a ranking where it is one of the field's.
use Rattle.std.proofs.Common.{rules}
use Rattle.session.proofs.HeadingRecord.{ranking_admitted, ranking_named}
use Rattle.session.proofs.field.Values.admit.Goals as goal

pub returns-in-Ranking : goal.returns-in-Ranking
returns-in-Ranking c =
    rw c.in-Ranking.is (ranking_admitted c.args.n c.try_from.result c.is_ok_and.result _ c.try_from.ensures c.is_ok_and.ensures (λ x p. search (rules, ranking_named)))
