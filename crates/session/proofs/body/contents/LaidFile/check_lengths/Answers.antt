-- Each body is checked for its fault.
use Rattle.std.proofs.Common.{rules}
use Rattle.std.proofs.lemmas.Result.{err_from_is_err_and}
use Rattle.session.specs.Faults.{wrong_length}
use Rattle.session.proofs.body.contents.LaidFile.check_lengths.Goals as goal

pub returns-in_err-check_bodies-clause-told : goal.returns-in_err-check_bodies-clause-told
returns-in_err-check_bodies-clause-told c =
    let p = err_from_is_err_and c.from_residual.result c.from_residual.ensures.1 in
    rw (p.1, p.2) (c.in_err-check_bodies.ensures (wrong_length c.args.self.listed.bytes.now) (λ k r p. search rules))

pub invariant_of-result : goal.invariant_of-result
invariant_of-result c = record { fitted = c.in_ok-check_bodies.ensures (wrong_length c.args.self.listed.bytes.now) (λ k r p. search rules) }
