-- Each body is checked for its fault.
use Rattle.std.proofs.Common.{rules}
use Rattle.session.specs.Faults.{wrong_field}
use Rattle.session.proofs.body.contents.FittedFile.check_fields.Goals as goal

pub returns : goal.returns
returns c = c.check_bodies.ensures (wrong_field c.args.self.laid.listed.bytes.now) (λ k r p. search rules)
