-- What a body that is handed out is: its kind, and its bytes of the file.
use Rattle.std.specs.Prelude.{ℕ, List}
use Rattle.session.specs.declared.body.BodyKind.{BodyKind}
use Rattle.session.specs.declared.body.BodyKind.TheVariants.{Heading as AHeading, Resting as AResting, Events as AnEvents, Note as ANote}
use Rattle.session.specs.declared.body.Body.{Body}
use Rattle.session.specs.declared.body.Body.TheVariants.{Heading, Resting, Events, Note}

abbrev pub kind_of : Body → BodyKind
kind_of (Heading s) = AHeading
kind_of (Resting s) = AResting
kind_of (Events s) = AnEvents
kind_of (Note s) = ANote

abbrev pub bytes_of : Body → List ℕ
bytes_of (Heading s) = s.now
bytes_of (Resting s) = s.now
bytes_of (Events s) = s.now
bytes_of (Note s) = s.now
