use Rattle.std.proofs.Common.{refl}
use Rattle.cabinet_archives.specs.Refused.{refusal_of}
use Rattle.cabinet.specs.ByteCalls.Checks.{accepted, refused}
use Rattle.cabinet.proofs.calls.checking.check.Goals as goal

pub returns-in-Ok : goal.returns-in-Ok
returns-in-Ok c = accepted c.in-Ok.ensures.accepted.0 c.in-Ok.ensures.accepted.1 refl

pub returns-in-Err : goal.returns-in-Err
returns-in-Err c = refused (refusal_of c.in-Err.refusal) c.in-Err.ensures.refused c.of_opening.ensures
