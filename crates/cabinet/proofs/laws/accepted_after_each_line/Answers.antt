use Rattle.cabinet.proofs.SessionLaws.{accepted_after_each_line}
use Rattle.cabinet.proofs.laws.accepted_after_each_line.Goals as goal

pub returns : goal.returns
returns c = accepted_after_each_line
