use Rattle.cabinet.proofs.SessionLaws.{image_after_each_line}
use Rattle.cabinet.proofs.laws.image_after_each_line.Goals as goal

pub returns : goal.returns
returns c = image_after_each_line
