use Rattle.archive_shape.proofs.QuestionedRegions.{accepted_answered_law}
use Rattle.archive_shape.proofs.checking.laws.accepted_is_answered.Goals as goal

pub returns : goal.returns
returns c = accepted_answered_law
