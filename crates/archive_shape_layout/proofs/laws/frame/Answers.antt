use Rattle.archive_shape_layout.proofs.Framed.{frame_law}
use Rattle.archive_shape_layout.proofs.laws.frame.Goals as goal

pub returns : goal.returns
returns c = frame_law
