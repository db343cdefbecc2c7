use Rattle.archive_shape_canonical.proofs.Framing.{canonical_frame_law}
use Rattle.archive_shape_canonical.proofs.laws.canonical_frame.Goals as goal

pub returns : goal.returns
returns c = canonical_frame_law
