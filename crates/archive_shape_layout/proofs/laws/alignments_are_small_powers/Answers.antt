use Rattle.archive_shape_layout.proofs.Aligned.{alignments_law}
use Rattle.archive_shape_layout.proofs.laws.alignments_are_small_powers.Goals as goal

pub returns : goal.returns
returns c = alignments_law
