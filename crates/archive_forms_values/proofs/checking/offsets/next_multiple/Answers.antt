use Rattle.archive_shape_layout.specs.Bytes.{align_up}
use Rattle.archive_forms_values.proofs.checking.offsets.next_multiple.Goals as goal

pub returns : goal.returns
unfolding align_up
returns c = c.saturating_add.ensures
