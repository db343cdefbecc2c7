use Rattle.archive_shape_layout.specs.Bytes.{align_up}
use Rattle.archive_shape.proofs.pointers.rel_pointer.RelPtrMetadataLayout.METADATA_OFFSET.Goals as goal

pub returns : goal.returns
unfolding align_up
returns g c = cc
