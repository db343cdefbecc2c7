use Rattle.std.proofs.Common.{arith}
use Rattle.archive_shape_layout.specs.Bytes.{align_up}
use Rattle.archive_shape_layout.proofs.PointerSizes.{pointer_is_small}
use Rattle.archive_shape.proofs.pointers.rel_pointer.RelPtrPortable.SIZE.Goals as goal

pub overflow_add-result : goal.overflow_add-result
unfolding align_up
overflow_add-result g c =
    let T = g.T.ArchivedMetadata.Portable in
    let O = g.O.Portable in
    let most = pointer_is_small O.SIZE T.SIZE O.ALIGN T.ALIGN g.met.O.Offset.is_small g.met.T.ArchivedMetadata.Metadata.is_small g.met.O.Portable.aligns g.met.T.ArchivedMetadata.Portable.aligns in
    rw (c.METADATA_END.ensures, c.METADATA_END-2.ensures, c.ALIGN.ensures, c.ALIGN-2.ensures, c.ALIGN-3.ensures) (omega (arith, most))

pub returns : goal.returns
unfolding align_up
returns g c = cc
