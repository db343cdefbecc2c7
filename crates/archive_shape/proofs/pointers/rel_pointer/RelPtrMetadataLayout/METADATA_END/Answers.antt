use Rattle.std.proofs.Common.{arith}
use Rattle.archive_shape_layout.proofs.PointerSizes.{end_is_small}
use Rattle.archive_shape.proofs.pointers.rel_pointer.RelPtrMetadataLayout.METADATA_END.Goals as goal

pub overflow_add-result : goal.overflow_add-result
overflow_add-result g c =
    let end = end_is_small g.O.Portable.SIZE g.T.ArchivedMetadata.Portable.SIZE g.T.ArchivedMetadata.Portable.ALIGN g.met.O.Offset.is_small g.met.T.ArchivedMetadata.Metadata.is_small g.met.T.ArchivedMetadata.Portable.aligns in
    omega (arith, end, c.METADATA_OFFSET.ensures, c.SIZE.ensures)
