use Rattle.std.proofs.Common.{arith, ◌∙◌}
use Rattle.archive_shape_layout.specs.Shape.Shapes.{no_shapes, more_shapes}
use Rattle.archive_forms_laws.proofs.FieldSizes.{field_cut, struct_cut, alone_aligned}
use Rattle.archive_forms_values.proofs.tuples.tuple1.ArchivedTuple1Portable.SIZE.Goals as goal

pub returns : goal.returns
returns g c =
    let first = c.field_end.ensures ∙ field_cut g.A.Portable.shape 0 0 c.SIZE.result c.ALIGN.result (omega arith) (c.SIZE.ensures ∙ g.met.A.Portable.sized) (c.ALIGN.ensures ∙ g.met.A.Portable.aligned) in
    c.next_multiple.ensures ∙ struct_cut (more_shapes g.A.Portable.shape no_shapes) c.field_end.result c.ALIGN-2.result first (c.ALIGN-2.ensures ∙ alone_aligned g.A.Portable.shape g.A.Portable.ALIGN g.met.A.Portable.aligned g.met.A.Portable.aligns.0)
