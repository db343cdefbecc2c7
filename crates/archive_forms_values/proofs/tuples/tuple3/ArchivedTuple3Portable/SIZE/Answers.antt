use Rattle.std.proofs.Common.{arith, ◌∙◌, max}
use Rattle.archive_shape_layout.specs.Shape.Shapes.{no_shapes, more_shapes}
use Rattle.archive_forms_laws.proofs.FieldSizes.{field_cut, struct_cut, alone_aligned, before_aligned}
use Rattle.archive_forms_values.proofs.tuples.tuple3.ArchivedTuple3Portable.SIZE.Goals as goal

pub returns : goal.returns
returns g c =
    let first = c.field_end.ensures ∙ field_cut g.A.Portable.shape 0 0 c.SIZE.result c.ALIGN.result (omega arith) (c.SIZE.ensures ∙ g.met.A.Portable.sized) (c.ALIGN.ensures ∙ g.met.A.Portable.aligned) in
    let second = c.field_end-2.ensures ∙ field_cut g.B.Portable.shape _ c.field_end.result c.SIZE-2.result c.ALIGN-2.result first (c.SIZE-2.ensures ∙ g.met.B.Portable.sized) (c.ALIGN-2.ensures ∙ g.met.B.Portable.aligned) in
    let third = c.field_end-3.ensures ∙ field_cut g.C.Portable.shape _ c.field_end-2.result c.SIZE-3.result c.ALIGN-3.result second (c.SIZE-3.ensures ∙ g.met.C.Portable.sized) (c.ALIGN-3.ensures ∙ g.met.C.Portable.aligned) in
    c.next_multiple.ensures ∙ struct_cut (more_shapes g.A.Portable.shape (more_shapes g.B.Portable.shape (more_shapes g.C.Portable.shape no_shapes))) c.field_end-3.result c.ALIGN-4.result third (c.ALIGN-4.ensures ∙ before_aligned g.A.Portable.shape (more_shapes g.B.Portable.shape (more_shapes g.C.Portable.shape no_shapes)) g.A.Portable.ALIGN (max g.B.Portable.ALIGN g.C.Portable.ALIGN) g.met.A.Portable.aligned (before_aligned g.B.Portable.shape (more_shapes g.C.Portable.shape no_shapes) g.B.Portable.ALIGN g.C.Portable.ALIGN g.met.B.Portable.aligned (alone_aligned g.C.Portable.shape g.C.Portable.ALIGN g.met.C.Portable.aligned g.met.C.Portable.aligns.0)))
