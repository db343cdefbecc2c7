use Rattle.std.proofs.Common.{arith, refl, ap, ◌∙◌, ◌+◌, [], ◌∷◌}
use Rattle.archive_shape_layout.specs.Shape.{size_of}
use Rattle.archive_shape_layout.specs.Shape.Shapes.{no_shapes, more_shapes}
use Rattle.archive_forms_values.specs.Fields.{field, all_four}
use Rattle.archive_forms_values.proofs.Held.{fields_at}
use Rattle.archive_forms_values.proofs.Stands.{field_stands}
use Rattle.archive_forms_values.proofs.tuples.tuple4.ArchivedTuple4.second.Goals as goal

pub overflow_add-this : goal.overflow_add-this
overflow_add-this g c =
    let held = c.requires.held.own_within in
    let stands = field_stands g.A.Portable.shape g.B.Portable.shape (more_shapes g.C.Portable.shape (more_shapes g.D.Portable.shape no_shapes)) (more_shapes g.B.Portable.shape (more_shapes g.C.Portable.shape (more_shapes g.D.Portable.shape no_shapes))) (size_of g.A.Portable.shape) c.SIZE.result c.ALIGN.result c.next_multiple-offset.result refl (omega (arith, held)) (c.SIZE.ensures ∙ g.met.A.Portable.sized) (c.ALIGN.ensures ∙ g.met.B.Portable.aligned) c.next_multiple-offset.ensures in
    omega (arith, stands.1, held)

pub returns-clause-pos : goal.returns-clause-pos
returns-clause-pos g c =
    let held = c.requires.held.own_within in
    let stands = field_stands g.A.Portable.shape g.B.Portable.shape (more_shapes g.C.Portable.shape (more_shapes g.D.Portable.shape no_shapes)) (more_shapes g.B.Portable.shape (more_shapes g.C.Portable.shape (more_shapes g.D.Portable.shape no_shapes))) (size_of g.A.Portable.shape) c.SIZE.result c.ALIGN.result c.next_multiple-offset.result refl (omega (arith, held)) (c.SIZE.ensures ∙ g.met.A.Portable.sized) (c.ALIGN.ensures ∙ g.met.B.Portable.aligned) c.next_multiple-offset.ensures in
    c.new.ensures.pos ∙ ap (λ n. c.args.this.pos + n) stands.0

pub returns-clause-value : goal.returns-clause-value
returns-clause-value g c = fields_at (field g.A.Portable.shape g.A.Portable.knows ∷ field g.B.Portable.shape g.B.Portable.knows ∷ field g.C.Portable.shape g.C.Portable.knows ∷ field g.D.Portable.shape g.D.Portable.knows ∷ []) (all_four g.A.Portable.knows g.B.Portable.knows g.C.Portable.knows g.D.Portable.knows) (λ names known. (known.0, (known.1, (known.2, (known.3, tt))))) c.args.this.bytes.now c.args.this.pos
