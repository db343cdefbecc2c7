use Rattle.std.proofs.Common.{arith}
use Rattle.archive_shape_layout.specs.Shape.Shapes.{no_shapes, more_shapes}
use Rattle.archive_forms_values.proofs.InOrder.{first_field, all_fields_left, last_field}
use Rattle.archive_forms_values.proofs.checking.tuple.check_tuple1_each.Goals as goal

pub first_step-requires : goal.first_step-requires
first_step-requires g c =
    let first = first_field g.A.Portable.shape no_shapes in
    c.requires.takes_first _ _ (record { begins = omega arith; ends = omega arith; ordered = c.requires.range.ordered }) (omega (arith, first.fits))

pub returns : goal.returns
returns g c =
    let first = first_field g.A.Portable.shape no_shapes in
    let one = c.requires.checks_first _ _ _ c.first_step.result c.requires.range (omega (arith, first.fits)) c.first_step.ensures in
    let left = all_fields_left g.A.Portable.knows c.args.bytes.now c.args.pos (more_shapes g.A.Portable.shape no_shapes) (g.Context.ArchiveContext.kept c.args.context.now) c.requires.range.ordered in
    let both = last_field g.A.Portable.knows c.args.bytes.now c.args.pos (more_shapes g.A.Portable.shape no_shapes) (g.Context.ArchiveContext.kept c.args.context.now) c.args.pos (omega arith) first left _ _ one.0 one.1 in
    record { moves = both.0; exact = both.1 }
