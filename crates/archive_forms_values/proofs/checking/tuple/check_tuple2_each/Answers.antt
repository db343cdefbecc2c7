use Rattle.std.proofs.Common.{rules, arith, refl, ◌∙◌, Ok, Err}
use Rattle.archive_shape_layout.specs.Shape.Shapes.{no_shapes, more_shapes}
use Rattle.archive_shape.proofs.Ordered.{advances_narrow, advances_within}
use Rattle.archive_forms_values.proofs.InOrder.{first_field, next_field, all_fields_left, field_checked, field_refused, last_field}
use Rattle.archive_forms_values.proofs.checking.tuple.check_tuple2_each.Goals as goal

pub first_step-requires : goal.first_step-requires
first_step-requires g c =
    let first = first_field g.A.Portable.shape (more_shapes g.B.Portable.shape no_shapes) in
    c.requires.takes_first _ _ (record { begins = omega arith; ends = omega arith; ordered = c.requires.range.ordered }) (omega (arith, first.fits))

pub returns-in_err-first_step-clause-exact : goal.returns-in_err-first_step-clause-exact
returns-in_err-first_step-clause-exact g c names known_first known_second =
    let ss = more_shapes g.A.Portable.shape (more_shapes g.B.Portable.shape no_shapes) in
    let first = first_field g.A.Portable.shape (more_shapes g.B.Portable.shape no_shapes) in
    let checks = c.requires.checks_first _ _ _ (Err c.in_err-first_step.field-0.0) c.requires.range (omega (arith, first.fits)) c.in_err-first_step.ensures in
    field_refused (λ ns. g.A.Portable.knows ns × g.B.Portable.knows ns) c.args.bytes.now c.args.pos ss (g.C.ArchiveContext.kept c.args.context.now) c.args.pos (omega arith) first
    (all_fields_left (λ ns. g.A.Portable.knows ns × g.B.Portable.knows ns) c.args.bytes.now c.args.pos ss (g.C.ArchiveContext.kept c.args.context.now) c.requires.range.ordered)
    c.in_err-first_step.field-0.0 _ c.from_residual.result (search rules) (λ ns known. checks.1 ns known.0) names (known_first, known_second)

pub overflow_add-pos : goal.overflow_add-pos
overflow_add-pos g c =
    let first = first_field g.A.Portable.shape (more_shapes g.B.Portable.shape no_shapes) in
    let second = next_field first c.SIZE.result c.SIZE.result c.ALIGN.result c.next_multiple-offset.result (omega arith) (c.SIZE.ensures ∙ g.met.A.Portable.sized) (c.ALIGN.ensures ∙ g.met.B.Portable.aligned) (omega arith) c.next_multiple-offset.ensures in
    omega (arith, second.fits)

pub second_step-requires : goal.second_step-requires
second_step-requires g c =
    let first = first_field g.A.Portable.shape (more_shapes g.B.Portable.shape no_shapes) in
    let second = next_field first c.SIZE.result c.SIZE.result c.ALIGN.result c.next_multiple-offset.result (omega arith) (c.SIZE.ensures ∙ g.met.A.Portable.sized) (c.ALIGN.ensures ∙ g.met.B.Portable.aligned) (omega arith) c.next_multiple-offset.ensures in
    let checks = c.requires.checks_first _ _ _ (Ok tt) c.requires.range (omega (arith, first.fits)) c.in_ok-first_step.ensures in
    c.requires.takes_second _ _ (advances_narrow checks.0) (omega (arith, second.fits))

pub returns : goal.returns
returns g c =
    let ss = more_shapes g.A.Portable.shape (more_shapes g.B.Portable.shape no_shapes) in
    let first = first_field g.A.Portable.shape (more_shapes g.B.Portable.shape no_shapes) in
    let second = next_field first c.SIZE.result c.SIZE.result c.ALIGN.result c.next_multiple-offset.result (omega arith) (c.SIZE.ensures ∙ g.met.A.Portable.sized) (c.ALIGN.ensures ∙ g.met.B.Portable.aligned) (omega arith) c.next_multiple-offset.ensures in
    let one = c.requires.checks_first _ _ _ (Ok tt) c.requires.range (omega (arith, first.fits)) c.in_ok-first_step.ensures in
    let other = c.requires.checks_second _ _ _ c.second_step.result (advances_within _ c.requires.range one.0) (omega (arith, second.fits)) c.second_step.ensures in
    let left = field_checked (λ ns. g.A.Portable.knows ns × g.B.Portable.knows ns) c.args.bytes.now c.args.pos ss (g.C.ArchiveContext.kept c.args.context.now) c.args.pos (omega arith) first
    (all_fields_left (λ ns. g.A.Portable.knows ns × g.B.Portable.knows ns) c.args.bytes.now c.args.pos ss (g.C.ArchiveContext.kept c.args.context.now) c.requires.range.ordered)
    _ one.0 (λ ns known. one.1 ns known.0) in
    let both = last_field (λ ns. g.A.Portable.knows ns × g.B.Portable.knows ns) c.args.bytes.now c.args.pos ss (g.C.ArchiveContext.kept c.args.context.now) _ refl second left _ _ other.0 (λ ns known. other.1 ns known.1) in
    record { moves = both.0; exact = λ ns known_first known_second. both.1 ns (known_first, known_second) }
