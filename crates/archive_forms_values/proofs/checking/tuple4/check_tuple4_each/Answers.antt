use Rattle.std.proofs.Common.{rules, arith, refl, ◌+◌, ◌∙◌, Ok, Err}
use Rattle.archive_shape_layout.specs.Shape.Shapes.{no_shapes, more_shapes}
use Rattle.archive_shape.proofs.Ordered.{advances_then, advances_narrow, advances_within}
use Rattle.archive_forms_values.proofs.InOrder.{first_field, next_field, all_fields_left, field_checked, field_refused, last_field}
use Rattle.archive_forms_values.proofs.checking.tuple4.check_tuple4_each.Goals as goal

pub overflow_add-second : goal.overflow_add-second
overflow_add-second g c =
    let first = first_field g.A.Portable.shape (more_shapes g.B.Portable.shape (more_shapes g.C.Portable.shape (more_shapes g.D.Portable.shape no_shapes))) in
    let second = next_field first c.SIZE.result c.SIZE.result c.ALIGN.result c.next_multiple-second.result (omega arith) (c.SIZE.ensures ∙ g.met.A.Portable.sized) (c.ALIGN.ensures ∙ g.met.B.Portable.aligned) (omega arith) c.next_multiple-second.ensures in
    omega (arith, second.fits, c.SIZE-2.ensures, g.met.B.Portable.sized)

pub overflow_add-third : goal.overflow_add-third
overflow_add-third g c =
    let first = first_field g.A.Portable.shape (more_shapes g.B.Portable.shape (more_shapes g.C.Portable.shape (more_shapes g.D.Portable.shape no_shapes))) in
    let second = next_field first c.SIZE.result c.SIZE.result c.ALIGN.result c.next_multiple-second.result (omega arith) (c.SIZE.ensures ∙ g.met.A.Portable.sized) (c.ALIGN.ensures ∙ g.met.B.Portable.aligned) (omega arith) c.next_multiple-second.ensures in
    let third = next_field second (c.next_multiple-second.result + c.SIZE-2.result) c.SIZE-2.result c.ALIGN-2.result c.next_multiple-third.result (omega arith) (c.SIZE-2.ensures ∙ g.met.B.Portable.sized) (c.ALIGN-2.ensures ∙ g.met.C.Portable.aligned) (omega arith) c.next_multiple-third.ensures in
    omega (arith, third.fits, c.SIZE-3.ensures, g.met.C.Portable.sized)

pub first_step-requires : goal.first_step-requires
first_step-requires g c =
    let first = first_field g.A.Portable.shape (more_shapes g.B.Portable.shape (more_shapes g.C.Portable.shape (more_shapes g.D.Portable.shape no_shapes))) in
    c.requires.takes_first _ _ (record { begins = omega arith; ends = omega arith; ordered = c.requires.range.ordered }) (omega (arith, first.fits))

pub returns-in_err-first_step-clause-exact : goal.returns-in_err-first_step-clause-exact
returns-in_err-first_step-clause-exact g c names known_first known_second known_third known_fourth =
    let first = first_field g.A.Portable.shape (more_shapes g.B.Portable.shape (more_shapes g.C.Portable.shape (more_shapes g.D.Portable.shape no_shapes))) in
    let left_first = all_fields_left (λ ns. g.A.Portable.knows ns × g.B.Portable.knows ns × g.C.Portable.knows ns × g.D.Portable.knows ns) c.args.bytes.now c.args.pos (more_shapes g.A.Portable.shape (more_shapes g.B.Portable.shape (more_shapes g.C.Portable.shape (more_shapes g.D.Portable.shape no_shapes)))) (g.Context.ArchiveContext.kept c.args.context.now) c.requires.range.ordered in
    let checks = c.requires.checks_first _ _ _ (Err c.in_err-first_step.field-0.0) c.requires.range (omega (arith, first.fits)) c.in_err-first_step.ensures in
    field_refused (λ ns. g.A.Portable.knows ns × g.B.Portable.knows ns × g.C.Portable.knows ns × g.D.Portable.knows ns) c.args.bytes.now c.args.pos (more_shapes g.A.Portable.shape (more_shapes g.B.Portable.shape (more_shapes g.C.Portable.shape (more_shapes g.D.Portable.shape no_shapes)))) (g.Context.ArchiveContext.kept c.args.context.now) c.args.pos (omega arith) first left_first c.in_err-first_step.field-0.0 _ c.from_residual.result (search rules) (λ ns known. checks.1 ns known.0) names (known_first, known_second, known_third, known_fourth)

pub overflow_add-pos : goal.overflow_add-pos
overflow_add-pos g c =
    let first = first_field g.A.Portable.shape (more_shapes g.B.Portable.shape (more_shapes g.C.Portable.shape (more_shapes g.D.Portable.shape no_shapes))) in
    let second = next_field first c.SIZE.result c.SIZE.result c.ALIGN.result c.next_multiple-second.result (omega arith) (c.SIZE.ensures ∙ g.met.A.Portable.sized) (c.ALIGN.ensures ∙ g.met.B.Portable.aligned) (omega arith) c.next_multiple-second.ensures in
    omega (arith, second.fits)

pub second_step-requires : goal.second_step-requires
second_step-requires g c =
    let first = first_field g.A.Portable.shape (more_shapes g.B.Portable.shape (more_shapes g.C.Portable.shape (more_shapes g.D.Portable.shape no_shapes))) in
    let second = next_field first c.SIZE.result c.SIZE.result c.ALIGN.result c.next_multiple-second.result (omega arith) (c.SIZE.ensures ∙ g.met.A.Portable.sized) (c.ALIGN.ensures ∙ g.met.B.Portable.aligned) (omega arith) c.next_multiple-second.ensures in
    let one = c.requires.checks_first _ _ _ (Ok tt) c.requires.range (omega (arith, first.fits)) c.in_ok-first_step.ensures in
    let within_first = advances_within _ c.requires.range one.0 in
    c.requires.takes_second _ _ (advances_narrow one.0) (omega (arith, second.fits))

pub returns-in_err-second_step-clause-exact : goal.returns-in_err-second_step-clause-exact
returns-in_err-second_step-clause-exact g c names known_first known_second known_third known_fourth =
    let first = first_field g.A.Portable.shape (more_shapes g.B.Portable.shape (more_shapes g.C.Portable.shape (more_shapes g.D.Portable.shape no_shapes))) in
    let second = next_field first c.SIZE.result c.SIZE.result c.ALIGN.result c.next_multiple-second.result (omega arith) (c.SIZE.ensures ∙ g.met.A.Portable.sized) (c.ALIGN.ensures ∙ g.met.B.Portable.aligned) (omega arith) c.next_multiple-second.ensures in
    let one = c.requires.checks_first _ _ _ (Ok tt) c.requires.range (omega (arith, first.fits)) c.in_ok-first_step.ensures in
    let within_first = advances_within _ c.requires.range one.0 in
    let left_first = all_fields_left (λ ns. g.A.Portable.knows ns × g.B.Portable.knows ns × g.C.Portable.knows ns × g.D.Portable.knows ns) c.args.bytes.now c.args.pos (more_shapes g.A.Portable.shape (more_shapes g.B.Portable.shape (more_shapes g.C.Portable.shape (more_shapes g.D.Portable.shape no_shapes)))) (g.Context.ArchiveContext.kept c.args.context.now) c.requires.range.ordered in
    let left_second = field_checked (λ ns. g.A.Portable.knows ns × g.B.Portable.knows ns × g.C.Portable.knows ns × g.D.Portable.knows ns) c.args.bytes.now c.args.pos (more_shapes g.A.Portable.shape (more_shapes g.B.Portable.shape (more_shapes g.C.Portable.shape (more_shapes g.D.Portable.shape no_shapes)))) (g.Context.ArchiveContext.kept c.args.context.now) c.args.pos (omega arith) first left_first _ one.0 (λ ns known. one.1 ns known.0) in
    let checks = c.requires.checks_second _ _ _ (Err c.in_err-second_step.field-0.0) within_first (omega (arith, second.fits)) c.in_err-second_step.ensures in
    field_refused (λ ns. g.A.Portable.knows ns × g.B.Portable.knows ns × g.C.Portable.knows ns × g.D.Portable.knows ns) c.args.bytes.now c.args.pos (more_shapes g.A.Portable.shape (more_shapes g.B.Portable.shape (more_shapes g.C.Portable.shape (more_shapes g.D.Portable.shape no_shapes)))) (g.Context.ArchiveContext.kept c.args.context.now) _ refl second left_second c.in_err-second_step.field-0.0 _ c.from_residual-in_err-second_step.result (search rules) (λ ns known. checks.1 ns known.1) names (known_first, known_second, known_third, known_fourth)

pub overflow_add-pos-2 : goal.overflow_add-pos-2
overflow_add-pos-2 g c =
    let first = first_field g.A.Portable.shape (more_shapes g.B.Portable.shape (more_shapes g.C.Portable.shape (more_shapes g.D.Portable.shape no_shapes))) in
    let second = next_field first c.SIZE.result c.SIZE.result c.ALIGN.result c.next_multiple-second.result (omega arith) (c.SIZE.ensures ∙ g.met.A.Portable.sized) (c.ALIGN.ensures ∙ g.met.B.Portable.aligned) (omega arith) c.next_multiple-second.ensures in
    let third = next_field second (c.next_multiple-second.result + c.SIZE-2.result) c.SIZE-2.result c.ALIGN-2.result c.next_multiple-third.result (omega arith) (c.SIZE-2.ensures ∙ g.met.B.Portable.sized) (c.ALIGN-2.ensures ∙ g.met.C.Portable.aligned) (omega arith) c.next_multiple-third.ensures in
    omega (arith, third.fits)

pub third_step-requires : goal.third_step-requires
third_step-requires g c =
    let first = first_field g.A.Portable.shape (more_shapes g.B.Portable.shape (more_shapes g.C.Portable.shape (more_shapes g.D.Portable.shape no_shapes))) in
    let second = next_field first c.SIZE.result c.SIZE.result c.ALIGN.result c.next_multiple-second.result (omega arith) (c.SIZE.ensures ∙ g.met.A.Portable.sized) (c.ALIGN.ensures ∙ g.met.B.Portable.aligned) (omega arith) c.next_multiple-second.ensures in
    let third = next_field second (c.next_multiple-second.result + c.SIZE-2.result) c.SIZE-2.result c.ALIGN-2.result c.next_multiple-third.result (omega arith) (c.SIZE-2.ensures ∙ g.met.B.Portable.sized) (c.ALIGN-2.ensures ∙ g.met.C.Portable.aligned) (omega arith) c.next_multiple-third.ensures in
    let one = c.requires.checks_first _ _ _ (Ok tt) c.requires.range (omega (arith, first.fits)) c.in_ok-first_step.ensures in
    let within_first = advances_within _ c.requires.range one.0 in
    let two = c.requires.checks_second _ _ _ (Ok tt) within_first (omega (arith, second.fits)) c.in_ok-second_step.ensures in
    let within_second = advances_within _ within_first two.0 in
    c.requires.takes_third _ _ (advances_narrow (advances_then one.0 two.0)) (omega (arith, third.fits))

pub returns-in_err-third_step-clause-exact : goal.returns-in_err-third_step-clause-exact
returns-in_err-third_step-clause-exact g c names known_first known_second known_third known_fourth =
    let first = first_field g.A.Portable.shape (more_shapes g.B.Portable.shape (more_shapes g.C.Portable.shape (more_shapes g.D.Portable.shape no_shapes))) in
    let second = next_field first c.SIZE.result c.SIZE.result c.ALIGN.result c.next_multiple-second.result (omega arith) (c.SIZE.ensures ∙ g.met.A.Portable.sized) (c.ALIGN.ensures ∙ g.met.B.Portable.aligned) (omega arith) c.next_multiple-second.ensures in
    let third = next_field second (c.next_multiple-second.result + c.SIZE-2.result) c.SIZE-2.result c.ALIGN-2.result c.next_multiple-third.result (omega arith) (c.SIZE-2.ensures ∙ g.met.B.Portable.sized) (c.ALIGN-2.ensures ∙ g.met.C.Portable.aligned) (omega arith) c.next_multiple-third.ensures in
    let one = c.requires.checks_first _ _ _ (Ok tt) c.requires.range (omega (arith, first.fits)) c.in_ok-first_step.ensures in
    let within_first = advances_within _ c.requires.range one.0 in
    let two = c.requires.checks_second _ _ _ (Ok tt) within_first (omega (arith, second.fits)) c.in_ok-second_step.ensures in
    let within_second = advances_within _ within_first two.0 in
    let left_first = all_fields_left (λ ns. g.A.Portable.knows ns × g.B.Portable.knows ns × g.C.Portable.knows ns × g.D.Portable.knows ns) c.args.bytes.now c.args.pos (more_shapes g.A.Portable.shape (more_shapes g.B.Portable.shape (more_shapes g.C.Portable.shape (more_shapes g.D.Portable.shape no_shapes)))) (g.Context.ArchiveContext.kept c.args.context.now) c.requires.range.ordered in
    let left_second = field_checked (λ ns. g.A.Portable.knows ns × g.B.Portable.knows ns × g.C.Portable.knows ns × g.D.Portable.knows ns) c.args.bytes.now c.args.pos (more_shapes g.A.Portable.shape (more_shapes g.B.Portable.shape (more_shapes g.C.Portable.shape (more_shapes g.D.Portable.shape no_shapes)))) (g.Context.ArchiveContext.kept c.args.context.now) c.args.pos (omega arith) first left_first _ one.0 (λ ns known. one.1 ns known.0) in
    let left_third = field_checked (λ ns. g.A.Portable.knows ns × g.B.Portable.knows ns × g.C.Portable.knows ns × g.D.Portable.knows ns) c.args.bytes.now c.args.pos (more_shapes g.A.Portable.shape (more_shapes g.B.Portable.shape (more_shapes g.C.Portable.shape (more_shapes g.D.Portable.shape no_shapes)))) (g.Context.ArchiveContext.kept c.args.context.now) _ refl second left_second _ two.0 (λ ns known. two.1 ns known.1) in
    let checks = c.requires.checks_third _ _ _ (Err c.in_err-third_step.field-0.0) within_second (omega (arith, third.fits)) c.in_err-third_step.ensures in
    field_refused (λ ns. g.A.Portable.knows ns × g.B.Portable.knows ns × g.C.Portable.knows ns × g.D.Portable.knows ns) c.args.bytes.now c.args.pos (more_shapes g.A.Portable.shape (more_shapes g.B.Portable.shape (more_shapes g.C.Portable.shape (more_shapes g.D.Portable.shape no_shapes)))) (g.Context.ArchiveContext.kept c.args.context.now) _ refl third left_third c.in_err-third_step.field-0.0 _ c.from_residual-in_err-third_step.result (search rules) (λ ns known. checks.1 ns known.2) names (known_first, known_second, known_third, known_fourth)

pub overflow_add-pos-3 : goal.overflow_add-pos-3
overflow_add-pos-3 g c =
    let first = first_field g.A.Portable.shape (more_shapes g.B.Portable.shape (more_shapes g.C.Portable.shape (more_shapes g.D.Portable.shape no_shapes))) in
    let second = next_field first c.SIZE.result c.SIZE.result c.ALIGN.result c.next_multiple-second.result (omega arith) (c.SIZE.ensures ∙ g.met.A.Portable.sized) (c.ALIGN.ensures ∙ g.met.B.Portable.aligned) (omega arith) c.next_multiple-second.ensures in
    let third = next_field second (c.next_multiple-second.result + c.SIZE-2.result) c.SIZE-2.result c.ALIGN-2.result c.next_multiple-third.result (omega arith) (c.SIZE-2.ensures ∙ g.met.B.Portable.sized) (c.ALIGN-2.ensures ∙ g.met.C.Portable.aligned) (omega arith) c.next_multiple-third.ensures in
    let fourth = next_field third (c.next_multiple-third.result + c.SIZE-3.result) c.SIZE-3.result c.ALIGN-3.result c.next_multiple-fourth.result (omega arith) (c.SIZE-3.ensures ∙ g.met.C.Portable.sized) (c.ALIGN-3.ensures ∙ g.met.D.Portable.aligned) (omega arith) c.next_multiple-fourth.ensures in
    omega (arith, fourth.fits)

pub fourth_step-requires : goal.fourth_step-requires
fourth_step-requires g c =
    let first = first_field g.A.Portable.shape (more_shapes g.B.Portable.shape (more_shapes g.C.Portable.shape (more_shapes g.D.Portable.shape no_shapes))) in
    let second = next_field first c.SIZE.result c.SIZE.result c.ALIGN.result c.next_multiple-second.result (omega arith) (c.SIZE.ensures ∙ g.met.A.Portable.sized) (c.ALIGN.ensures ∙ g.met.B.Portable.aligned) (omega arith) c.next_multiple-second.ensures in
    let third = next_field second (c.next_multiple-second.result + c.SIZE-2.result) c.SIZE-2.result c.ALIGN-2.result c.next_multiple-third.result (omega arith) (c.SIZE-2.ensures ∙ g.met.B.Portable.sized) (c.ALIGN-2.ensures ∙ g.met.C.Portable.aligned) (omega arith) c.next_multiple-third.ensures in
    let fourth = next_field third (c.next_multiple-third.result + c.SIZE-3.result) c.SIZE-3.result c.ALIGN-3.result c.next_multiple-fourth.result (omega arith) (c.SIZE-3.ensures ∙ g.met.C.Portable.sized) (c.ALIGN-3.ensures ∙ g.met.D.Portable.aligned) (omega arith) c.next_multiple-fourth.ensures in
    let one = c.requires.checks_first _ _ _ (Ok tt) c.requires.range (omega (arith, first.fits)) c.in_ok-first_step.ensures in
    let within_first = advances_within _ c.requires.range one.0 in
    let two = c.requires.checks_second _ _ _ (Ok tt) within_first (omega (arith, second.fits)) c.in_ok-second_step.ensures in
    let within_second = advances_within _ within_first two.0 in
    let three = c.requires.checks_third _ _ _ (Ok tt) within_second (omega (arith, third.fits)) c.in_ok-third_step.ensures in
    let within_third = advances_within _ within_second three.0 in
    c.requires.takes_fourth _ _ (advances_narrow (advances_then (advances_then one.0 two.0) three.0)) (omega (arith, fourth.fits))

pub returns : goal.returns
returns g c =
    let first = first_field g.A.Portable.shape (more_shapes g.B.Portable.shape (more_shapes g.C.Portable.shape (more_shapes g.D.Portable.shape no_shapes))) in
    let second = next_field first c.SIZE.result c.SIZE.result c.ALIGN.result c.next_multiple-second.result (omega arith) (c.SIZE.ensures ∙ g.met.A.Portable.sized) (c.ALIGN.ensures ∙ g.met.B.Portable.aligned) (omega arith) c.next_multiple-second.ensures in
    let third = next_field second (c.next_multiple-second.result + c.SIZE-2.result) c.SIZE-2.result c.ALIGN-2.result c.next_multiple-third.result (omega arith) (c.SIZE-2.ensures ∙ g.met.B.Portable.sized) (c.ALIGN-2.ensures ∙ g.met.C.Portable.aligned) (omega arith) c.next_multiple-third.ensures in
    let fourth = next_field third (c.next_multiple-third.result + c.SIZE-3.result) c.SIZE-3.result c.ALIGN-3.result c.next_multiple-fourth.result (omega arith) (c.SIZE-3.ensures ∙ g.met.C.Portable.sized) (c.ALIGN-3.ensures ∙ g.met.D.Portable.aligned) (omega arith) c.next_multiple-fourth.ensures in
    let one = c.requires.checks_first _ _ _ (Ok tt) c.requires.range (omega (arith, first.fits)) c.in_ok-first_step.ensures in
    let within_first = advances_within _ c.requires.range one.0 in
    let two = c.requires.checks_second _ _ _ (Ok tt) within_first (omega (arith, second.fits)) c.in_ok-second_step.ensures in
    let within_second = advances_within _ within_first two.0 in
    let three = c.requires.checks_third _ _ _ (Ok tt) within_second (omega (arith, third.fits)) c.in_ok-third_step.ensures in
    let within_third = advances_within _ within_second three.0 in
    let left_first = all_fields_left (λ ns. g.A.Portable.knows ns × g.B.Portable.knows ns × g.C.Portable.knows ns × g.D.Portable.knows ns) c.args.bytes.now c.args.pos (more_shapes g.A.Portable.shape (more_shapes g.B.Portable.shape (more_shapes g.C.Portable.shape (more_shapes g.D.Portable.shape no_shapes)))) (g.Context.ArchiveContext.kept c.args.context.now) c.requires.range.ordered in
    let left_second = field_checked (λ ns. g.A.Portable.knows ns × g.B.Portable.knows ns × g.C.Portable.knows ns × g.D.Portable.knows ns) c.args.bytes.now c.args.pos (more_shapes g.A.Portable.shape (more_shapes g.B.Portable.shape (more_shapes g.C.Portable.shape (more_shapes g.D.Portable.shape no_shapes)))) (g.Context.ArchiveContext.kept c.args.context.now) c.args.pos (omega arith) first left_first _ one.0 (λ ns known. one.1 ns known.0) in
    let left_third = field_checked (λ ns. g.A.Portable.knows ns × g.B.Portable.knows ns × g.C.Portable.knows ns × g.D.Portable.knows ns) c.args.bytes.now c.args.pos (more_shapes g.A.Portable.shape (more_shapes g.B.Portable.shape (more_shapes g.C.Portable.shape (more_shapes g.D.Portable.shape no_shapes)))) (g.Context.ArchiveContext.kept c.args.context.now) _ refl second left_second _ two.0 (λ ns known. two.1 ns known.1) in
    let left_fourth = field_checked (λ ns. g.A.Portable.knows ns × g.B.Portable.knows ns × g.C.Portable.knows ns × g.D.Portable.knows ns) c.args.bytes.now c.args.pos (more_shapes g.A.Portable.shape (more_shapes g.B.Portable.shape (more_shapes g.C.Portable.shape (more_shapes g.D.Portable.shape no_shapes)))) (g.Context.ArchiveContext.kept c.args.context.now) _ refl third left_third _ three.0 (λ ns known. three.1 ns known.2) in
    let other = c.requires.checks_fourth _ _ _ c.fourth_step.result within_third (omega (arith, fourth.fits)) c.fourth_step.ensures in
    let all = last_field (λ ns. g.A.Portable.knows ns × g.B.Portable.knows ns × g.C.Portable.knows ns × g.D.Portable.knows ns) c.args.bytes.now c.args.pos (more_shapes g.A.Portable.shape (more_shapes g.B.Portable.shape (more_shapes g.C.Portable.shape (more_shapes g.D.Portable.shape no_shapes)))) (g.Context.ArchiveContext.kept c.args.context.now) _ refl fourth left_fourth _ _ other.0 (λ ns known. other.1 ns known.3) in
    record { moves = all.0; exact = λ ns known_first known_second known_third known_fourth. all.1 ns (known_first, known_second, known_third, known_fourth) }
