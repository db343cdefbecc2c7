use Rattle.std.proofs.Common.{arith, refl, ◌∙◌}
use Rattle.archive_shape_layout.specs.Shape.Shape.{result}
use Rattle.archive_forms_values.proofs.Tagged.{payloads, ok_checked, err_checked, tag_refused}
use Rattle.archive_forms_values.proofs.checking.result.check_result_each.Goals as goal

pub bounds-bytes-pos : goal.bounds-bytes-pos
bounds-bytes-pos g c =
    let behind = payloads g.T.Portable.shape g.E.Portable.shape c.max-offset.result c.ALIGN-value_align.result c.ALIGN-error_align.result c.max-offset.ensures
    (c.ALIGN-value_align.ensures ∙ g.met.T.Portable.aligned) (c.ALIGN-error_align.ensures ∙ g.met.E.Portable.aligned) (omega (arith, c.ALIGN-value_align.ensures, g.met.T.Portable.aligns.0)) in
    omega (arith, behind.value_fits, behind.positive)

pub value_step-requires : goal.value_step-requires
value_step-requires g c =
    let behind = payloads g.T.Portable.shape g.E.Portable.shape c.max-offset.result c.ALIGN-value_align.result c.ALIGN-error_align.result c.max-offset.ensures
    (c.ALIGN-value_align.ensures ∙ g.met.T.Portable.aligned) (c.ALIGN-error_align.ensures ∙ g.met.E.Portable.aligned) (omega (arith, c.ALIGN-value_align.ensures, g.met.T.Portable.aligns.0)) in
    c.requires.takes_value _ _ (record { begins = omega arith; ends = omega arith; ordered = c.requires.range.ordered }) (omega (arith, behind.value_fits))

pub error_step-requires : goal.error_step-requires
error_step-requires g c =
    let behind = payloads g.T.Portable.shape g.E.Portable.shape c.max-offset.result c.ALIGN-value_align.result c.ALIGN-error_align.result c.max-offset.ensures
    (c.ALIGN-value_align.ensures ∙ g.met.T.Portable.aligned) (c.ALIGN-error_align.ensures ∙ g.met.E.Portable.aligned) (omega (arith, c.ALIGN-value_align.ensures, g.met.T.Portable.aligns.0)) in
    c.requires.takes_error _ _ (record { begins = omega arith; ends = omega arith; ordered = c.requires.range.ordered }) (omega (arith, behind.error_fits))

pub returns-in-0 : goal.returns-in-0
returns-in-0 g c =
    let behind = payloads g.T.Portable.shape g.E.Portable.shape c.max-offset.result c.ALIGN-value_align.result c.ALIGN-error_align.result c.max-offset.ensures
    (c.ALIGN-value_align.ensures ∙ g.met.T.Portable.aligned) (c.ALIGN-error_align.ensures ∙ g.met.E.Portable.aligned) (omega (arith, c.ALIGN-value_align.ensures, g.met.T.Portable.aligns.0)) in
    let checks = c.requires.checks_value _ _ _ c.value_step.result c.requires.range (omega (arith, behind.value_fits)) c.value_step.ensures in
    record {
      moves = checks.0;
      exact = λ names known_value known_error. ok_checked names c.args.bytes.now c.args.pos g.T.Portable.shape g.E.Portable.shape c.max-offset.result behind _ _ _ c.in-0.is (checks.1 names known_value);
    }

pub returns-in-1 : goal.returns-in-1
returns-in-1 g c =
    let behind = payloads g.T.Portable.shape g.E.Portable.shape c.max-offset.result c.ALIGN-value_align.result c.ALIGN-error_align.result c.max-offset.ensures
    (c.ALIGN-value_align.ensures ∙ g.met.T.Portable.aligned) (c.ALIGN-error_align.ensures ∙ g.met.E.Portable.aligned) (omega (arith, c.ALIGN-value_align.ensures, g.met.T.Portable.aligns.0)) in
    let checks = c.requires.checks_error _ _ _ c.error_step.result c.requires.range (omega (arith, behind.error_fits)) c.error_step.ensures in
    record {
      moves = checks.0;
      exact = λ names known_value known_error. err_checked names c.args.bytes.now c.args.pos g.T.Portable.shape g.E.Portable.shape c.max-offset.result behind _ _ _ c.in-1.is (checks.1 names known_error);
    }

pub returns-clause-exact : goal.returns-clause-exact
returns-clause-exact g c names known_value known_error =
    let other = c.in_default in
    let behind = payloads g.T.Portable.shape g.E.Portable.shape c.max-offset.result c.ALIGN-value_align.result c.ALIGN-error_align.result c.max-offset.ensures
    (c.ALIGN-value_align.ensures ∙ g.met.T.Portable.aligned) (c.ALIGN-error_align.ensures ∙ g.met.E.Portable.aligned) (omega (arith, c.ALIGN-value_align.ensures, g.met.T.Portable.aligns.0)) in
    tag_refused names c.args.bytes.now c.args.pos (result g.T.Portable.shape g.E.Portable.shape) _ (g.C.ArchiveContext.kept c.args.context.now) refl (omega (arith, behind.value_fits, behind.positive))
    (λ ok. omega arith) (λ err. omega arith)
