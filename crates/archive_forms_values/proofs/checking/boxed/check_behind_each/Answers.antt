use Rattle.std.proofs.Common.{rules, arith, Ok, Err, refl, ◌∙◌}
use Rattle.archive_shape_layout.specs.Shape.Pointee.{sized}
use Rattle.archive_shape_layout.specs.Content.Part.{at}
use Rattle.archive_shape.specs.Questions.{pointee_span}
use Rattle.archive_shape.specs.PartFault.PartsFault.{fault_here}
use Rattle.archive_shape.proofs.Claims.{depth_unanswered}
use Rattle.archive_forms_values.proofs.Claimed.{misplaced, answered, Pushes, pushes, pushed_within, pushed_fits, last_push, makes_same, unclaimed, fault_in_claim, claim_checked}
use Rattle.archive_forms_values.proofs.Contents.{sized_is}
use Rattle.archive_shape.proofs.Ordered.{one_checked}
use Rattle.archive_forms_values.proofs.checking.boxed.check_behind_each.Goals as goal

pub returns-in_err-check_subtree_ptr-clause-exact : goal.returns-in_err-check_subtree_ptr-clause-exact
returns-in_err-check_subtree_ptr-clause-exact g c names known =
    let told = c.check_subtree_ptr.ensures in
    let within = c.requires.range.covered in
    unclaimed names c.args.bytes.now c.args.target (sized g.T.Portable.shape) 1 _ _ _ c.in_err-check_subtree_ptr.field-0.0 (search rules)
    (λ other. misplaced _ (pointee_span c.args.target (sized g.T.Portable.shape) 1) c.SIZE-size.result c.ALIGN-align.result c.check_subtree_ptr.result _
    (c.SIZE-size.ensures ∙ g.met.T.Portable.sized) (c.ALIGN-align.ensures ∙ g.met.T.Portable.aligned) (omega arith)
    told.outside told.unaligned told.accepted c.in_err-check_subtree_ptr.was)

pub returns-in_err-range-clause-exact : goal.returns-in_err-range-clause-exact
returns-in_err-range-clause-exact g c names known =
    let within = c.requires.range.covered in
    let claimable = answered _ (pointee_span c.args.target (sized g.T.Portable.shape) 1) c.SIZE-size.result c.ALIGN-align.result
    (c.SIZE-size.ensures ∙ g.met.T.Portable.sized) (c.ALIGN-align.ensures ∙ g.met.T.Portable.aligned) (omega arith)
    (c.in_ok-check_subtree_ptr.ensures.claimable refl) in
    unclaimed names c.args.bytes.now c.args.target (sized g.T.Portable.shape) 1 _ _ _ c.in_err-range.field-0.0 (search rules)
    (λ other. let refused = c.in_err-range.ensures.0 other in
    depth_unanswered _ (pointee_span c.args.target (sized g.T.Portable.shape) 1) _ claimable.0 claimable.1 refused.0 refused.1)

pub returns-in_err-step-clause-exact : goal.returns-in_err-step-clause-exact
returns-in_err-step-clause-exact g c names known =
    let narrowed = c.in_ok-range.ensures in
    let within = c.requires.range.covered in
    let push : Pushes _ (pointee_span c.args.target (sized g.T.Portable.shape) 1) c.in_ok-range.range _ = pushes _ _ (pointee_span c.args.target (sized g.T.Portable.shape) 1) c.in_ok-range.range c.SIZE-size.result c.ALIGN-align.result
    (c.SIZE-size.ensures ∙ g.met.T.Portable.sized) (c.ALIGN-align.ensures ∙ g.met.T.Portable.aligned) (omega arith)
    (c.in_ok-check_subtree_ptr.ensures.claimable refl) narrowed.0 narrowed.1 narrowed.2 in
    let checks = c.requires.checks _ _ _ (Err c.in_err-step.field-0.0) (pushed_within push _ c.requires.range) (pushed_fits push _ c.requires.range) c.in_err-step.ensures in
    fault_in_claim names c.args.bytes.now c.args.target (sized g.T.Portable.shape) 1 _ _ (sized_is names c.args.bytes.now c.args.target g.T.Portable.shape 1) push _ _ c.in_err-step.field-0.0 (search rules)
    (λ inside before records other. fault_here (checks.1 names known inside before records other))

pub returns-clause-exact : goal.returns-clause-exact
returns-clause-exact g c names known =
    let narrowed = c.in_ok-range.ensures in
    let within = c.requires.range.covered in
    let push : Pushes _ (pointee_span c.args.target (sized g.T.Portable.shape) 1) c.in_ok-range.range _ = pushes _ _ (pointee_span c.args.target (sized g.T.Portable.shape) 1) c.in_ok-range.range c.SIZE-size.result c.ALIGN-align.result
    (c.SIZE-size.ensures ∙ g.met.T.Portable.sized) (c.ALIGN-align.ensures ∙ g.met.T.Portable.aligned) (omega arith)
    (c.in_ok-check_subtree_ptr.ensures.claimable refl) narrowed.0 narrowed.1 narrowed.2 in
    let checks = c.requires.checks _ _ _ (Ok tt) (pushed_within push _ c.requires.range) (pushed_fits push _ c.requires.range) c.in_ok-step.ensures in
    let again = c.pop_subtree_range.ensures.last _ (last_push push _ checks.0) in
    claim_checked names c.args.bytes.now c.args.target (sized g.T.Portable.shape) 1 _ _ (sized_is names c.args.bytes.now c.args.target g.T.Portable.shape 1) push _ _ _ tt (makes_same names c.args.bytes.now (at c.args.target g.T.Portable.shape))
    (λ inside before records. one_checked names c.args.bytes.now inside before (checks.1 names known inside before records)) checks.0 again.0 again.1
