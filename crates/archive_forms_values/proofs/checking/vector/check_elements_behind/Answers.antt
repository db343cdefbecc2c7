use Rattle.std.proofs.Common.{rules, arith, refl, ◌∙◌}
use Rattle.archive_shape_layout.specs.Shape.{size_of}
use Rattle.archive_shape_layout.specs.Shape.Pointee.{slice}
use Rattle.archive_shape_layout.specs.Content.{elements}
use Rattle.archive_shape.specs.Questions.{pointee_span}
use Rattle.archive_shape.proofs.Claims.{depth_unanswered}
use Rattle.archive_forms_values.proofs.Claimed.{misplaced, answered, Pushes, pushes, pushed_fits, pushed_narrow, one_of_elements, last_push, makes_whole, unclaimed, fault_in_claim, claim_checked}
use Rattle.archive_forms_values.proofs.Contents.{slice_is}
use Rattle.archive_forms_values.proofs.checking.vector.check_elements_behind.Goals as goal

pub returns-in_err-check_subtree_ptr-clause-exact : goal.returns-in_err-check_subtree_ptr-clause-exact
returns-in_err-check_subtree_ptr-clause-exact g c names known =
    let told = c.check_subtree_ptr.ensures in
    let within = c.requires.range.covered in
    unclaimed names c.args.bytes.now c.args.target (slice g.T.Portable.shape) c.args.len _ _ _ c.in_err-check_subtree_ptr.field-0.0 (search rules)
    (λ other. misplaced _ (pointee_span c.args.target (slice g.T.Portable.shape) c.args.len) c.args.size c.ALIGN-align.result c.check_subtree_ptr.result _
    c.requires.bytes_of_all (c.ALIGN-align.ensures ∙ g.met.T.Portable.aligned) (omega arith)
    told.outside told.unaligned told.accepted c.in_err-check_subtree_ptr.was)

pub returns-in_err-range-clause-exact : goal.returns-in_err-range-clause-exact
returns-in_err-range-clause-exact g c names known =
    let within = c.requires.range.covered in
    let claimable = answered _ (pointee_span c.args.target (slice g.T.Portable.shape) c.args.len) c.args.size c.ALIGN-align.result
    c.requires.bytes_of_all (c.ALIGN-align.ensures ∙ g.met.T.Portable.aligned) (omega arith)
    (c.in_ok-check_subtree_ptr.ensures.claimable refl) in
    unclaimed names c.args.bytes.now c.args.target (slice g.T.Portable.shape) c.args.len _ _ _ c.in_err-range.field-0.0 (search rules)
    (λ other. let refused = c.in_err-range.ensures.0 other in
    depth_unanswered _ (pointee_span c.args.target (slice g.T.Portable.shape) c.args.len) _ claimable.0 claimable.1 refused.0 refused.1)

pub check_slice_each-requires-clause-fits : goal.check_slice_each-requires-clause-fits
check_slice_each-requires-clause-fits g c =
    let narrowed = c.in_ok-range.ensures in
    let within = c.requires.range.covered in
    let push : Pushes _ (pointee_span c.args.target (slice g.T.Portable.shape) c.args.len) c.in_ok-range.range _ = pushes _ _ (pointee_span c.args.target (slice g.T.Portable.shape) c.args.len) c.in_ok-range.range c.args.size c.ALIGN-align.result
    c.requires.bytes_of_all (c.ALIGN-align.ensures ∙ g.met.T.Portable.aligned) (omega arith)
    (c.in_ok-check_subtree_ptr.ensures.claimable refl) narrowed.0 narrowed.1 narrowed.2 in
    pushed_fits push _ c.requires.range

pub check_slice_each-requires-clause-takes : goal.check_slice_each-requires-clause-takes
check_slice_each-requires-clause-takes g c some context pos narrower fits =
    let narrowed = c.in_ok-range.ensures in
    let within = c.requires.range.covered in
    let push : Pushes _ (pointee_span c.args.target (slice g.T.Portable.shape) c.args.len) c.in_ok-range.range _ = pushes _ _ (pointee_span c.args.target (slice g.T.Portable.shape) c.args.len) c.in_ok-range.range c.args.size c.ALIGN-align.result
    c.requires.bytes_of_all (c.ALIGN-align.ensures ∙ g.met.T.Portable.aligned) (omega arith)
    (c.in_ok-check_subtree_ptr.ensures.claimable refl) narrowed.0 narrowed.1 narrowed.2 in
    let one = one_of_elements c.args.len (size_of g.T.Portable.shape) some in
    c.requires.takes context pos (pushed_narrow push _ (omega (arith, one, g.met.T.Portable.sized)) _ narrower) fits

pub returns-in_err-check_slice_each-clause-exact : goal.returns-in_err-check_slice_each-clause-exact
returns-in_err-check_slice_each-clause-exact g c names known =
    let narrowed = c.in_ok-range.ensures in
    let within = c.requires.range.covered in
    let push : Pushes _ (pointee_span c.args.target (slice g.T.Portable.shape) c.args.len) c.in_ok-range.range _ = pushes _ _ (pointee_span c.args.target (slice g.T.Portable.shape) c.args.len) c.in_ok-range.range c.args.size c.ALIGN-align.result
    c.requires.bytes_of_all (c.ALIGN-align.ensures ∙ g.met.T.Portable.aligned) (omega arith)
    (c.in_ok-check_subtree_ptr.ensures.claimable refl) narrowed.0 narrowed.1 narrowed.2 in
    fault_in_claim names c.args.bytes.now c.args.target (slice g.T.Portable.shape) c.args.len _ _ (slice_is names c.args.bytes.now c.args.target g.T.Portable.shape c.args.len) push _ _ c.in_err-check_slice_each.field-0.0 (search rules)
    (λ inside before records other. c.in_err-check_slice_each.ensures.exact names known inside before records other)

pub returns-clause-exact : goal.returns-clause-exact
returns-clause-exact g c names known =
    let narrowed = c.in_ok-range.ensures in
    let within = c.requires.range.covered in
    let push : Pushes _ (pointee_span c.args.target (slice g.T.Portable.shape) c.args.len) c.in_ok-range.range _ = pushes _ _ (pointee_span c.args.target (slice g.T.Portable.shape) c.args.len) c.in_ok-range.range c.args.size c.ALIGN-align.result
    c.requires.bytes_of_all (c.ALIGN-align.ensures ∙ g.met.T.Portable.aligned) (omega arith)
    (c.in_ok-check_subtree_ptr.ensures.claimable refl) narrowed.0 narrowed.1 narrowed.2 in
    let checks = c.in_ok-check_slice_each.ensures in
    let again = c.pop_subtree_range.ensures.last _ (last_push push _ checks.moves) in
    claim_checked names c.args.bytes.now c.args.target (slice g.T.Portable.shape) c.args.len _ _ (slice_is names c.args.bytes.now c.args.target g.T.Portable.shape c.args.len) push _ _ _ tt
    (makes_whole names c.args.bytes.now (elements c.args.target c.args.len g.T.Portable.shape))
    (λ inside before records. checks.exact names known inside before records) checks.moves again.0 again.1
