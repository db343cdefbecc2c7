use Rattle.std.proofs.Common.{rules, arith, ◌≤◌, length, refl, ap}
use Rattle.archive_shape.proofs.Claims.{place_unanswered, depth_unanswered, bytes_unclaimed}
use Rattle.archive_core_validation.specs.Depth.{most_within}
use Rattle.archive_core_validation.proofs.archive_validator.ArchiveValidatorArchiveContext.claim_bytes.Goals as goal

pub returns-in_err-check_subtree_ptr : goal.returns-in_err-check_subtree_ptr
returns-in_err-check_subtree_ptr c =
    let told = c.check_subtree_ptr.ensures in
    bytes_unclaimed _ c.args.pos c.args.size c.from_residual.result c.in_err-check_subtree_ptr.field-0.0 (search rules)
    (place_unanswered _ _ c.check_subtree_ptr.result _ told.outside told.unaligned told.accepted (c.in_err-check_subtree_ptr.was))

pub returns-then-most-len : goal.returns-then-most-len
returns-then-most-len c =
    let claimable = c.in_ok-check_subtree_ptr.ensures.claimable refl in
    let limit = ap most_within c.in-Some.is in
    let deep : most_within c.args.self.now.most ≤ length c.args.self.now.pushes.items = omega (arith, limit, c.if-most-len.true, c.len.ensures) in
    (depth_unanswered _ _ _ claimable.0 claimable.1 deep refl, refl)
