use Rattle.std.proofs.Common.{rules, arith, ◌≤◌, length, refl}
use Rattle.archive_shape.proofs.Claims.{place_unanswered, depth_unanswered, bytes_unclaimed}
use Rattle.archive_bench.proofs.forms.context.RangeContextArchiveContext.claim_bytes.Goals as goal

pub returns-in_err-check_subtree_ptr : goal.returns-in_err-check_subtree_ptr
returns-in_err-check_subtree_ptr c =
    let told = c.check_subtree_ptr.ensures in
    bytes_unclaimed _ c.args.pos c.args.size c.from_residual.result c.in_err-check_subtree_ptr.field-0.0 (search rules)
    (place_unanswered _ _ c.check_subtree_ptr.result _ told.outside told.unaligned told.accepted (c.in_err-check_subtree_ptr.was))

pub returns-then-self-len : goal.returns-then-self-len
returns-then-self-len c =
    let claimable = c.in_ok-check_subtree_ptr.ensures.claimable refl in
    let deep : c.args.self.now.most ≤ length c.args.self.now.pushes.items = omega (arith, c.if-self-len.true, c.len.ensures) in
    (depth_unanswered _ _ _ claimable.0 claimable.1 deep refl, refl)
