use Rattle.std.proofs.Common.{rules, refl}
use Rattle.archive_shape.proofs.Claims.{place_unanswered, depth_unanswered}
use Rattle.archive_core_validation.proofs.Claiming.{is_claimed, last_push, unclaimed, refused_inside, answered_inside}
use Rattle.archive_core_validation.proofs.context_ext.AnyArchiveContextExt.in_subtree_raw.Goals as goal

pub returns-in_err-check_subtree_ptr : goal.returns-in_err-check_subtree_ptr
returns-in_err-check_subtree_ptr g c =
    let told = c.check_subtree_ptr.ensures in
    unclaimed g.F.FnOnce g.C.ArchiveContext.kept c.args.f _ _ _ _ c.in_err-check_subtree_ptr.field-0.0 (search rules)
    (λ other. place_unanswered _ (record { start = c.args.pos; size = c.args.size; align = c.args.align }) c.check_subtree_ptr.result _
    told.outside told.unaligned told.accepted c.in_err-check_subtree_ptr.was)

pub returns-in_err-range : goal.returns-in_err-range
returns-in_err-range g c =
    let place = c.in_ok-check_subtree_ptr.ensures.claimable refl in
    unclaimed g.F.FnOnce g.C.ArchiveContext.kept c.args.f _ _ _ _ c.in_err-range.field-0.0 (search rules)
    (λ other. let refused = c.in_err-range.ensures.0 other in depth_unanswered _ _ _ place.0 place.1 refused.0 refused.1)

pub returns-in_err-value : goal.returns-in_err-value
returns-in_err-value g c =
    let place = c.in_ok-check_subtree_ptr.ensures.claimable refl in
    refused_inside g.F.FnOnce g.C.ArchiveContext.kept c.args.f _ _ _ _ c.in_err-value.field-0.0 _ _ (search rules)
    (is_claimed _ _ _ c.in_ok-range.range place c.in_ok-range.ensures) c.in_err-value.ensures

pub returns : goal.returns
returns g c =
    let place = c.in_ok-check_subtree_ptr.ensures.claimable refl in
    let push = c.in_ok-range.ensures in
    let claimed = is_claimed (g.C.ArchiveContext.kept c.args.self.now) (g.C.ArchiveContext.kept c.push_subtree_range.new.self) (record { start = c.args.pos; size = c.args.size; align = c.args.align }) c.in_ok-range.range place push in
    let keeps = c.requires.keeps _ _ _ claimed c.in_ok-value.ensures in
    let last = last_push (g.C.ArchiveContext.kept c.args.self.now) (g.C.ArchiveContext.kept c.push_subtree_range.new.self) (g.C.ArchiveContext.kept c.f.new.arg2) c.in_ok-range.range push.2 keeps in
    let again = c.pop_subtree_range.ensures.last _ last in
    answered_inside g.F.FnOnce g.C.ArchiveContext.kept c.args.f _ _ _ c.in_ok-value.value c.in_ok-range.range _ _ claimed c.in_ok-value.ensures push.0 again.1
