use Rattle.std.proofs.Common.{rules, refl}
use Rattle.archive_forms_values.proofs.Claimed.{misplaced}
use Rattle.archive_forms_values.proofs.Claiming.{claim_refused, claim_pushed}
use Rattle.archive_btree_maps.proofs.nodes.checking.claim.claim_node.Goals as goal

pub returns-in_err-check_subtree_ptr : goal.returns-in_err-check_subtree_ptr
returns-in_err-check_subtree_ptr g c n cut =
    let told = c.check_subtree_ptr.ensures in
    claim_refused _ _ (record { start = c.args.pos; size = n; align = c.args.align }) _ c.in_err-check_subtree_ptr.field-0.0 (search rules)
    (misplaced _ (record { start = c.args.pos; size = n; align = c.args.align }) c.args.size c.args.align c.check_subtree_ptr.result _
    cut refl c.requires.small told.outside told.unaligned told.accepted c.in_err-check_subtree_ptr.was)

pub returns : goal.returns
returns g c n cut =
    claim_pushed _ _ (record { start = c.args.pos; size = n; align = c.args.align }) c.args.size cut c.requires.small
    (c.in_ok-check_subtree_ptr.ensures.claimable refl) c.push_subtree_range.result c.push_subtree_range.ensures
