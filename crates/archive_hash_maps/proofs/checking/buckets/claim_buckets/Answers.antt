use Rattle.std.proofs.Common.{rules, refl, arith, ◌+◌, ◌*◌, ◌-◌, ◌∙◌}
use Rattle.archive_shape_layout.specs.Shape.{size_of}
use Rattle.archive_shape_layout.specs.Content.{control_count}
use Rattle.archive_forms_values.proofs.Claimed.{misplaced}
use Rattle.archive_forms_values.proofs.Claiming.{claim_refused, claim_pushed}
use Rattle.archive_hash_maps.proofs.BucketChecks.{buckets_astray, buckets_claimed}
use Rattle.archive_hash_maps.proofs.checking.buckets.claim_buckets.Goals as goal

pub returns-then-target-below : goal.returns-then-target-below
returns-then-target-below g c other =
    buckets_astray c.args.target c.args.capacity g.T.Portable.shape _ c.table_size-size.result (omega (arith, c.if-target-below.true, c.buckets_size-below.ensures)) c.table_size-size.ensures

pub returns-in_err-check_subtree_ptr : goal.returns-in_err-check_subtree_ptr
returns-in_err-check_subtree_ptr g c =
    let told = c.check_subtree_ptr.ensures in
    let size = c.args.capacity * size_of g.T.Portable.shape + control_count c.args.capacity in
    buckets_claimed c.args.target c.args.capacity g.T.Portable.shape _ _ _ c.buckets_size-below.result c.ALIGN.result
    c.buckets_size-below.ensures c.if-target-below.false c.requires.target (c.ALIGN.ensures ∙ g.met.T.Portable.aligned)
    (claim_refused _ _ (record { start = c.args.target - c.buckets_size-below.result; size = size; align = c.ALIGN.result }) _ c.in_err-check_subtree_ptr.field-0.0 (search rules)
    (misplaced _ (record { start = c.args.target - c.buckets_size-below.result; size = size; align = c.ALIGN.result }) c.table_size-size.result c.ALIGN.result c.check_subtree_ptr.result _
    c.table_size-size.ensures refl c.requires.end told.outside told.unaligned told.accepted c.in_err-check_subtree_ptr.was))

pub returns : goal.returns
returns g c =
    let size = c.args.capacity * size_of g.T.Portable.shape + control_count c.args.capacity in
    buckets_claimed c.args.target c.args.capacity g.T.Portable.shape _ _ c.push_subtree_range.result c.buckets_size-below.result c.ALIGN.result
    c.buckets_size-below.ensures c.if-target-below.false c.requires.target (c.ALIGN.ensures ∙ g.met.T.Portable.aligned)
    (claim_pushed _ _ (record { start = c.args.target - c.buckets_size-below.result; size = size; align = c.ALIGN.result }) c.table_size-size.result c.table_size-size.ensures c.requires.end
    (c.in_ok-check_subtree_ptr.ensures.claimable refl) c.push_subtree_range.result c.push_subtree_range.ensures)
