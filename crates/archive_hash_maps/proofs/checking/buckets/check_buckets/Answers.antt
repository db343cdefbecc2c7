use Rattle.std.proofs.Common.{◌≡◌, rules, arith, length, length-take, Err}
use Rattle.archive_shape_layout.specs.Content.{item}
use Rattle.archive_shape.specs.Kept.{range_of}
use Rattle.archive_forms_values.proofs.Claimed.{last_push, pushed_within}
use Rattle.archive_forms_values.proofs.Claiming.{pushes_of}
use Rattle.archive_hash_maps.specs.Buckets.{AreClaimed}
use Rattle.archive_hash_maps.proofs.TableParts.{popped_moves, places_first, claimed_fits, claimed_narrow, buckets_unclaimed, controls_refused, items_refused, items_accepted}
use Rattle.archive_hash_maps.proofs.checking.buckets.check_buckets.Goals as goal

pub returns-in_err-range-clause-exact : goal.returns-in_err-range-clause-exact
returns-in_err-range-clause-exact g c names known =
    buckets_unclaimed names c.args.bytes.now c.args.target c.args.len c.args.capacity (item g.T.Portable.shape) (g.C.ArchiveContext.kept c.args.context.now) _ _ c.in_err-range.field-0.0 (search rules) c.in_err-range.ensures

pub controls_at-controls-requires-clause-fits : goal.controls_at-controls-requires-clause-fits
controls_at-controls-requires-clause-fits g c =
    claimed_fits c.args.target c.args.capacity (item g.T.Portable.shape) (c.in_ok-range.ensures) _ c.requires.range

pub check_tags-requires : goal.check_tags-requires
check_tags-requires g c =
    let first = places_first c.args.capacity in
    omega (arith, c.controls_at-controls.ensures.count)

pub slice_bounds-check_items-end : goal.slice_bounds-check_items-end
slice_bounds-check_items-end g c =
    let first = places_first c.args.capacity in
    omega (arith, c.controls_at-controls.ensures.count, length-take c.args.capacity c.controls_at-controls.result.now)

pub returns-in_err-check_tags-clause-exact : goal.returns-in_err-check_tags-clause-exact
returns-in_err-check_tags-clause-exact g c names known =
    controls_refused names c.args.bytes.now c.args.target c.args.len c.args.capacity (item g.T.Portable.shape) (c.in_ok-range.ensures) c.controls_at-controls.result.now c.controls_at-controls.ensures.bytes
    _ _ c.in_err-check_tags.field-0.0 (search rules) (c.in_err-check_tags.ensures (range_of (g.C.ArchiveContext.kept c.args.context.now)))

pub check_items-requires-clause-fits : goal.check_items-requires-clause-fits
check_items-requires-clause-fits g c =
    let fits = claimed_fits c.args.target c.args.capacity (item g.T.Portable.shape) (c.in_ok-range.ensures) (length c.args.bytes.now) c.requires.range in
    omega (arith, fits)

pub check_items-requires-clause-takes : goal.check_items-requires-clause-takes
check_items-requires-clause-takes g c context pos narrower fits =
    c.requires.takes context pos
    (claimed_narrow c.args.target c.args.capacity (item g.T.Portable.shape) (c.in_ok-range.ensures) _ c.requires.some (omega (arith, g.met.T.Portable.sized)) _ narrower) fits

pub returns-in_err-check_items-clause-exact : goal.returns-in_err-check_items-clause-exact
returns-in_err-check_items-clause-exact g c names known =
    items_refused names c.args.bytes.now c.args.target c.args.len c.args.capacity (item g.T.Portable.shape) (c.in_ok-range.ensures) c.controls_at-controls.result.now c.controls_at-controls.ensures.bytes
    (c.in_ok-check_tags.ensures (range_of (g.C.ArchiveContext.kept c.args.context.now)))
    (g.C.ArchiveContext.kept c.check_items.new.context) (g.C.ArchiveContext.kept c.check_items.new.context) _ c.in_err-check_items.field-0.0 (search rules) (c.in_err-check_items.ensures.exact names known)

pub returns-in_err-range-clause-moves : goal.returns-in_err-range-clause-moves
returns-in_err-range-clause-moves g c =
    let passed : c.from_residual.result ≡ Err c.in_err-range.field-0.0 = search rules in
    rw passed tt

pub returns-in_err-check_tags-clause-moves : goal.returns-in_err-check_tags-clause-moves
returns-in_err-check_tags-clause-moves g c =
    let passed : c.from_residual-in_err-check_tags.result ≡ Err c.in_err-check_tags.field-0.0 = search rules in
    rw passed tt

pub returns-in_err-check_items-clause-moves : goal.returns-in_err-check_items-clause-moves
returns-in_err-check_items-clause-moves g c =
    let passed : c.from_residual-in_err-check_items.result ≡ Err c.in_err-check_items.field-0.0 = search rules in
    rw passed tt

pub check_items-requires-clause-range : goal.check_items-requires-clause-range
check_items-requires-clause-range g c =
    let claim : AreClaimed c.args.target c.args.capacity _ _ c.in_ok-range.range _ = c.in_ok-range.ensures in
    pushed_within (pushes_of claim.claimed) _ c.requires.range

pub check_items-requires-clause-checks : goal.check_items-requires-clause-checks
check_items-requires-clause-checks g c = c.requires.checks

pub returns-clause-moves : goal.returns-clause-moves
returns-clause-moves g c =
    let claim : AreClaimed c.args.target c.args.capacity _ _ c.in_ok-range.range _ = c.in_ok-range.ensures in
    let push = pushes_of claim.claimed in
    let moves = c.in_ok-check_items.ensures.moves in
    let again = c.pop_subtree_range.ensures.last _ (last_push push _ moves) in
    popped_moves push _ _ c.pop_subtree_range.result moves again.1

pub returns-clause-exact : goal.returns-clause-exact
returns-clause-exact g c names known =
    let checks = c.in_ok-check_items.ensures in
    let claim : AreClaimed c.args.target c.args.capacity _ _ c.in_ok-range.range _ = c.in_ok-range.ensures in
    let again = c.pop_subtree_range.ensures.last _ (last_push (pushes_of claim.claimed) _ checks.moves) in
    items_accepted names c.args.bytes.now c.args.target c.args.len c.args.capacity (item g.T.Portable.shape) claim c.controls_at-controls.result.now c.controls_at-controls.ensures.bytes
    (c.in_ok-check_tags.ensures (range_of (g.C.ArchiveContext.kept c.args.context.now)))
    _ _ _ again.0 (checks.exact names known) checks.moves again.1
