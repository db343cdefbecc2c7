use Rattle.std.proofs.Common.{rules, arith, length, length-take}
use Rattle.archive_shape_layout.specs.Content.{place}
use Rattle.archive_shape.specs.Kept.{range_of, Advances}
use Rattle.archive_forms_values.proofs.Claimed.{last_push}
use Rattle.archive_forms_values.proofs.Claiming.{pushes_of}
use Rattle.archive_hash_maps.specs.Buckets.{AreClaimed}
use Rattle.archive_hash_maps.proofs.NumberChecks.{numbers_claimed, numbers_unclaimed}
use Rattle.archive_hash_maps.proofs.TableParts.{places_first, claimed_fits, claimed_stays, buckets_unclaimed, controls_refused, items_refused, items_accepted}
use Rattle.archive_hash_maps.proofs.checking.places.check_place_buckets.Goals as goal

pub returns-in_err-range-clause-exact : goal.returns-in_err-range-clause-exact
returns-in_err-range-clause-exact g c names =
    buckets_unclaimed names c.args.bytes.now c.args.target c.args.len c.args.capacity (place c.args.len) _ _ _ c.in_err-range.field-0.0 (search rules)
    (λ other. numbers_unclaimed c.args.target c.args.capacity c.args.len (c.in_err-range.ensures other))

pub controls_at-controls-requires-clause-fits : goal.controls_at-controls-requires-clause-fits
controls_at-controls-requires-clause-fits g c =
    claimed_fits c.args.target c.args.capacity (place c.args.len) (numbers_claimed c.args.target c.args.capacity c.args.len (c.in_ok-range.ensures)) _ c.requires.range

pub check_tags-requires : goal.check_tags-requires
check_tags-requires g c =
    let first = places_first c.args.capacity in
    omega (arith, c.controls_at-controls.ensures.count)

pub slice_bounds-check_numbers-end : goal.slice_bounds-check_numbers-end
slice_bounds-check_numbers-end g c =
    let first = places_first c.args.capacity in
    omega (arith, c.controls_at-controls.ensures.count, length-take c.args.capacity c.controls_at-controls.result.now)

pub returns-in_err-check_tags-clause-exact : goal.returns-in_err-check_tags-clause-exact
returns-in_err-check_tags-clause-exact g c names =
    controls_refused names c.args.bytes.now c.args.target c.args.len c.args.capacity (place c.args.len) (numbers_claimed c.args.target c.args.capacity c.args.len (c.in_ok-range.ensures)) c.controls_at-controls.result.now c.controls_at-controls.ensures.bytes
    _ _ c.in_err-check_tags.field-0.0 (search rules) (c.in_err-check_tags.ensures (range_of (g.C.ArchiveContext.kept c.args.context.now)))

pub check_numbers-requires-clause-fits : goal.check_numbers-requires-clause-fits
check_numbers-requires-clause-fits g c =
    let fits = claimed_fits c.args.target c.args.capacity (place c.args.len) (numbers_claimed c.args.target c.args.capacity c.args.len (c.in_ok-range.ensures)) (length c.args.bytes.now) c.requires.range in
    omega (arith, fits)

pub returns-in_err-check_numbers-clause-exact : goal.returns-in_err-check_numbers-clause-exact
returns-in_err-check_numbers-clause-exact g c names =
    items_refused names c.args.bytes.now c.args.target c.args.len c.args.capacity (place c.args.len) (numbers_claimed c.args.target c.args.capacity c.args.len (c.in_ok-range.ensures)) c.controls_at-controls.result.now c.controls_at-controls.ensures.bytes
    (c.in_ok-check_tags.ensures (range_of (g.C.ArchiveContext.kept c.args.context.now)))
    (g.C.ArchiveContext.kept c.claim_buckets.new.context) _ _ c.in_err-check_numbers.field-0.0 (search rules) (c.in_err-check_numbers.ensures names (g.C.ArchiveContext.kept c.claim_buckets.new.context))

pub returns-clause-exact : goal.returns-clause-exact
returns-clause-exact g c names =
    let kept = g.C.ArchiveContext.kept c.claim_buckets.new.context in
    let claim : AreClaimed c.args.target c.args.capacity (place c.args.len) _ c.in_ok-range.range kept = numbers_claimed c.args.target c.args.capacity c.args.len (c.in_ok-range.ensures) in
    let stays : Advances kept kept = claimed_stays c.args.target c.args.capacity (place c.args.len) claim _ c.requires.range in
    let again = c.pop_subtree_range.ensures.last _ (last_push (pushes_of claim.claimed) _ stays) in
    items_accepted names c.args.bytes.now c.args.target c.args.len c.args.capacity (place c.args.len) claim c.controls_at-controls.result.now c.controls_at-controls.ensures.bytes
    (c.in_ok-check_tags.ensures (range_of (g.C.ArchiveContext.kept c.args.context.now)))
    kept _ _ again.0 (c.in_ok-check_numbers.ensures names kept) stays again.1
