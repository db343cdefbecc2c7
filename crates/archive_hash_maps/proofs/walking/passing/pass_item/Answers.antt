use Rattle.std.proofs.Common.{◌∙◌, ◌+◌, ◌≤◌, ◌∷◌, length, sym, ap, arith}
use Rattle.archive_shape_layout.specs.Shape.{size_of}
use Rattle.archive_hash_maps.proofs.TableParts.{places_first}
use Rattle.archive_hash_maps.proofs.Roots.{controls_read}
use Rattle.archive_hash_maps.proofs.Passed.{has_places, read_again, goes_on, none_passed, first_item, items_within}
use Rattle.archive_hash_maps.proofs.walking.passing.pass_item.Goals as goal

pub pass_place-requires-clause-within : goal.pass_place-requires-clause-within
pass_place-requires-clause-within g c = let fits = places_first c.args.walk.now.capacity in omega (arith, c.controls_at-controls.ensures.count, fits)

pub returns-in_default-clause-steps : goal.returns-in_default-clause-steps
returns-in_default-clause-steps g c m ps goes written =
    let p = has_places m c.args.bytes.now c.args.walk.now ps goes c.if-walk-eq0.false written in
    let again = read_again m c.args.bytes.now c.args.walk.now ps goes p in
    let controls = c.controls_at-controls.ensures.bytes ∙ controls_read c.args.walk.now.target c.args.walk.now.capacity p again in
    absurd (c.if-walk-eq0.false (none_passed m c.args.walk.now ps c.controls_at-controls.result.now goes controls c.in_default.ensures.gives.0))

pub returns-clause-steps : goal.returns-clause-steps
returns-clause-steps g c m ps goes written =
    let p = has_places m c.args.bytes.now c.args.walk.now ps goes c.if-walk-eq0.false written in
    let again = read_again m c.args.bytes.now c.args.walk.now ps goes p in
    let controls = c.controls_at-controls.ensures.bytes ∙ controls_read c.args.walk.now.target c.args.walk.now.capacity p again in
    let s = goes_on m c.args.walk.now ps c.controls_at-controls.result.now c.in-Some.place c.pass_place.new.next goes controls c.in-Some.ensures.next c.in-Some.ensures.gives in
    (s.0, s.1 ∙ ap (λ at. at ∷ s.0) (sym c.position_of.ensures), s.2)

pub returns-clause-there : goal.returns-clause-there
returns-clause-there g c =
    let r = c.requires in
    let s = returns-clause-steps g c r.0 r.1 r.2 r.3 in
    let within = first_item r.0 (λ at. at + size_of g.T.Portable.shape ≤ length r.0.bytes) c.args.walk.now r.1 s.0 c.position_of.result r.2 s.1 (items_within r.0) in
    omega (arith, within, r.3.same_length, g.met.T.Portable.sized)
