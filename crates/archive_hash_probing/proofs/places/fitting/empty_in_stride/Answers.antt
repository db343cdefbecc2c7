use Rattle.std.proofs.Common.{◌∙◌, sym, ap, arith, map, Some}
use Rattle.archive_shape_canonical.specs.Reach.{is_empty, shown}
use Rattle.archive_hash_probing.proofs.FirstFree.{long_marks, lane_low, find_none, find_lane, find_behind}
use Rattle.archive_hash_probing.proofs.Wrapping.{wraps_of, count_of}
use Rattle.archive_hash_probing.proofs.places.fitting.empty_in_stride.Goals as goal

pub returns-in_err-lane : goal.returns-in_err-lane
returns-in_err-lane g c =
    let cs = c.args.controls.now in
    let w = wraps_of cs c.args.capacity c.requires.controls in
    let none = c.in_err-lane.ensures (map is_empty (shown cs c.args.position)) (long_marks cs c.args.capacity c.args.position w c.requires.within) c.stride_empties.ensures in
    c.from_residual.ensures ∙ sym (find_none cs c.args.capacity c.args.position w c.requires.within (sym none))

pub overflow_add-control : goal.overflow_add-control
overflow_add-control g c =
    let cs = c.args.controls.now in
    let w = wraps_of cs c.args.capacity c.requires.controls in
    let lane = c.in_ok-lane.ensures (map is_empty (shown cs c.args.position)) (long_marks cs c.args.capacity c.args.position w c.requires.within) c.stride_empties.ensures in
    record { fits = omega (arith, c.requires.small, c.requires.within, count_of cs c.args.capacity c.requires.controls, lane_low cs c.args.capacity c.args.position w c.requires.within _ lane) }

pub returns-then-control-capacity : goal.returns-then-control-capacity
returns-then-control-capacity g c =
    let cs = c.args.controls.now in
    let w = wraps_of cs c.args.capacity c.requires.controls in
    let lane = c.in_ok-lane.ensures (map is_empty (shown cs c.args.position)) (long_marks cs c.args.capacity c.args.position w c.requires.within) c.stride_empties.ensures in
    ap Some c.place_of.ensures.value ∙ sym (find_lane cs c.args.capacity c.args.position w c.requires.within _ lane c.if-control-capacity.true)

pub returns-else-control-capacity : goal.returns-else-control-capacity
returns-else-control-capacity g c =
    let cs = c.args.controls.now in
    let w = wraps_of cs c.args.capacity c.requires.controls in
    let lane = c.in_ok-lane.ensures (map is_empty (shown cs c.args.position)) (long_marks cs c.args.capacity c.args.position w c.requires.within) c.stride_empties.ensures in
    sym (find_behind cs c.args.capacity c.args.position w c.requires.within _ lane c.if-control-capacity.false)
