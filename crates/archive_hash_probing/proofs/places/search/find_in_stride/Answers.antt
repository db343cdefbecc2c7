use Rattle.std.proofs.Common.{◌≡◌, ℕ, ◌+◌, ◌<◌, false, length, get_or, subst, arith, rules}
use Rattle.archive_hash_probing.proofs.InStride.{pending_first, pending_next, pending_found, pending_none, few_marks, lane_within, lane_full, fewer_left, full_below, place_of}
use Rattle.archive_hash_probing.proofs.Wrapping.{wraps_of}
use Rattle.archive_hash_probing.proofs.places.search.find_in_stride.Goals as goal
use Rattle.archive_hash_probing.proofs.places.search.find_in_stride.Goals.{then-controls-position+else-accepts, else-controls-position}

pub loop-lane-init : goal.loop-lane-init
loop-lane-init g c =
    let m = c.stride_matches-marks.ensures in
    (m.0, pending_first _ c.args.controls.now c.args.capacity c.args.tag c.args.position m.0 _ c.requires.within m.1 m.2)

pub place_of-place-requires-clause-below : goal.place_of-place-requires-clause-below
place_of-place-requires-clause-below g c =
    let cs = c.args.controls.now in
    let h = c.loop-lane.invariant in
    let low = c.in-Some.ensures h.0 (few_marks _ cs c.args.capacity c.args.tag c.args.position h.0 _ h.1) h.1.same in
    let within : c.in-Some.lane < 16 = lane_within _ cs c.args.capacity c.args.tag c.args.position h.0 _ h.1 _ low in
    full_below cs c.args.capacity _ (wraps_of cs c.args.capacity c.requires.controls) (omega (arith, c.requires.within, within)) (lane_full _ cs c.args.capacity c.args.tag c.args.position h.0 _ h.1 _ low)

pub accepts-requires : goal.accepts-requires
accepts-requires g c =
    let cs = c.args.controls.now in
    let h = c.loop-lane.invariant in
    let w = wraps_of cs c.args.capacity c.requires.controls in
    let low = c.in-Some.ensures h.0 (few_marks _ cs c.args.capacity c.args.tag c.args.position h.0 _ h.1) h.1.same in
    let lane : c.in-Some.lane < 16 = lane_within _ cs c.args.capacity c.args.tag c.args.position h.0 _ h.1 _ low in
    let within : c.args.position + c.in-Some.lane < length cs = omega (arith, c.requires.within, lane) in
    let full = lane_full _ cs c.args.capacity c.args.tag c.args.position h.0 _ h.1 _ low in
    let below = full_below cs c.args.capacity _ w within full in
    let same = place_of cs c.args.capacity _ c.place_of-place.result w within below c.place_of-place.ensures.value in
    let there : get_or cs c.place_of-place.result 0 < 128 = omega (arith, same, full) in
    let may = c.requires.callable c.place_of-place.result c.place_of-place.ensures.bound there in
    search rules

pub returns-then-accepts : goal.returns-then-accepts
returns-then-accepts g c =
    let cs = c.args.controls.now in
    let h = c.loop-lane.invariant in
    let low = c.in-Some.ensures h.0 (few_marks _ cs c.args.capacity c.args.tag c.args.position h.0 _ h.1) h.1.same in
    pending_found _ cs c.args.capacity c.args.tag c.args.position h.0 _ h.1 _ low _ _ c.place_of-place.ensures.value c.if-controls-position.true c.if-accepts.ensures

pub loop-lane-smaller : goal.loop-lane-smaller
loop-lane-smaller g c =
    let cs = c.args.controls.now in
    let h = c.loop-lane.invariant in
    let low = c.in-Some.ensures h.0 (few_marks _ cs c.args.capacity c.args.tag c.args.position h.0 _ h.1) h.1.same in
    fewer_left _ cs c.args.capacity c.args.tag c.args.position h.0 _ h.1 _ low _ (c.remove_lowest_bit-marks.ensures h.0 h.1.same)

pub loop-lane-preserved : goal.loop-lane-preserved
loop-lane-preserved g c =
    let cs = c.args.controls.now in
    let h = c.loop-lane.invariant in
    let low = c.in-Some.ensures h.0 (few_marks _ cs c.args.capacity c.args.tag c.args.position h.0 _ h.1) h.1.same in (
      _,
      pending_next _ cs c.args.capacity c.args.tag c.args.position h.0 _ h.1 _ low _ (λ same. elim c.if-controls-position.branch [
        | then-controls-position+else-accepts w ↦ subst (λ (x : ℕ). goal.F-post g c.args.accepts.now x false) w.place_of-place.ensures.value w.if-accepts.ensures
        | else-controls-position w ↦ absurd (w.if-controls-position.false same)
      ]) (c.remove_lowest_bit-marks.ensures h.0 h.1.same),
    )

pub returns : goal.returns
returns g c =
    let cs = c.args.controls.now in
    let h = c.loop-lane.invariant in
    let none = c.in_default.ensures h.0 (few_marks _ cs c.args.capacity c.args.tag c.args.position h.0 _ h.1) h.1.same in
    pending_none _ cs c.args.capacity c.args.tag c.args.position h.0 _ h.1 (λ (p : ℕ). p ≡ p) none
