use Rattle.std.proofs.Common.{ℕ, ◌+◌, ◌<◌, ◌≤◌, Bool, cond, List, length, set, subst, arith, lt-ltb, le-ltb, length-set}
use Rattle.archive_hash_probing.specs.Controls.{AreControls}
use Rattle.archive_hash_probing.proofs.FirstFits.{kept_controls}
use Rattle.archive_hash_probing.proofs.Wrapping.{count_of}
use Rattle.archive_hash_probing.proofs.places.fitting.insert.Goals as goal

pub bounds-controls-place : goal.bounds-controls-place
bounds-controls-place g c = omega (arith, c.in_ok-place.ensures.bound, count_of c.args.controls.now c.args.capacity c.requires.controls)

pub returns-then-place-capacity-clause-controls : goal.returns-then-place-capacity-clause-controls
returns-then-place-capacity-clause-controls g c =
    let cs : List ℕ = c.args.controls.now in
    let cap : ℕ = c.args.capacity in
    let place : ℕ = c.in_ok-place.place in
    let tag : ℕ = c.tag_of-tag.result in
    let more : place + cap < length cs = omega (arith, c.if-place-capacity.true, length-set cs place tag) in
    subst (λ (b : Bool). AreControls (cond b (set (set cs place tag) (place + cap) tag) (set cs place tag)) cap) (lt-ltb _ _ more)
    (kept_controls cs cap place tag c.in_ok-place.ensures.bound c.requires.controls)

pub returns-else-place-capacity-clause-controls : goal.returns-else-place-capacity-clause-controls
returns-else-place-capacity-clause-controls g c =
    let cs : List ℕ = c.args.controls.now in
    let cap : ℕ = c.args.capacity in
    let place : ℕ = c.in_ok-place.place in
    let tag : ℕ = c.tag_of-tag.result in
    let none : length cs ≤ place + cap = omega (arith, c.if-place-capacity.false, length-set cs place tag) in
    subst (λ (b : Bool). AreControls (cond b (set (set cs place tag) (place + cap) tag) (set cs place tag)) cap) (le-ltb _ _ none)
    (kept_controls cs cap place tag c.in_ok-place.ensures.bound c.requires.controls)
