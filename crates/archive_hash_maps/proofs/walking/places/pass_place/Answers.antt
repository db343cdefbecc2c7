use Rattle.std.proofs.Common.{◌∙◌, refl, sym, arith}
use Rattle.archive_hash_maps.proofs.Walked.{place_taken, place_skipped, places_passed}
use Rattle.archive_hash_maps.proofs.walking.places.pass_place.Goals as goal

pub loop-next-init : goal.loop-next-init
loop-next-init c = (c.requires.next, refl)

pub returns-then-controls-place-lt128-clause-gives : goal.returns-then-controls-place-lt128-clause-gives
returns-then-controls-place-lt128-clause-gives c =
    sym c.loop-next.invariant.1 ∙ place_taken c.args.controls.now c.args.capacity c.loop-next.next c.loop-next-test.true c.if-controls-place-lt128.true

pub loop-next-preserved : goal.loop-next-preserved
loop-next-preserved c =
    (omega (arith, c.loop-next-test.true), sym (place_skipped c.args.controls.now c.args.capacity c.loop-next.next c.loop-next-test.true c.if-controls-place-lt128.false) ∙ c.loop-next.invariant.1)

pub returns-clause-next : goal.returns-clause-next
returns-clause-next c = c.loop-next.invariant.0

pub returns-clause-gives : goal.returns-clause-gives
returns-clause-gives c =
    let none = places_passed c.args.controls.now c.args.capacity c.loop-next.next c.loop-next-test.false in
    (sym c.loop-next.invariant.1 ∙ none, none)
