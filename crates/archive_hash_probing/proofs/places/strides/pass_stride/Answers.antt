use Rattle.std.proofs.Common.{◌∙◌, ◌∷◌, sym}
use Rattle.archive_hash_probing.specs.Stops.{strides_left}
use Rattle.archive_hash_probing.proofs.StopLemmas.{stop_behind, left_taken, left_skipped, left_none}
use Rattle.archive_hash_probing.proofs.places.strides.pass_stride.Goals as goal

pub returns-then-position-end-clause-stop : goal.returns-then-position-end-clause-stop
returns-then-position-end-clause-stop c =
    let e = c.pass_stop.ensures in stop_behind _ _ _ _ _ _ c.loop-stop.invariant.0 c.loop-stop-test.true e.position e.passed e.count

pub returns-then-position-end-clause-gives : goal.returns-then-position-end-clause-gives
returns-then-position-end-clause-gives c =
    let e = c.pass_stop.ensures in
    let s = c.loop-stop.stop in
    sym c.loop-stop.invariant.1 ∙ left_taken c.args.end s.count s.passed s.position c.loop-stop-test.true c.if-position-end.true
    ∙ (λ i. s.position ∷ strides_left c.args.end (sym e.count i) (sym e.passed i) (sym e.position i))

pub loop-stop-preserved : goal.loop-stop-preserved
loop-stop-preserved c =
    let e = c.pass_stop.ensures in
    let s = c.loop-stop.stop in (
      stop_behind _ _ _ _ _ _ c.loop-stop.invariant.0 c.loop-stop-test.true e.position e.passed e.count,
      (λ i. strides_left c.args.end (e.count i) (e.passed i) (e.position i))
          ∙ sym (left_skipped c.args.end s.count s.passed s.position c.loop-stop-test.true c.if-position-end.false) ∙ c.loop-stop.invariant.1,
    )

pub returns-clause-gives : goal.returns-clause-gives
returns-clause-gives c =
    let s = c.loop-stop.stop in
    let none = left_none c.args.end s.count s.passed s.position c.loop-stop-test.false in
    (sym c.loop-stop.invariant.1 ∙ none, none)
