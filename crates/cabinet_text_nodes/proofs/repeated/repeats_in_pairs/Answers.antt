use Rattle.std.proofs.Common.{refl}
use Rattle.cabinet_text_nodes.proofs.Twice.{placed_twice, unplaced_once}
use Rattle.cabinet_text_nodes.proofs.repeated.repeats_in_pairs.Goals as goal

pub returns-then-is_some : goal.returns-then-is_some
returns-then-is_some c = (
  λ _. placed_twice c.args.pairs.now c.loop-place.place c.index-pairs-place.result c.as_str.result.now c.place_of.result c.loop-place-test.true c.index-pairs-place.is c.as_str.ensures.value c.place_of.ensures.place c.if-is_some.ensures,
  λ _. refl,
)

pub loop-place-preserved : goal.loop-place-preserved
loop-place-preserved c =
    unplaced_once c.args.pairs.now c.loop-place.place c.index-pairs-place.result c.as_str.result.now c.place_of.result c.loop-place-test.true c.index-pairs-place.is c.as_str.ensures.value c.place_of.ensures.place c.if-is_some.ensures c.loop-place.invariant
