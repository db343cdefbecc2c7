use Rattle.std.proofs.Common.{All, sym, subst}
use Rattle.archive_btree_maps.specs.Refs.{IsThere}
use Rattle.archive_btree_maps.proofs.Runs.{all_there}
use Rattle.archive_bench.specs.BtreeTexts.{text_shape, number_shape, known}
use Rattle.archive_bench.proofs.BtreeRead.{first_there, rest_there}
use Rattle.archive_bench.proofs.btree.reads.sum_entries.Goals as goal

pub loop-key-init : goal.loop-key-init
loop-key-init c =
    subst (All (IsThere text_shape number_shape known known)) (sym c.into_iter-key-iterator.ensures.into_iter_gives)
    (all_there _ _ text_shape number_shape known known c.args.root.bytes 5 c.args.root.pos c.requires c.iter-key-items.result c.iter-key-items.ensures)

pub weight-sum-requires-clause-key : goal.weight-sum-requires-clause-key
weight-sum-requires-clause-key c = (first_there _ _ _ c.in-Some.ensures.steps c.loop-key.invariant).0

pub weight-sum-requires-clause-value : goal.weight-sum-requires-clause-value
weight-sum-requires-clause-value c = (first_there _ _ _ c.in-Some.ensures.steps c.loop-key.invariant).1

pub loop-key-preserved : goal.loop-key-preserved
loop-key-preserved c = rest_there _ _ _ c.in-Some.ensures.steps c.loop-key.invariant
