use Rattle.archive_bench.proofs.BtreeRead.{rest_there}
use Rattle.archive_bench.proofs.btree.reads.sum_range.Goals as goal

pub loop-key-preserved : goal.loop-key-preserved
loop-key-preserved c = rest_there _ _ _ c.in-Some.ensures.steps c.loop-key.invariant
