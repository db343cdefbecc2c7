use Rattle.archive_bench.proofs.HashRead.{first_there, rest_there}
use Rattle.archive_bench.proofs.hash.reads.sum_entries.Goals as goal

pub weight-sum-requires-clause-key : goal.weight-sum-requires-clause-key
weight-sum-requires-clause-key c = (first_there _ _ _ c.in-Some.ensures.steps c.loop-key.invariant).0

pub weight-sum-requires-clause-value : goal.weight-sum-requires-clause-value
weight-sum-requires-clause-value c = (first_there _ _ _ c.in-Some.ensures.steps c.loop-key.invariant).1

pub loop-key-preserved : goal.loop-key-preserved
loop-key-preserved c = rest_there _ _ _ c.in-Some.ensures.steps c.loop-key.invariant
