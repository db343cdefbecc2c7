use Rattle.std.proofs.Common.{All}
use Rattle.archive_btree_maps.specs.Refs.{IsThere}
use Rattle.archive_bench.specs.BtreeTexts.{text_shape, number_shape, known}
use Rattle.archive_bench.proofs.btree.reads.sum_range.Given as goal

-- values lie at the entries that are left
abbrev pub invariant-loop-key : goal.invariant-loop-key
invariant-loop-key l = All (IsThere text_shape number_shape known known) l.key-iterator
