use Rattle.std.proofs.Common.{arith}
use Rattle.std.proofs.lemmas.Grind.{common_steps}
use Rattle.archive_shape_layout.proofs.NumberReading.{truth_reads, only_set}
use Rattle.archive_shape.proofs.types.truth.BoolArchivedLeaf.store.Goals as goal

pub returns-clause-value : goal.returns-clause-value
returns-clause-value c = let only = only_set c.args.out.now c.if-native.out c.requires in truth_reads _ _ (grind (arith, common_steps))
