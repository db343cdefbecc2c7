use Rattle.std.proofs.Common.{arith}
use Rattle.std.proofs.lemmas.Grind.{common_steps}
use Rattle.archive_shape_layout.proofs.writer.VecU8Writer.counts.Goals as goal

pub returns : goal.returns
returns c = grind (arith, common_steps)
