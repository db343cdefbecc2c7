use Rattle.std.proofs.Common.{sym}
use Rattle.archive_shape_layout.proofs.NumberReading.{byte_reads, only_set}
use Rattle.archive_shape.proofs.types.byte.U8ArchivedLeaf.store.Goals as goal

pub returns-clause-value : goal.returns-clause-value
returns-clause-value c = byte_reads _ _ (sym (only_set _ _ c.requires))
