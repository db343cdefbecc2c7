use Rattle.std.proofs.Common.{rules}
use Rattle.archive_shape.proofs.references.layout_raw.SliceLayoutRaw.layout_raw.Goals as goal

pub returns-in-Some : goal.returns-in-Some
returns-in-Some g c = search rules
