use Rattle.std.proofs.Common.{rules}
use Rattle.archive_shape.proofs.pointers.raw_pointer.RawRelPtr.is_invalid.Goals as goal

pub returns : goal.returns
returns g c = search rules
