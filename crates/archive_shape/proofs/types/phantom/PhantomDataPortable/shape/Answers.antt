use Rattle.std.proofs.Common.{rules}
use Rattle.archive_shape.proofs.types.phantom.PhantomDataPortable.shape.Goals as goal

pub returns : goal.returns
returns g c = search rules
