use Rattle.archive_shape_layout.proofs.Readable.{legal_is_readable_law}
use Rattle.archive_shape.proofs.types.laws.legal_is_readable.Goals as goal

pub returns : goal.returns
returns c = legal_is_readable_law
