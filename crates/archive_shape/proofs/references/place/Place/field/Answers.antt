use Rattle.std.proofs.Common.{rules}
use Rattle.archive_shape.proofs.references.place.Place.field.Goals as goal

pub returns-clause-start : goal.returns-clause-start
returns-clause-start g c = search rules
