use Rattle.std.proofs.Common.{rules}
use Rattle.archive_forms_values.proofs.tuples.tuple4.ArchivedTuple4Portable.shape.Goals as goal

pub returns : goal.returns
returns g c = search rules
