use Rattle.std.proofs.Common.{rules}
use Rattle.archive_forms_values.proofs.reading.result.ArchivedResultPortable.shape.Goals as goal

pub returns : goal.returns
returns g c = search rules
