use Rattle.std.proofs.Common.{rules}
use Rattle.archive_forms_values.proofs.lending.lend_entry.Goals as goal

pub returns : goal.returns
returns g c = search rules
