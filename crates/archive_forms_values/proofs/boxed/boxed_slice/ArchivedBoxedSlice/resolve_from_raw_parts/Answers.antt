use Rattle.std.proofs.Common.{rules}
use Rattle.archive_forms_values.proofs.boxed.boxed_slice.ArchivedBoxedSlice.resolve_from_raw_parts.Goals as goal

pub returns : goal.returns
returns g c = search rules
