use Rattle.std.proofs.Common.{rules}
use Rattle.archive_forms_values.proofs.boxed.boxed_slice.ArchivedBoxedSliceCheckBytes.check.Goals as goal

pub check_boxed_slice_each-requires-clause-checks : goal.check_boxed_slice_each-requires-clause-checks
check_boxed_slice_each-requires-clause-checks g c = search rules
