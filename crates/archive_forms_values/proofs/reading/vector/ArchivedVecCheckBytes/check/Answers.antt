use Rattle.std.proofs.Common.{rules}
use Rattle.archive_forms_values.proofs.reading.vector.ArchivedVecCheckBytes.check.Goals as goal

pub check_vec_each-requires-clause-checks : goal.check_vec_each-requires-clause-checks
check_vec_each-requires-clause-checks g c = search rules
