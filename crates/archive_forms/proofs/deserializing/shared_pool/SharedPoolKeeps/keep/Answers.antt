use Rattle.std.proofs.Common.{rules}
use Rattle.archive_forms.proofs.deserializing.shared_pool.SharedPoolKeeps.keep.Goals as goal

pub returns-in-Ok-clause-kept : goal.returns-in-Ok-clause-kept
returns-in-Ok-clause-kept g c = search rules

pub returns-in-Ok-clause-of : goal.returns-in-Ok-clause-of
returns-in-Ok-clause-of g c = search rules
