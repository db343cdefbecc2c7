use Rattle.std.proofs.Common.{rules}
use Rattle.archive_hash_probing.proofs.places.strides.pass_stop.Goals as goal

pub returns-then-further-ring-clause-position : goal.returns-then-further-ring-clause-position
returns-then-further-ring-clause-position c = search rules

pub returns-else-further-ring-clause-position : goal.returns-else-further-ring-clause-position
returns-else-further-ring-clause-position c = search rules
