use Rattle.std.proofs.Common.{rules}
use Rattle.archive_hash.proofs.serialize_set.KeyEntriesIterator.next.Goals as goal

pub returns-clause-steps : goal.returns-clause-steps
returns-clause-steps g c = search rules
