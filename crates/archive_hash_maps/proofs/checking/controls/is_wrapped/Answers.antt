use Rattle.std.proofs.Common.{rules}
use Rattle.archive_hash_maps.proofs.checking.controls.is_wrapped.Goals as goal

pub returns-else-index-capacity : goal.returns-else-index-capacity
returns-else-index-capacity c = search rules
