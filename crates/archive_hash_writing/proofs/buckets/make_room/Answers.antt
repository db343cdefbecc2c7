use Rattle.std.proofs.Common.{rules}
use Rattle.archive_hash_writing.proofs.buckets.make_room.Goals as goal

pub returns : goal.returns
returns g c = search rules
