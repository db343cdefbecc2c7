use Rattle.std.proofs.Common.{[]}
use Rattle.archive_hash_tests.proofs.lending.counted.Goals as goal

pub from_bytes-requires : goal.from_bytes-requires
from_bytes-requires c = record { named = ([], (tt, tt)) }
