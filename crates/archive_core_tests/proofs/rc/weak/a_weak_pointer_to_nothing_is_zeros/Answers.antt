use Rattle.std.proofs.Common.{[]}
use Rattle.archive_core_tests.proofs.rc.weak.a_weak_pointer_to_nothing_is_zeros.Goals as goal

pub from_bytes-requires : goal.from_bytes-requires
from_bytes-requires g c = record { named = ([], tt) }
