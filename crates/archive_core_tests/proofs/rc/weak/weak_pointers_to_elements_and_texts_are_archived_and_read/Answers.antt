use Rattle.std.proofs.Common.{[]}
use Rattle.archive_core_tests.proofs.rc.weak.weak_pointers_to_elements_and_texts_are_archived_and_read.Goals as goal

pub from_bytes-requires : goal.from_bytes-requires
from_bytes-requires g c = record { named = ([], (tt, tt)) }
