use Rattle.std.proofs.Common.{[]}
use Rattle.archive_core_tests.proofs.rc.weak.the_value_of_one_key_stands_once_and_those_of_two_apart.Goals as goal

pub from_bytes-requires : goal.from_bytes-requires
from_bytes-requires g c = record { named = ([], (tt, tt)) }
