use Rattle.std.proofs.Common.{[]}
use Rattle.archive_core_tests.proofs.rc.read_once.fields_of_a_tuple_share_by_their_keys_alone.Goals as goal

pub archived_and_read-requires : goal.archived_and_read-requires
archived_and_read-requires g c = record { named = ([], (tt, tt)) }
