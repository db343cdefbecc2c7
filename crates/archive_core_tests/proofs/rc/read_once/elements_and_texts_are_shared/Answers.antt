use Rattle.std.proofs.Common.{[]}
use Rattle.archive_core_tests.proofs.rc.read_once.elements_and_texts_are_shared.Goals as goal

pub archived_and_read-requires : goal.archived_and_read-requires
archived_and_read-requires g c = record { named = ([], (tt, tt)) }
