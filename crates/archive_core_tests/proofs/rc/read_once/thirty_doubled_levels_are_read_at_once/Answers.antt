use Rattle.std.proofs.Common.{[], ◌∷◌, refl}
use Rattle.archive_core_tests.specs.Towers.{tower_body}
use Rattle.archive_core_tests.proofs.rc.read_once.thirty_doubled_levels_are_read_at_once.Goals as goal

pub from_bytes-requires : goal.from_bytes-requires
from_bytes-requires g c = record { named = ((2, tower_body) ∷ [], refl) }
