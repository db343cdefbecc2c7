use Rattle.std.proofs.Common.{◌+◌, ◌*◌}
use Rattle.archive_core_tests.proofs.rc.tower.+read.Given as goal

abbrev pub decreases-deserialize_tower : goal.decreases-deserialize_tower
decreases-deserialize_tower g l = 4 * l.pos + 3

abbrev pub decreases-deserialize_tower-deserialize_vec_each : goal.decreases-deserialize_tower-deserialize_vec_each
decreases-deserialize_tower-deserialize_vec_each g l = 4 * l.pos + 2

abbrev pub decreases-deserialize_pointer : goal.decreases-deserialize_pointer
decreases-deserialize_pointer g l = 4 * l.pos + 1

abbrev pub decreases-deserialize_pointer-deserialize_rc_each : goal.decreases-deserialize_pointer-deserialize_rc_each
decreases-deserialize_pointer-deserialize_rc_each g l = 4 * l.pos
