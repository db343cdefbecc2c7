use Rattle.std.proofs.Common.{◌+◌, ◌*◌}
use Rattle.archive_core_tests.proofs.rc.tower.+check.Given as goal

abbrev pub decreases-check_tower : goal.decreases-check_tower
decreases-check_tower g l = 4 * l.room + 3

abbrev pub decreases-check_tower-check_vec_each : goal.decreases-check_tower-check_vec_each
decreases-check_tower-check_vec_each g l = 4 * l.room + 2

abbrev pub decreases-check_pointer : goal.decreases-check_pointer
decreases-check_pointer g l = 4 * l.room + 1

abbrev pub decreases-check_pointer-check_rc_each : goal.decreases-check_pointer-check_rc_each
decreases-check_pointer-check_rc_each g l = 4 * l.room
