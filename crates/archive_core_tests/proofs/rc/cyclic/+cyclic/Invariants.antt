use Rattle.std.proofs.Common.{◌+◌, ◌*◌}
use Rattle.archive_core_tests.proofs.rc.cyclic.+cyclic.Given as goal

abbrev pub decreases-check_loop : goal.decreases-check_loop
decreases-check_loop g l = 2 * l.room + 1

abbrev pub decreases-check_rc_each : goal.decreases-check_rc_each
decreases-check_rc_each g l = 2 * l.room
