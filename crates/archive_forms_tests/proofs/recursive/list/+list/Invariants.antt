use Rattle.std.proofs.Common.{◌+◌, ◌*◌}
use Rattle.archive_forms_tests.proofs.recursive.list.+list.Given as goal

abbrev pub decreases-check_list : goal.decreases-check_list
decreases-check_list g l = 3 * l.room + 2

abbrev pub decreases-check_option_each : goal.decreases-check_option_each
decreases-check_option_each g l = 3 * l.room + 1

abbrev pub decreases-check_option_each-check_box_each : goal.decreases-check_option_each-check_box_each
decreases-check_option_each-check_box_each g l = 3 * l.room
