use Rattle.std.proofs.Common.{◌+◌, ◌*◌}
use Rattle.archive_forms_tests.proofs.recursive.list.+read_list.Given as goal

abbrev pub decreases-deserialize_list : goal.decreases-deserialize_list
decreases-deserialize_list l = 4 * (l.pos + 8) + 3

abbrev pub decreases-deserialize_option_each : goal.decreases-deserialize_option_each
decreases-deserialize_option_each l = 4 * (l.pos + 8) + 2

abbrev pub decreases-deserialize_option_each-deserialize_box_each : goal.decreases-deserialize_option_each-deserialize_box_each
decreases-deserialize_option_each-deserialize_box_each l = 4 * (l.p + 4)
