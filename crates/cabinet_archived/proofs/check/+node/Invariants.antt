use Rattle.std.proofs.Common.{◌+◌, ◌*◌}
use Rattle.cabinet_archived.proofs.check.+node.Given as goal

abbrev pub decreases-check_node : goal.decreases-check_node
decreases-check_node g l = 8 * l.room + 7

abbrev pub decreases-check_maybe : goal.decreases-check_maybe
decreases-check_maybe g l = 8 * l.room + 4

abbrev pub decreases-check_maybe-check_option_each : goal.decreases-check_maybe-check_option_each
decreases-check_maybe-check_option_each g l = 8 * l.room + 3

abbrev pub decreases-check_boxed : goal.decreases-check_boxed
decreases-check_boxed g l = 8 * l.room + 2

abbrev pub decreases-check_boxed-check_box_each : goal.decreases-check_boxed-check_box_each
decreases-check_boxed-check_box_each g l = 8 * l.room + 1

abbrev pub decreases-check_list : goal.decreases-check_list
decreases-check_list g l = 8 * l.room + 4

abbrev pub decreases-check_list-check_vec_each : goal.decreases-check_list-check_vec_each
decreases-check_list-check_vec_each g l = 8 * l.room + 3

abbrev pub decreases-check_ordered : goal.decreases-check_ordered
decreases-check_ordered g l = 8 * l.room + 6

abbrev pub decreases-check_ordered-check_btree_each+arg5 : goal.decreases-check_ordered-check_btree_each+arg5
decreases-check_ordered-check_btree_each+arg5 g l = 8 * l.room + 5

abbrev pub decreases-check_hashed : goal.decreases-check_hashed
decreases-check_hashed g l = 8 * l.room + 6

abbrev pub decreases-check_hashed-check_table_each : goal.decreases-check_hashed-check_table_each
decreases-check_hashed-check_table_each g l = 8 * l.room + 5

abbrev pub decreases-check_kept : goal.decreases-check_kept
decreases-check_kept g l = 8 * l.room + 6

abbrev pub decreases-check_kept-check_index_map_each : goal.decreases-check_kept-check_index_map_each
decreases-check_kept-check_index_map_each g l = 8 * l.room + 5

abbrev pub decreases-check_pair : goal.decreases-check_pair
decreases-check_pair g l = 8 * l.room + 9

abbrev pub decreases-check_pair-check_tuple2_each+arg5 : goal.decreases-check_pair-check_tuple2_each+arg5
decreases-check_pair-check_tuple2_each+arg5 g l = 8 * l.room + 8

abbrev pub decreases-check_whole : goal.decreases-check_whole
decreases-check_whole g l = 8 * l.room + 6

abbrev pub decreases-check_whole-check_rc_each : goal.decreases-check_whole-check_rc_each
decreases-check_whole-check_rc_each g l = 8 * l.room + 5
