use Rattle.std.proofs.Common.{◌+◌, ◌*◌}
use Rattle.cabinet_text_grammar.specs.Tree.{depth}
use Rattle.cabinet_text_grammar.specs.Wholes.{numbered}
use Rattle.cabinet_archived.specs.Archived.{table_in, most_within, most_in_pairs, tree_numbered}
use Rattle.cabinet_archived.proofs.Written.{depth_within}
use Rattle.cabinet_text_nodes.specs.View.{node_tree, table_of}
use Rattle.cabinet_archived.proofs.writing.+serialize.Given as goal

abbrev pub decreases-serialize_node : goal.decreases-serialize_node
decreases-serialize_node g l = 3 * depth (node_tree (table_in l.node) l.node.node.now)

abbrev pub decreases-serialize_maybe : goal.decreases-serialize_maybe
decreases-serialize_maybe g l = 3 * depth_within (table_of l.wholes.now) l.content.now + 2

abbrev pub decreases-serialize_maybe-serialize_one_each : goal.decreases-serialize_maybe-serialize_one_each
decreases-serialize_maybe-serialize_one_each g l = 3 * depth (node_tree (table_of l.wholes.now) l.inner.now.value) + 1

abbrev pub decreases-serialize_list : goal.decreases-serialize_list
decreases-serialize_list g l = 3 * most_within (table_of l.wholes.now) l.nodes.now.items + 2

abbrev pub decreases-serialize_list-serialize_slice_with_each : goal.decreases-serialize_list-serialize_slice_with_each
decreases-serialize_list-serialize_slice_with_each g l = 3 * most_within (table_of l.wholes.now) l.nodes.now.items + 1

abbrev pub decreases-serialize_ordered : goal.decreases-serialize_ordered
decreases-serialize_ordered g l = 3 * most_in_pairs (table_of l.wholes.now) l.map.now.entries + 2

abbrev pub decreases-serialize_ordered-serialize_entries_with_each+arg5 : goal.decreases-serialize_ordered-serialize_entries_with_each+arg5
decreases-serialize_ordered-serialize_entries_with_each+arg5 g l = 3 * most_in_pairs (table_of l.wholes.now) l.map.now.entries + 1

abbrev pub decreases-serialize_hashed : goal.decreases-serialize_hashed
decreases-serialize_hashed g l = 3 * most_in_pairs (table_of l.wholes.now) l.map.now.entries + 2

abbrev pub decreases-serialize_hashed-serialize_entries_with_each+arg5 : goal.decreases-serialize_hashed-serialize_entries_with_each+arg5
decreases-serialize_hashed-serialize_entries_with_each+arg5 g l = 3 * most_in_pairs (table_of l.wholes.now) l.map.now.entries + 1

abbrev pub decreases-serialize_kept : goal.decreases-serialize_kept
decreases-serialize_kept g l = 3 * most_in_pairs (table_of l.wholes.now) l.pairs.now.items + 2

abbrev pub decreases-serialize_kept-serialize_entries_with_each+arg5 : goal.decreases-serialize_kept-serialize_entries_with_each+arg5
decreases-serialize_kept-serialize_entries_with_each+arg5 g l = 3 * most_in_pairs (table_of l.wholes.now) l.pairs.now.items + 1

abbrev pub decreases-serialize_whole : goal.decreases-serialize_whole
decreases-serialize_whole g l = 3 * depth (tree_numbered (numbered (table_of l.wholes.now) l.number)) + 2

abbrev pub decreases-serialize_whole-serialize_one_each : goal.decreases-serialize_whole-serialize_one_each
decreases-serialize_whole-serialize_one_each g l = 3 * depth (node_tree (table_of l.wholes.now) l.inner.now) + 1
