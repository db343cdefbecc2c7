use Rattle.std.proofs.Common.{◌+◌, ◌*◌, ◌-◌, drop}
use Rattle.cabinet_text_grammar.specs.Tree.{Pairs}
use Rattle.cabinet_documents.specs.Denotes.{tagged_value}
use Rattle.cabinet_documents.specs.Node.{node_shape, KnowsNode}
use Rattle.archive_shape_layout.specs.Shape.Shape.{vector}
use Rattle.cabinet_archives.specs.Loading.{AreReadOf, AreWholesOf, OfTree, LeadTo, loaded_table}
use Rattle.cabinet_archives.proofs.Loaded.{ElementsLeft}
use Rattle.cabinet_archives.proofs.LoadedPairs.{PairsLeft}
use Rattle.cabinet_archives.proofs.LoadedTrees.{AreNodesLegal, nodes_of}
use Rattle.cabinet_archives.proofs.loading.nodes.+loads.Given as goal

abbrev pub decreases-load_option : goal.decreases-load_option
decreases-load_option l = 3 * (64 - l.outer) + 1

abbrev pub decreases-load_list : goal.decreases-load_list
decreases-load_list l = 3 * (64 - l.outer) + 1

abbrev pub decreases-load_ordered : goal.decreases-load_ordered
decreases-load_ordered l = 3 * (64 - l.outer) + 1

abbrev pub decreases-load_hashed : goal.decreases-load_hashed
decreases-load_hashed l = 3 * (64 - l.outer) + 1

abbrev pub decreases-load_kept : goal.decreases-load_kept
decreases-load_kept l = 3 * (64 - l.outer) + 1

abbrev pub decreases-load_whole : goal.decreases-load_whole
decreases-load_whole l = 3 * (64 - l.outer) + 1

abbrev pub decreases-load_node : goal.decreases-load_node
decreases-load_node l = 3 * (64 - l.outer) + 2

abbrev pub decreases-load_entries : goal.decreases-load_entries
decreases-load_entries l = 3 * (64 - l.outer) + 3

-- the elements before the index are loaded
abbrev pub invariant-load_list-loop-index : goal.invariant-load_list-loop-index
invariant-load_list-loop-index l = record {
  left : OfTree (tagged_value 5) (vector node_shape) KnowsNode l.fn.list.bytes.now l.fn.list.pos (ElementsLeft l.fn.list.bytes.now l.elements.pos l.elements.len l.index (loaded_table l.fn.wholes) (loaded_table l.wholes) l.nodes.items);
  legal : AreNodesLegal (loaded_table l.wholes) l.nodes.items;
  kept : AreReadOf l.fn.list.bytes.now l.texts;
  known : AreWholesOf l.fn.list.bytes.now l.wholes;
}

-- entries are left, and the others have been loaded
abbrev pub invariant-load_entries-loop-entry : goal.invariant-load_entries-loop-entry
invariant-load_entries-loop-entry l = record {
  left : (ps : Pairs) → LeadTo l.fn.bytes l.fn.entries ps → PairsLeft l.fn.bytes (loaded_table l.fn.wholes) (loaded_table l.wholes) l.pairs.items (drop l.entry-index l.fn.entries) ps;
  legal : AreNodesLegal (loaded_table l.wholes) (nodes_of l.pairs.items);
  kept : AreReadOf l.fn.bytes l.texts;
  known : AreWholesOf l.fn.bytes l.wholes;
}
