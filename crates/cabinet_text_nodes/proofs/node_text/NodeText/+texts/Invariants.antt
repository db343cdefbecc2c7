use Rattle.std.proofs.Common.{flat_map, take, List, length}
use Rattle.std.specs.Prelude.{IsTrue, map}
use Rattle.cabinet_text_grammar.specs.Tree.{Tree}
use Rattle.cabinet_text_grammar.specs.Wholes.{IsTable}
use Rattle.cabinet_text_nodes.specs.NodeTexts.{HasAdded}
use Rattle.cabinet_text_nodes.specs.View.{all_known}
use Rattle.cabinet_text_nodes.proofs.NodeTexts.{AreAddedBefore, node_items, pair_items}
use Rattle.cabinet_text_nodes.proofs.node_text.NodeText.+texts.Given as goal

abbrev pub invariant-add_map-loop-key : goal.invariant-add_map-loop-key
invariant-add_map-loop-key l =
    goal.iterator-add_map-loop-key.can_next l.key-iterator
    × goal.iterator-add_map-loop-key.is_finite l.key-iterator
    × ((table : List Tree) → IsTable table → IsTrue (all_known (length table) (map (λ p. p.1) l.fn.pairs.entries))
    → AreAddedBefore (pair_items table) l.fn.self l.self l.fn.pairs.entries l.key-iterator)

abbrev pub invariant-add_nodes-loop-node : goal.invariant-add_nodes-loop-node
invariant-add_nodes-loop-node l =
    (table : List Tree) → IsTable table → IsTrue (all_known (length table) l.nodes) → HasAdded l.fn.self l.self (flat_map (node_items table) (take l.node-index l.nodes))

abbrev pub invariant-add_pairs-loop-key : goal.invariant-add_pairs-loop-key
invariant-add_pairs-loop-key l =
    (table : List Tree) → IsTable table → IsTrue (all_known (length table) (map (λ p. p.1) l.pairs)) → HasAdded l.fn.self l.self (flat_map (pair_items table) (take l.key-index l.pairs))
