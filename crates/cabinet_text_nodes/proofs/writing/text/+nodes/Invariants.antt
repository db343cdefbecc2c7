use Rattle.std.proofs.Common.{◌≡◌, flat_map, take, List, length}
use Rattle.std.specs.Prelude.{IsTrue, map}
use Rattle.archive_shape_layout.specs.Writing.{Written}
use Rattle.cabinet_text_grammar.specs.Tree.{Tree}
use Rattle.cabinet_text_grammar.specs.Wholes.{IsTable}
use Rattle.cabinet_text_nodes.specs.View.{all_known}
use Rattle.cabinet_text_nodes.proofs.Pieces.{AreWrittenBefore}
use Rattle.cabinet_text_nodes.proofs.Texts.{node_lines, pair_lines}
use Rattle.cabinet_text_nodes.proofs.writing.text.+nodes.Given as goal

abbrev pub invariant-write_map-loop-key : goal.invariant-write_map-loop-key
invariant-write_map-loop-key g l =
    let w = g.W.Writer in
    (goal.iterator-write_map-loop-key g).can_next l.key-iterator
    × (goal.iterator-write_map-loop-key g).is_finite l.key-iterator
    × (w.failures l.writer ≡ w.failures l.fn.writer)
    × ((table : List Tree) → IsTable table → IsTrue (all_known (length table) (map (λ p. p.1) l.fn.pairs.entries))
    → AreWrittenBefore w.OBSERVABLE w.COUNTS w.contents g.W.Positional.pos w.failures w.last_error g.W.Registry.known (pair_lines table) l.fn.writer l.writer l.fn.pairs.entries l.key-iterator)

abbrev pub invariant-write_nodes-loop-node : goal.invariant-write_nodes-loop-node
invariant-write_nodes-loop-node g l =
    let w = g.W.Writer in
    record {
      quiet : w.failures l.writer ≡ w.failures l.fn.writer;
      lines : (table : List Tree) → IsTable table → IsTrue (all_known (length table) l.nodes)
          → Written w.OBSERVABLE w.COUNTS w.contents g.W.Positional.pos w.failures w.last_error g.W.Registry.known l.fn.writer l.writer (flat_map (node_lines table) (take l.node-index l.nodes));
    }

abbrev pub invariant-write_pairs-loop-key : goal.invariant-write_pairs-loop-key
invariant-write_pairs-loop-key g l =
    let w = g.W.Writer in
    record {
      quiet : w.failures l.writer ≡ w.failures l.fn.writer;
      lines : (table : List Tree) → IsTable table → IsTrue (all_known (length table) (map (λ p. p.1) l.pairs))
          → Written w.OBSERVABLE w.COUNTS w.contents g.W.Positional.pos w.failures w.last_error g.W.Registry.known l.fn.writer l.writer (flat_map (pair_lines table) (take l.key-index l.pairs));
    }
