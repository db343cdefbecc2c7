use Rattle.std.specs.Prelude.{⊤, All}
use Rattle.archive_shape_layout.specs.Shape.Shape.{text}
use Rattle.archive_btree_maps.specs.Refs.{IsThere}
use Rattle.cabinet_documents.specs.Node.{node_shape, KnowsNode}
use Rattle.cabinet_text_nodes.proofs.Pieces.{AreWrittenBefore}
use Rattle.cabinet_archives.proofs.Within.{entry_piece}
use Rattle.cabinet_archives.proofs.asking.keys.write_each_within.Given as goal

-- entries lie where those lead that are left, and the keys of those before them were written
abbrev pub invariant-loop-key : goal.invariant-loop-key
invariant-loop-key g l = let w = g.W.Writer in record {
  there : All (IsThere text node_shape (λ _. ⊤) KnowsNode) l.key-iterator;
  written : AreWrittenBefore w.OBSERVABLE w.COUNTS w.contents g.W.Positional.pos w.failures w.last_error g.W.Registry.known entry_piece l.fn.writer l.writer l.initial.key-iterator l.key-iterator;
}
