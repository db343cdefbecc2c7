use Rattle.std.specs.Prelude.{⊤}
use Rattle.archive_shape_layout.specs.Shape.Shape.{text}
use Rattle.cabinet_documents.specs.Node.{node_shape, KnowsNode}
use Rattle.archive_index.proofs.Standing.{entry_there}
use Rattle.cabinet_archives.proofs.maps.kept.search_own.Goals as goal

pub search_entries-requires-clause-callable : goal.search_entries-requires-clause-callable
search_entries-requires-clause-callable g c m stands i less =
    (entry_there text node_shape (λ _. ⊤) KnowsNode c.args.map.bytes.now c.args.map.pos c.requires.has m stands i less, c.requires.own)

pub returns : goal.returns
returns g c m stands = c.search_entries.ensures.answers m stands
