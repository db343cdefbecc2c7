use Rattle.std.proofs.Common.{sym}
use Rattle.std.specs.Prelude.{⊤}
use Rattle.archive_shape_layout.specs.Shape.Shape.{text}
use Rattle.archive_hash_maps.proofs.Entries.{entry_parts}
use Rattle.cabinet_documents.specs.Node.{node_shape, KnowsNode}
use Rattle.cabinet_archives.proofs.Auditing.{value_as}
use Rattle.cabinet_archives.proofs.Texts.{text_there}
use Rattle.cabinet_archives.proofs.maps.pairs.key_of.Goals as goal

pub as_str-requires : goal.as_str-requires
as_str-requires c =
    let parts = entry_parts text node_shape (λ _. ⊤) KnowsNode c.args.pair.bytes.now c.args.pair.pos c.requires in
    let key = value_as text (λ _. ⊤) (sym c.key.ensures.bytes) (sym c.key.ensures.pos) parts.key in
    (text_there _ _ (λ _. ⊤) key.value key.held).stands.there
