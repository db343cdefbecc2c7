use Rattle.std.proofs.Common.{rules, ◌∙◌, sym}
use Rattle.archive_shape_layout.specs.Shape.Shape.{text, table}
use Rattle.archive_shape_canonical.specs.Hash.{text_hash}
use Rattle.archive_forms_writing.specs.Owned.{str_spelling}
use Rattle.archive_hash.proofs.Resolved.{entries_resolve}
use Rattle.cabinet_documents.specs.Node.{node_shape, pair_shape}
use Rattle.cabinet_documents.specs.Spelling.{node_spelling}
use Rattle.cabinet_archived.specs.Archived.{pairs_within}
use Rattle.cabinet_archived.proofs.Resolved.{length-pairs_in}
use Rattle.cabinet_archived.proofs.resolving.resolve_hashed.Goals as goal

pub returns : goal.returns
returns c = λ wholes.
    entries_resolve text_hash text node_shape (table pair_shape) str_spelling (node_spelling wholes) (pairs_within wholes c.args.map.now.entries) c.args.resolver c.len-len.result _ _ _ _ _ _ _ _ c.resolve_from_len.result
    (c.len-len.ensures.len ∙ sym (length-pairs_in wholes c.args.map.now.entries)) c.within-place.ensures.pos c.within-place.ensures.start c.within-place.ensures.bytes c.resolve_from_len.ensures (search rules)
