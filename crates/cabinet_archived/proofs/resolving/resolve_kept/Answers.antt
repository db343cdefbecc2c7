use Rattle.std.proofs.Common.{rules, ◌≡◌, ◌∙◌, sym, length, arith}
use Rattle.archive_shape_layout.specs.Shape.Shape.{text}
use Rattle.archive_shape_canonical.specs.Hash.{text_hash}
use Rattle.archive_forms_writing.specs.Owned.{str_spelling}
use Rattle.archive_index.proofs.Resolved.{pairs_resolve}
use Rattle.cabinet_documents.specs.Node.{node_shape}
use Rattle.cabinet_documents.specs.Spelling.{node_spelling}
use Rattle.cabinet_archived.specs.Archived.{pairs_within}
use Rattle.cabinet_archived.proofs.Resolved.{length-pairs_in}
use Rattle.cabinet_archived.proofs.resolving.resolve_kept.Goals as goal

pub returns : goal.returns
returns c = λ wholes.
    let len : c.len.result ≡ length c.args.pairs.now.items = omega (arith, c.len.ensures, c.args.pairs.now.ok) in
    pairs_resolve text_hash text node_shape str_spelling (node_spelling wholes) (pairs_within wholes c.args.pairs.now.items) c.args.resolver c.len.result c.args.out.pos c.args.out.start c.args.out.out.now _ c.requires.room c.resolve_from_len.result
    (len ∙ sym (length-pairs_in wholes c.args.pairs.now.items)) (search rules)
