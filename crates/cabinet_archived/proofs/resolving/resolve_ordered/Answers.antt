use Rattle.std.proofs.Common.{rules, arith}
use Rattle.cabinet_documents.specs.Spelling.{node_spelling}
use Rattle.cabinet_archived.proofs.Resolved.{map_resolved}
use Rattle.cabinet_archived.proofs.resolving.resolve_ordered.Goals as goal

pub returns : goal.returns
returns c = λ wholes.
    map_resolved wholes (node_spelling wholes) c.args.map.now.entries c.len.result c.args.resolver c.args.out.pos c.args.out.start c.args.out.out.now _ c.resolve_from_len.result
    (omega (arith, c.len.ensures)) (search rules)
