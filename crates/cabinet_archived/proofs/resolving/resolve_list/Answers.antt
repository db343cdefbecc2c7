use Rattle.std.proofs.Common.{rules, arith}
use Rattle.cabinet_documents.specs.Spelling.{node_spelling}
use Rattle.cabinet_archived.proofs.Resolved.{vec_resolved}
use Rattle.cabinet_archived.proofs.resolving.resolve_list.Goals as goal

pub returns : goal.returns
returns c = λ wholes.
    vec_resolved wholes (node_spelling wholes) c.args.nodes.now.items c.len.result c.args.resolver c.args.out.pos c.args.out.start c.args.out.out.now _ c.resolve_from_len.result
    (omega (arith, c.len.ensures, c.args.nodes.now.ok)) (search rules)
