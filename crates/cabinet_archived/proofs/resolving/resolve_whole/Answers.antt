use Rattle.std.proofs.Common.{rules}
use Rattle.cabinet_documents.specs.Spelling.{node_spelling}
use Rattle.cabinet_archived.proofs.Resolved.{whole_payload}
use Rattle.cabinet_archived.proofs.resolving.resolve_whole.Goals as goal

pub returns : goal.returns
returns c = λ wholes x.
    whole_payload wholes (node_spelling wholes) x c.args.resolver c.args.out.pos c.args.out.start c.args.out.out.now _ c.resolve_from_raw_parts.result (search rules)
