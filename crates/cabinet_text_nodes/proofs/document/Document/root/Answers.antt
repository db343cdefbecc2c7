use Rattle.std.proofs.Common.{rules}
use Rattle.cabinet_text_nodes.proofs.document.Document.root.Goals as goal

pub returns-clause-tree : goal.returns-clause-tree
returns-clause-tree c = search rules
