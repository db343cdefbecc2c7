use Rattle.std.proofs.Common.{rules}
use Rattle.cabinet_text_nodes.proofs.writing.head.write_head.Goals as goal

pub returns-in-Shared : goal.returns-in-Shared
returns-in-Shared g c = search rules
