use Rattle.std.proofs.Common.{rules}
use Rattle.cabinet_text_nodes.proofs.writing.head.write_count_line.Goals as goal

pub returns : goal.returns
returns g c = search rules
