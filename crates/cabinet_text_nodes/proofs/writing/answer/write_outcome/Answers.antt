use Rattle.std.proofs.Common.{rules}
use Rattle.cabinet_text_nodes.proofs.writing.answer.write_outcome.Goals as goal

pub returns-in-Done : goal.returns-in-Done
returns-in-Done g c = search rules
