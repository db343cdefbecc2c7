use Rattle.std.proofs.Common.{rules}
use Rattle.cabinet_text_reading.proofs.head.head_of.Goals as goal

pub returns-in-Ordered-clause-line : goal.returns-in-Ordered-clause-line
returns-in-Ordered-clause-line c = search rules
