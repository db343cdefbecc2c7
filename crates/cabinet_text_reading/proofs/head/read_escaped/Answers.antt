use Rattle.std.proofs.Common.{rules}
use Rattle.cabinet_text_reading.proofs.head.read_escaped.Goals as goal

pub returns-in-Ok-None-clause-fault : goal.returns-in-Ok-None-clause-fault
returns-in-Ok-None-clause-fault c t utf8 same = search rules
