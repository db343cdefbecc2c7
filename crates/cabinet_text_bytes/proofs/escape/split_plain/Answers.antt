use Rattle.cabinet_text_bytes.proofs.Plain.{front_stands}
use Rattle.cabinet_text_bytes.proofs.escape.split_plain.Goals as goal

pub returns-clause-plain : goal.returns-clause-plain
returns-clause-plain c = rw c.split_at.ensures.front (front_stands c.args.bytes.now c.plain_len.result c.plain_len.ensures.plain)
