use Rattle.archive_forms_values.proofs.Placed.{text_long}
use Rattle.archive_forms_values.proofs.text.string.ArchivedString.len.Goals as goal

pub returns : goal.returns
returns c = text_long c.args.this.bytes.now c.args.this.pos c.requires c.own_bytes.result.now c.own_bytes.ensures.own c.len.result c.len.ensures.length
