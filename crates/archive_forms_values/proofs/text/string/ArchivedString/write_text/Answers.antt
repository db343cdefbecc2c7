use Rattle.std.proofs.Common.{length}
use Rattle.archive_forms_values.proofs.Placed.{text_there}
use Rattle.archive_forms_values.proofs.text.string.ArchivedString.write_text.Goals as goal

pub write_at-requires : goal.write_at-requires
write_at-requires c =
    (text_there c.args.this.bytes.now c.args.this.pos c.start_of-start.result (length c.args.text.now) c.requires c.start_of-start.ensures).room

pub returns : goal.returns
returns c =
    let there = text_there c.args.this.bytes.now c.args.this.pos c.start_of-start.result (length c.args.text.now) c.requires c.start_of-start.ensures in
    (c.start_of-start.result, there.lies, c.write_at.ensures)
