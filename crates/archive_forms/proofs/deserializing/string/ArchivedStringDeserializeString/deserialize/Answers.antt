use Rattle.archive_forms.proofs.Plain.{text_has, text_read}
use Rattle.archive_forms.proofs.deserializing.string.ArchivedStringDeserializeString.deserialize.Goals as goal

pub as_str-requires : goal.as_str-requires
as_str-requires c = text_has _ c.args.this.now.bytes.now c.args.this.now.pos c.requires.there

pub returns-in-Ok-clause-value : goal.returns-in-Ok-clause-value
returns-in-Ok-clause-value c = text_read _ c.args.this.now.bytes.now c.args.this.now.pos c.in-Ok.text _ c.in-Ok.ensures.ok c.as_str.ensures
