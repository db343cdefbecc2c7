use Rattle.cabinet_examples.proofs.Stored.{stored_text}
use Rattle.cabinet_examples.proofs.canonical.stored_fields.fields_of_a_text.Goals as goal

pub returns : goal.returns
returns c = stored_text
