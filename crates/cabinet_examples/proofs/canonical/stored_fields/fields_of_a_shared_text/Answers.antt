use Rattle.cabinet_examples.proofs.Stored.{stored_shared_text}
use Rattle.cabinet_examples.proofs.canonical.stored_fields.fields_of_a_shared_text.Goals as goal

pub returns : goal.returns
returns c = stored_shared_text
