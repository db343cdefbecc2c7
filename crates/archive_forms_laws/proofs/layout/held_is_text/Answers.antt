use Rattle.archive_forms_laws.proofs.Held.{held_is_text_law}
use Rattle.archive_forms_laws.proofs.layout.held_is_text.Goals as goal

pub returns : goal.returns
returns c = held_is_text_law
