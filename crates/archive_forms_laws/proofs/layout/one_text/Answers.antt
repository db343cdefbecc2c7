use Rattle.archive_forms_laws.proofs.Once.{one_text_law}
use Rattle.archive_forms_laws.proofs.layout.one_text.Goals as goal

pub returns : goal.returns
returns c = one_text_law
