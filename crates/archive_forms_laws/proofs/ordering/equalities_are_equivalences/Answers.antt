use Rattle.archive_forms_laws.proofs.Forms.{equivalences}
use Rattle.archive_forms_laws.proofs.ordering.equalities_are_equivalences.Goals as goal

pub returns : goal.returns
returns c = equivalences
