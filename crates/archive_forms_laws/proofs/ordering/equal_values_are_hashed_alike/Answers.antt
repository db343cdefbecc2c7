use Rattle.archive_forms_laws.proofs.Forms.{alike}
use Rattle.archive_forms_laws.proofs.ordering.equal_values_are_hashed_alike.Goals as goal

pub returns : goal.returns
returns c = alike
