use Rattle.cabinet_documents.proofs.Values.{one_value_law}
use Rattle.cabinet_documents.proofs.spelling.one_value.Goals as goal

pub returns : goal.returns
returns c = one_value_law
