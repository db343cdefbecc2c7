use Rattle.cabinet_documents.proofs.Opening.{accepted_stands_law}
use Rattle.cabinet_documents.proofs.laws.accepted_stands.Goals as goal

pub returns : goal.returns
returns c = accepted_stands_law
