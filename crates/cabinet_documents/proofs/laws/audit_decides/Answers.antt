use Rattle.cabinet_documents.proofs.Deciding.{audit_decides_law}
use Rattle.cabinet_documents.proofs.laws.audit_decides.Goals as goal

pub returns : goal.returns
returns c = audit_decides_law
