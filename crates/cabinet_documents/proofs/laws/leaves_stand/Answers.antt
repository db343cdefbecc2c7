use Rattle.cabinet_documents.proofs.LeavesStand.{leaves_stand_law}
use Rattle.cabinet_documents.proofs.laws.leaves_stand.Goals as goal

pub returns : goal.returns
returns c = leaves_stand_law
