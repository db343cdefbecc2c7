use Rattle.cabinet_documents.proofs.EditKept.{edit_keeps_accepted_law}
use Rattle.cabinet_documents.proofs.laws.edit_keeps_accepted.Goals as goal

pub returns : goal.returns
returns c = edit_keeps_accepted_law
