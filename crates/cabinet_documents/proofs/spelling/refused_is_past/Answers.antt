use Rattle.cabinet_documents.proofs.StoredNodes.{refused_is_past_law}
use Rattle.cabinet_documents.proofs.spelling.refused_is_past.Goals as goal

pub returns : goal.returns
returns c = refused_is_past_law
