use Rattle.cabinet_documents.proofs.Levels.{node_spells_law}
use Rattle.cabinet_documents.proofs.spelling.node_spells.Goals as goal

pub returns : goal.returns
returns c = node_spells_law
