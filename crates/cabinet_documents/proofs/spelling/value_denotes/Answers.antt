use Rattle.cabinet_documents.proofs.SpellingDenoted.{value_denotes_law}
use Rattle.cabinet_documents.proofs.spelling.value_denotes.Goals as goal

pub returns : goal.returns
returns c = value_denotes_law
