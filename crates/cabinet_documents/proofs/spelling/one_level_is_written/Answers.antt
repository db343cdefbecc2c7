use Rattle.cabinet_documents.proofs.Agreeing.{one_level_is_written_law}
use Rattle.cabinet_documents.proofs.spelling.one_level_is_written.Goals as goal

pub returns : goal.returns
returns g c = one_level_is_written_law
