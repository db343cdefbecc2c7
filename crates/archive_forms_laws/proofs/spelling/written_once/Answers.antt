use Rattle.archive_forms_laws.proofs.Written.{written_once_law}
use Rattle.archive_forms_laws.proofs.spelling.written_once.Goals as goal

pub returns : goal.returns
returns c = written_once_law
