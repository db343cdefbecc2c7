use Rattle.archive_forms_laws.proofs.Samples.{two_shared_is_written_law}
use Rattle.archive_forms_laws.proofs.spelling.two_shared_is_written.Goals as goal

pub returns : goal.returns
returns c = two_shared_is_written_law
