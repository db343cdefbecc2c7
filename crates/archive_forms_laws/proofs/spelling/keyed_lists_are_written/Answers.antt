use Rattle.archive_forms_laws.proofs.Samples.{keyed_lists_are_written_law}
use Rattle.archive_forms_laws.proofs.spelling.keyed_lists_are_written.Goals as goal

pub returns : goal.returns
returns c = keyed_lists_are_written_law
