use Rattle.archive_forms_laws.proofs.Samples.{texts_are_written_law}
use Rattle.archive_forms_laws.proofs.spelling.texts_are_written.Goals as goal

pub returns : goal.returns
returns c = texts_are_written_law
