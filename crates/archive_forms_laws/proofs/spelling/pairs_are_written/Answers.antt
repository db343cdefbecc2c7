use Rattle.archive_forms_laws.proofs.Samples.{pairs_are_written_law}
use Rattle.archive_forms_laws.proofs.spelling.pairs_are_written.Goals as goal

pub returns : goal.returns
returns c = pairs_are_written_law
