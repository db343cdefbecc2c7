use Rattle.archive_forms_laws.proofs.Samples.{optional_lists_are_written_law}
use Rattle.archive_forms_laws.proofs.spelling.optional_lists_are_written.Goals as goal

pub returns : goal.returns
returns c = optional_lists_are_written_law
