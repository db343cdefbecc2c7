use Rattle.archive_forms_laws.proofs.Samples.{one_present_is_written_law}
use Rattle.archive_forms_laws.proofs.spelling.one_present_is_written.Goals as goal

pub returns : goal.returns
returns c = one_present_is_written_law
