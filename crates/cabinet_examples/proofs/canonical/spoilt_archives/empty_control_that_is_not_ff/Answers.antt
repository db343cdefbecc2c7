use Rattle.cabinet_examples.proofs.Spoilt.{other_control}
use Rattle.cabinet_examples.proofs.canonical.spoilt_archives.empty_control_that_is_not_ff.Goals as goal

pub returns : goal.returns
returns c = other_control
