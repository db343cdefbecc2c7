use Rattle.cabinet_examples.proofs.Spoilt.{other_place}
use Rattle.cabinet_examples.proofs.canonical.spoilt_archives.table_that_is_not_by_first_fit.Goals as goal

pub returns : goal.returns
returns c = other_place
