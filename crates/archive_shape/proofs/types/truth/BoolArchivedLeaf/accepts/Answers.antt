use Rattle.archive_shape_layout.proofs.NumberReading.{truth_illegal}
use Rattle.archive_shape.proofs.types.truth.BoolArchivedLeaf.accepts.Goals as goal

pub returns-clause-illegal : goal.returns-clause-illegal
returns-clause-illegal c = truth_illegal _
