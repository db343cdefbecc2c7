use Rattle.archive_forms_laws.specs.Orders.{truth_equality}
use Rattle.archive_forms_comparing.proofs.leaf.BoolArchivedEq.eq.Goals as goal

pub returns : goal.returns
returns c = λ v w h k i. truth_equality (c.native_of.ensures v h i) (c.native_of-2.ensures w k i)
