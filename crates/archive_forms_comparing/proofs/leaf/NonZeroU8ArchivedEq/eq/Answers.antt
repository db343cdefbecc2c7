use Rattle.std.proofs.Common.{◌∙◌}
use Rattle.archive_forms_laws.specs.Orders.{natural_equality}
use Rattle.archive_forms_comparing.proofs.leaf.NonZeroU8ArchivedEq.eq.Goals as goal

pub returns : goal.returns
returns c = λ v w h k. c.eq.ensures ∙ (λ i. natural_equality (c.native_of.ensures v h i) (c.native_of-2.ensures w k i))
