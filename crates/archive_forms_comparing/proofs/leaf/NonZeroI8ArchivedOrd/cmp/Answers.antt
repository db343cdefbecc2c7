use Rattle.std.proofs.Common.{◌∙◌}
use Rattle.archive_forms_laws.specs.Orders.{integer_order}
use Rattle.archive_forms_comparing.proofs.leaf.NonZeroI8ArchivedOrd.cmp.Goals as goal

pub returns : goal.returns
returns c = λ v w h k. c.cmp.ensures ∙ (λ i. integer_order (c.native_of.ensures v h i) (c.native_of-2.ensures w k i))
