use Rattle.std.proofs.Common.{◌∙◌}
use Rattle.archive_forms_laws.specs.Orders.{natural_order}
use Rattle.archive_forms_comparing.proofs.leaf.U8ArchivedOrd.cmp.Goals as goal

pub returns : goal.returns
returns c = λ v w h k. c.cmp.ensures ∙ (λ i. natural_order (c.native_of.ensures v h i) (c.native_of-2.ensures w k i))
