use Rattle.std.proofs.Common.{◌∙◌}
use Rattle.archive_forms_comparing.proofs.leaf.LittleEndianArchivedOrd.cmp.Goals as goal

pub returns : goal.returns
returns g c = λ v w h k.
    c.cmp.ensures
    ∙ g.met.N.ComparedNative.order_by_value _ _
    ∙ (λ i. g.N.ComparedNative.comparison.order (c.native_of.ensures v h i) (c.native_of-2.ensures w k i))
