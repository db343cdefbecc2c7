use Rattle.std.proofs.Common.{◌∙◌}
use Rattle.archive_forms_comparing.proofs.leaf.LittleEndianArchivedEq.eq.Goals as goal

pub returns : goal.returns
returns g c = λ v w h k.
    c.eq.ensures
    ∙ g.met.N.ComparedNative.equal_by_value _ _
    ∙ (λ i. g.N.ComparedNative.comparison.equal (c.native_of.ensures v h i) (c.native_of-2.ensures w k i))
