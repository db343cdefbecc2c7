use Rattle.std.proofs.Common.{rules, ◌≡◌}
use Rattle.archive_shape_layout.specs.Value.Value.{integer}
use Rattle.archive_forms_laws.specs.Orders.{integer_equality}
use Rattle.archive_forms_comparing.proofs.leaf.I8ArchivedEq.eq.Goals as goal

pub returns : goal.returns
returns c = λ v w h k.
    let e : integer_equality (integer c.native_of.result) (integer c.native_of-2.result) ≡ integer_equality v w = λ i. integer_equality (c.native_of.ensures v h i) (c.native_of-2.ensures w k i) in
    search (rules, e)
