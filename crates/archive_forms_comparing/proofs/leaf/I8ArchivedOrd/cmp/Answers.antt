use Rattle.std.proofs.Common.{rules, ◌≡◌}
use Rattle.archive_shape_layout.specs.Value.Value.{integer}
use Rattle.archive_forms_laws.specs.Orders.{integer_order}
use Rattle.archive_forms_comparing.proofs.leaf.I8ArchivedOrd.cmp.Goals as goal

pub returns : goal.returns
returns c = λ v w h k.
    let e : integer_order (integer c.native_of.result) (integer c.native_of-2.result) ≡ integer_order v w = λ i. integer_order (c.native_of.ensures v h i) (c.native_of-2.ensures w k i) in
    search (rules, e)
