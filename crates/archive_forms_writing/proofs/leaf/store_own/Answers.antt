use Rattle.std.proofs.Common.{arith, subst}
use Rattle.archive_shape_canonical.specs.Canonical.{AreBytes}
use Rattle.archive_forms_writing.proofs.leaf.store_own.Goals as goal

pub returns-clause-small : goal.returns-clause-small
returns-clause-small g c =
    let small : AreBytes c.store.new.out = λ i. omega (arith, c.type_inv.own i) in
    subst AreBytes c.store.ensures.bytes small
