use Rattle.std.proofs.Common.{refl, arith}
use Rattle.archive_shape.proofs.Leaves.{leaf_checked, leaf_refused}
use Rattle.archive_shape.proofs.checking.check.leaves.check_leaf.Goals as goal

pub returns-then-not-accepts-clause-exact : goal.returns-then-not-accepts-clause-exact
returns-then-not-accepts-clause-exact g c = λ names kept.
    leaf_refused names c.args.bytes.now c.args.pos _ g.T.Portable.shape kept g.met.T.ArchivedLeaf.is_leaf (omega (arith, g.met.T.Portable.sized)) (c.if-not-accepts.ensures.illegal refl)

pub returns-clause-exact : goal.returns-clause-exact
returns-clause-exact g c = λ names kept.
    leaf_checked names c.args.bytes.now c.args.pos _ g.T.Portable.shape kept _ (omega (arith, g.met.T.Portable.sized)) c.read-native.ensures.value
