use Rattle.archive_shape.proofs.Wholes.{array_checked}
use Rattle.archive_shape.proofs.checking.array.check_array_each.Goals as goal

pub returns-clause-exact : goal.returns-clause-exact
returns-clause-exact g c names known =
    array_checked names c.args.bytes.now c.args.pos g.row.N g.T.Portable.shape _ _ _ (c.check_slice_each.ensures.exact names known)
