use Rattle.archive_forms_values.proofs.Slices.{boxed_slice_checked}
use Rattle.archive_forms_values.proofs.boxed.boxed_slice.check_boxed_slice_each.Goals as goal

pub returns-clause-exact : goal.returns-clause-exact
returns-clause-exact g c names known =
    boxed_slice_checked g.T.Portable.shape c.args.bytes.now c.args.pos names _ _ _ (c.check_vec_each.ensures.exact names known)
