use Rattle.archive_shape_layout.specs.Shape.Pointee.{sized, slice}
use Rattle.archive_forms_rc.specs.Counted.{shared_rc_spelling, shared_slice_rc_spelling}
use Rattle.archive_forms.proofs.Faithful.{option_faithful, result_faithful, boxed_faithful, vector_faithful, boxed_slice_faithful, array_faithful, shared_faithful, shared_slice_faithful, weak_faithful}
use Rattle.archive_forms.proofs.deserializing.laws.forms_are_faithful.Goals as goal

pub returns-clause-options : goal.returns-clause-options
returns-clause-options g c = option_faithful g.T.Archive.spelling g.A.ReadBack.reads c.requires.first g.T.Archived.Portable.shape

pub returns-clause-results : goal.returns-clause-results
returns-clause-results g c = result_faithful g.T.Archived.Portable.shape g.U.Archived.Portable.shape g.T.Archive.spelling g.U.Archive.spelling g.A.ReadBack.reads g.B.ReadBack.reads c.requires.first c.requires.second

pub returns-clause-boxes : goal.returns-clause-boxes
returns-clause-boxes g c = boxed_faithful g.T.Archive.spelling g.A.ReadBack.reads c.requires.first g.T.Archived.Portable.shape

pub returns-clause-vectors : goal.returns-clause-vectors
returns-clause-vectors g c = vector_faithful g.T.Archive.spelling g.A.ReadBack.reads c.requires.first g.T.Archived.Portable.shape

pub returns-clause-boxed_slices : goal.returns-clause-boxed_slices
returns-clause-boxed_slices g c = boxed_slice_faithful g.T.Archive.spelling g.A.ReadBack.reads c.requires.first _ g.T.Archived.Portable.shape

pub returns-clause-arrays : goal.returns-clause-arrays
returns-clause-arrays g c = array_faithful g.T.Archive.spelling g.A.ReadBack.reads c.requires.first g.row.N g.T.Archived.Portable.shape

pub returns-clause-counted : goal.returns-clause-counted
returns-clause-counted g c = shared_faithful g.T.Archive.spelling g.A.ReadBack.reads c.requires.first g.T.Archived.Portable.shape

pub returns-clause-counted_slices : goal.returns-clause-counted_slices
returns-clause-counted_slices g c = shared_slice_faithful g.T.Archive.spelling g.A.ReadBack.reads c.requires.first g.T.Archived.Portable.shape

pub returns-clause-weak : goal.returns-clause-weak
returns-clause-weak g c =
    let s = g.T.Archived.Portable.shape in
    weak_faithful (sized s) (shared_rc_spelling s g.T.Archive.spelling) _ (shared_faithful g.T.Archive.spelling g.A.ReadBack.reads c.requires.first s)

pub returns-clause-weak_slices : goal.returns-clause-weak_slices
returns-clause-weak_slices g c =
    let s = g.T.Archived.Portable.shape in
    weak_faithful (slice s) (shared_slice_rc_spelling s g.T.Archive.spelling) _ (shared_slice_faithful g.T.Archive.spelling g.A.ReadBack.reads c.requires.first s)
