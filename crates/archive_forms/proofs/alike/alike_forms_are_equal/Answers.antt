use Rattle.std.specs.Box.{boxed_slice_items}
use Rattle.archive_forms.proofs.AlikeParts.{option_equal, result_equal, group_equal}
use Rattle.archive_forms.proofs.alike.alike_forms_are_equal.Goals as goal

pub returns-clause-options : goal.returns-clause-options
returns-clause-options g c = option_equal g.T.Archive.spelling g.T.Archived.Portable.shape g.T.PartialEq.eq c.requires.first

pub returns-clause-results : goal.returns-clause-results
returns-clause-results g c =
    result_equal g.T.Archived.Portable.shape g.U.Archived.Portable.shape g.T.Archive.spelling g.U.Archive.spelling g.T.PartialEq.eq g.U.PartialEq.eq c.requires.first c.requires.second

pub returns-clause-boxes : goal.returns-clause-boxes
returns-clause-boxes g c = λ x y e. c.requires.first x.value y.value e

pub returns-clause-vectors : goal.returns-clause-vectors
returns-clause-vectors g c = λ x y e. group_equal g.T.Archive.spelling (λ v. v.items) g.T.PartialEq.eq c.requires.first x y e

pub returns-clause-boxed_slices : goal.returns-clause-boxed_slices
returns-clause-boxed_slices g c = λ x y e. group_equal g.T.Archive.spelling boxed_slice_items g.T.PartialEq.eq c.requires.first x y e

pub returns-clause-arrays : goal.returns-clause-arrays
returns-clause-arrays g c = λ x y e. group_equal g.T.Archive.spelling (λ xs. xs) g.T.PartialEq.eq c.requires.first x y e
