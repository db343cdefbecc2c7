use Rattle.archive_forms.proofs.AlikeParts.{option_one, result_one, group_same, tuple1_one, tuple2_one, tuple3_one, tuple4_one}
use Rattle.archive_forms.proofs.alike.alike_forms_are_one.Goals as goal

pub returns-clause-options : goal.returns-clause-options
returns-clause-options g c = option_one g.T.Archive.spelling g.T.Archived.Portable.shape c.requires.first

pub returns-clause-results : goal.returns-clause-results
returns-clause-results g c = result_one g.T.Archived.Portable.shape g.U.Archived.Portable.shape g.T.Archive.spelling g.U.Archive.spelling c.requires.first c.requires.second

pub returns-clause-arrays : goal.returns-clause-arrays
returns-clause-arrays g c = group_same g.T.Archive.spelling c.requires.first

pub returns-clause-of_one : goal.returns-clause-of_one
returns-clause-of_one g c = tuple1_one g.T.Archived.Portable.shape g.U.Archived.Portable.shape g.T.Archive.spelling g.U.Archive.spelling c.requires.first

pub returns-clause-of_two : goal.returns-clause-of_two
returns-clause-of_two g c = tuple2_one g.T.Archived.Portable.shape g.U.Archived.Portable.shape g.T.Archive.spelling g.U.Archive.spelling c.requires.first c.requires.second

pub returns-clause-of_three : goal.returns-clause-of_three
returns-clause-of_three g c =
    tuple3_one g.T.Archived.Portable.shape g.U.Archived.Portable.shape g.T.Archive.spelling g.U.Archive.spelling g.V.Archived.Portable.shape g.V.Archive.spelling c.requires.first c.requires.second c.requires.third

pub returns-clause-of_four : goal.returns-clause-of_four
returns-clause-of_four g c =
    tuple4_one g.T.Archived.Portable.shape g.U.Archived.Portable.shape g.T.Archive.spelling g.U.Archive.spelling g.V.Archived.Portable.shape g.V.Archive.spelling g.W.Archived.Portable.shape g.W.Archive.spelling
    c.requires.first c.requires.second c.requires.third c.requires.fourth
