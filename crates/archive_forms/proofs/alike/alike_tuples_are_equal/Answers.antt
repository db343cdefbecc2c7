use Rattle.archive_forms.proofs.AlikeParts.{tuple1_equal, tuple2_equal, tuple3_equal, tuple4_equal}
use Rattle.archive_forms.proofs.alike.alike_tuples_are_equal.Goals as goal

pub returns-clause-of_one : goal.returns-clause-of_one
returns-clause-of_one g c = tuple1_equal g.T.Archived.Portable.shape g.U.Archived.Portable.shape g.T.Archive.spelling g.U.Archive.spelling g.T.PartialEq.eq c.requires.first

pub returns-clause-of_two : goal.returns-clause-of_two
returns-clause-of_two g c =
    tuple2_equal g.T.Archived.Portable.shape g.U.Archived.Portable.shape g.T.Archive.spelling g.U.Archive.spelling g.T.PartialEq.eq g.U.PartialEq.eq c.requires.first c.requires.second

pub returns-clause-of_three : goal.returns-clause-of_three
returns-clause-of_three g c =
    tuple3_equal g.T.Archived.Portable.shape g.U.Archived.Portable.shape g.T.Archive.spelling g.U.Archive.spelling g.V.Archived.Portable.shape g.V.Archive.spelling
    g.T.PartialEq.eq g.U.PartialEq.eq g.V.PartialEq.eq c.requires.first c.requires.second c.requires.third

pub returns-clause-of_four : goal.returns-clause-of_four
returns-clause-of_four g c =
    tuple4_equal g.T.Archived.Portable.shape g.U.Archived.Portable.shape g.T.Archive.spelling g.U.Archive.spelling g.V.Archived.Portable.shape g.V.Archive.spelling g.W.Archived.Portable.shape g.W.Archive.spelling
    g.T.PartialEq.eq g.U.PartialEq.eq g.V.PartialEq.eq g.W.PartialEq.eq c.requires.first c.requires.second c.requires.third c.requires.fourth
