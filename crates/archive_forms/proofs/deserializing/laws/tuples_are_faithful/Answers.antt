use Rattle.archive_forms.proofs.Faithful.{tuple1_faithful, tuple2_faithful, tuple3_faithful, tuple4_faithful}
use Rattle.archive_forms.proofs.deserializing.laws.tuples_are_faithful.Goals as goal

pub returns-clause-of_one : goal.returns-clause-of_one
returns-clause-of_one g c = tuple1_faithful g.T.Archived.Portable.shape g.U.Archived.Portable.shape g.T.Archive.spelling g.U.Archive.spelling g.A.ReadBack.reads g.B.ReadBack.reads c.requires.first c.requires.second

pub returns-clause-of_two : goal.returns-clause-of_two
returns-clause-of_two g c = tuple2_faithful g.T.Archived.Portable.shape g.U.Archived.Portable.shape g.T.Archive.spelling g.U.Archive.spelling g.A.ReadBack.reads g.B.ReadBack.reads c.requires.first c.requires.second

pub returns-clause-of_three : goal.returns-clause-of_three
returns-clause-of_three g c = tuple3_faithful g.T.Archived.Portable.shape g.U.Archived.Portable.shape g.T.Archive.spelling g.U.Archive.spelling g.A.ReadBack.reads g.B.ReadBack.reads c.requires.first c.requires.second g.V.Archived.Portable.shape g.V.Archive.spelling g.C.ReadBack.reads c.requires.third

pub returns-clause-of_four : goal.returns-clause-of_four
returns-clause-of_four g c = tuple4_faithful g.T.Archived.Portable.shape g.U.Archived.Portable.shape g.T.Archive.spelling g.U.Archive.spelling g.A.ReadBack.reads g.B.ReadBack.reads c.requires.first c.requires.second g.V.Archived.Portable.shape g.V.Archive.spelling g.C.ReadBack.reads c.requires.third g.W.Archived.Portable.shape g.W.Archive.spelling g.D.ReadBack.reads c.requires.fourth
