use Rattle.archive_forms_writing.proofs.Readable.{fields2_readable_law, fields3_readable_law, fields4_readable_law}
use Rattle.archive_core.proofs.laws.fields_are_readable.Goals as goal

pub returns-clause-of_two : goal.returns-clause-of_two
returns-clause-of_two g c = fields2_readable_law g.A.Archived.Portable.shape g.A.Archive.spelling g.B.Archived.Portable.shape g.B.Archive.spelling g.A.Archived.Portable.knows g.B.Archived.Portable.knows g.met.A.Archive.spells g.met.B.Archive.spells

pub returns-clause-of_three : goal.returns-clause-of_three
returns-clause-of_three g c = fields3_readable_law g.A.Archived.Portable.shape g.A.Archive.spelling g.B.Archived.Portable.shape g.B.Archive.spelling g.C.Archived.Portable.shape g.C.Archive.spelling g.A.Archived.Portable.knows g.B.Archived.Portable.knows g.C.Archived.Portable.knows g.met.A.Archive.spells g.met.B.Archive.spells g.met.C.Archive.spells

pub returns-clause-of_four : goal.returns-clause-of_four
returns-clause-of_four g c = fields4_readable_law g.A.Archived.Portable.shape g.A.Archive.spelling g.B.Archived.Portable.shape g.B.Archive.spelling g.C.Archived.Portable.shape g.C.Archive.spelling g.D.Archived.Portable.shape g.D.Archive.spelling g.A.Archived.Portable.knows g.B.Archived.Portable.knows g.C.Archived.Portable.knows g.D.Archived.Portable.knows g.met.A.Archive.spells g.met.B.Archive.spells g.met.C.Archive.spells g.met.D.Archive.spells
