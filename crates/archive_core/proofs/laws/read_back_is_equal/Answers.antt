use Rattle.std.proofs.Common.{sym}
use Rattle.archive_core.proofs.Joined.{read_back_law}
use Rattle.archive_core.proofs.laws.read_back_is_equal.Goals as goal

pub returns : goal.returns
returns g c = λ x y bytes fit names keys known suits made there.
    let read = read_back_law g.T.Archived.Portable.shape g.T.Archived.Portable.knows g.T.Archive.spelling g.T.Archived.ReadBack.reads x y bytes fit names keys known suits made there in
    c.requires.alike x y (sym (c.requires.faithful (g.T.Archive.spelling.plain x) y read))
