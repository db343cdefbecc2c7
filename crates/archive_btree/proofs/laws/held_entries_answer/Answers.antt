use Rattle.archive_btree.proofs.Answering.{held_answers}
use Rattle.archive_btree.proofs.laws.held_entries_answer.Goals as goal

pub returns : goal.returns
returns g c bytes pos es st some small held ascending =
    held_answers
    g.row.E g.K.Archived.Portable.shape g.V.Archived.Portable.shape g.K.Archived.Portable.knows g.V.Archived.Portable.knows g.K.Archive.spelling g.V.Archive.spelling bytes
    g.K.Archived.KeyOf.key g.K.Archived.ArchivedKey.order g.met.K.Archived.ArchivedKey.is_total g.K.Archived.ArchivedKey.key_of
    (λ x st at h. g.met.K.Archived.KeyOf.represents x st bytes at small h)
    (λ at a b x y query. g.met.K.Archived.ArchivedKey.one_key bytes at a b x y query)
    pos es st some held ascending
