use Rattle.archive_btree.proofs.Answering.{read_answers}
use Rattle.archive_btree.proofs.InOrder.{keys_ascend}
use Rattle.archive_btree.proofs.WrittenAt.{standing_map, unshared_map}
use Rattle.archive_btree.proofs.laws.map_written_at_answers.Goals as goal

pub returns-clause-shared : goal.returns-clause-shared
returns-clause-shared g c = λ bytes pos names keys fit some small known suits written stand.
    let es = c.args.map.now.map.entries in
    read_answers
    g.row.E g.K.Archived.Portable.shape g.V.Archived.Portable.shape g.K.Archived.Portable.knows g.V.Archived.Portable.knows g.K.Archive.spelling g.V.Archive.spelling bytes
    g.K.Archived.KeyOf.key g.K.Archived.ArchivedKey.order g.met.K.Archived.ArchivedKey.is_total g.K.Archived.ArchivedKey.key_of
    (λ x st at h. g.met.K.Archived.KeyOf.represents x st bytes at small h)
    (λ at a b x y query. g.met.K.Archived.ArchivedKey.one_key bytes at a b x y query)
    pos es written.state some
    (standing_map (λ m. m.map.entries) g.row.E g.K.Archived.Portable.shape g.V.Archived.Portable.shape g.K.Archived.Portable.knows g.V.Archived.Portable.knows g.K.Archive.spelling g.V.Archive.spelling g.met.K.Archive.spells g.met.V.Archive.spells bytes pos names known some keys c.args.map.now written fit suits stand)
    (keys_ascend g.K.Ord.cmp g.K.Archived.KeyOf.key g.K.Archived.ArchivedKey.order g.met.K.Archived.OrderedKeyOf.in_order es c.len-len.ensures.ordered)

pub returns-clause-unshared : goal.returns-clause-unshared
returns-clause-unshared g c = λ bytes pos names keys some small known none written.
    let es = c.args.map.now.map.entries in
    read_answers
    g.row.E g.K.Archived.Portable.shape g.V.Archived.Portable.shape g.K.Archived.Portable.knows g.V.Archived.Portable.knows g.K.Archive.spelling g.V.Archive.spelling bytes
    g.K.Archived.KeyOf.key g.K.Archived.ArchivedKey.order g.met.K.Archived.ArchivedKey.is_total g.K.Archived.ArchivedKey.key_of
    (λ x st at h. g.met.K.Archived.KeyOf.represents x st bytes at small h)
    (λ at a b x y query. g.met.K.Archived.ArchivedKey.one_key bytes at a b x y query)
    pos es written.state some
    (unshared_map (λ m. m.map.entries) g.row.E g.K.Archived.Portable.shape g.V.Archived.Portable.shape g.K.Archived.Portable.knows g.V.Archived.Portable.knows g.K.Archive.spelling g.V.Archive.spelling g.met.K.Archive.spells g.met.V.Archive.spells bytes pos names known some keys c.args.map.now written none)
    (keys_ascend g.K.Ord.cmp g.K.Archived.KeyOf.key g.K.Archived.ArchivedKey.order g.met.K.Archived.OrderedKeyOf.in_order es c.len-len.ensures.ordered)
