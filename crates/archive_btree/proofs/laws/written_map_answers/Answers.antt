use Rattle.archive_btree.proofs.Answering.{map_answers}
use Rattle.archive_btree.proofs.InOrder.{keys_ascend}
use Rattle.archive_btree.proofs.laws.written_map_answers.Goals as goal

pub returns : goal.returns
returns g c bytes some m =
    let es = c.args.map.now.map.entries in
    map_answers g.row.E g.K.Archived.Portable.shape g.V.Archived.Portable.shape g.K.Archived.Portable.knows g.V.Archived.Portable.knows g.K.Archive.spelling g.V.Archive.spelling bytes
    g.K.Archived.KeyOf.key g.K.Archived.ArchivedKey.order g.met.K.Archived.ArchivedKey.is_total g.K.Archived.ArchivedKey.key_of
    (λ x st pos h. g.met.K.Archived.KeyOf.represents x st bytes pos m.archive.bytes_are h)
    (λ pos a b x y query. g.met.K.Archived.ArchivedKey.one_key bytes pos a b x y query)
    es some m
    (keys_ascend g.K.Ord.cmp g.K.Archived.KeyOf.key g.K.Archived.ArchivedKey.order g.met.K.Archived.OrderedKeyOf.in_order es c.len-len.ensures.ordered)
