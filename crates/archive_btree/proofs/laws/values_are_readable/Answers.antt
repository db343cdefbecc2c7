use Rattle.archive_btree.proofs.InOrder.{keys_ascend}
use Rattle.archive_btree.proofs.Readable.{found_readable}
use Rattle.archive_btree.proofs.laws.values_are_readable.Goals as goal

pub returns : goal.returns
returns g c = λ names given fit this query found some known small suits readable looks.
    let es = c.args.map.now.map.entries in
    found_readable (λ m. m.map.entries) g.row.E g.K.Archived.Portable.shape g.V.Archived.Portable.shape g.K.Archived.Portable.knows g.V.Archived.Portable.knows g.K.Archive.spelling g.V.Archive.spelling g.met.K.Archive.spells g.met.V.Archive.spells
    this names known some given c.args.map.now fit suits readable
    g.K.Archived.KeyOf.key g.K.Archived.ArchivedKey.order g.met.K.Archived.ArchivedKey.is_total g.K.Archived.ArchivedKey.key_of
    (λ x st at h. g.met.K.Archived.KeyOf.represents x st this.bytes.now at small h)
    (λ at a b x y q. g.met.K.Archived.ArchivedKey.one_key this.bytes.now at a b x y q)
    (keys_ascend g.K.Ord.cmp g.K.Archived.KeyOf.key g.K.Archived.ArchivedKey.order g.met.K.Archived.OrderedKeyOf.in_order es c.len-len.ensures.ordered)
    query found looks
