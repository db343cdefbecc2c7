use Rattle.archive_btree.proofs.Between.{entries_between}
use Rattle.archive_btree.proofs.laws.ranges_are_of_entries.Goals as goal

pub returns : goal.returns
returns g c = λ range es result small bounded answers between.
    let this = c.args.this in
    entries_between g.row.E g.K.Archived.Portable.shape g.V.Archived.Portable.shape g.K.Archived.Portable.knows g.V.Archived.Portable.knows g.K.Archive.spelling g.V.Archive.spelling this
    g.K.Archived.KeyOf.key g.K.Archived.ArchivedKey.order g.met.K.Archived.ArchivedKey.is_total g.K.Archived.ArchivedKey.key_of
    (λ x st at h. g.met.K.Archived.KeyOf.represents x st this.bytes.now at small h)
    (λ at a b x y q. g.met.K.Archived.ArchivedKey.one_key this.bytes.now at a b x y q)
    g.R.RangeBounds range bounded es answers result between
