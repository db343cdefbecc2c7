use Rattle.archive_forms_values.specs.Parts.{HasValue}
use Rattle.archive_btree_maps.proofs.Held.{keys_are}
use Rattle.archive_btree_maps.proofs.set.debug.ArchivedBTreeSetArchivedDebug.fmt.Goals as goal

pub fmt_keys-requires : goal.fmt_keys-requires
fmt_keys-requires g c =
    keys_are c.args.this.now.bytes (λ r. HasValue g.K.Portable.shape g.K.Portable.knows r.bytes.now r.pos) (λ r v. v) c.requires c.iter.result c.iter.ensures
