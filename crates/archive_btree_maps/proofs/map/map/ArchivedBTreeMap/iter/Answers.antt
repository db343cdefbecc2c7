use Rattle.std.proofs.Common.{◌∙◌, map, ap}
use Rattle.archive_forms_values.specs.Entries.{entry_from}
use Rattle.archive_btree_maps.specs.Refs.{entry_at}
use Rattle.archive_btree_maps.proofs.Refs.{mapped}
use Rattle.archive_btree_maps.proofs.map.map.ArchivedBTreeMap.iter.Goals as goal

pub returns : goal.returns
returns g c t h =
    c.new.ensures
    ∙ mapped (λ e. (e.key, e.value)) (entry_from {K = g.row.K.Denot} {V = g.row.V.Denot} c.args.this.bytes) c.walk_at.result
    ∙ ap (map (entry_at c.args.this.bytes {K = g.row.K.Denot} {V = g.row.V.Denot})) (c.walk_at.ensures t h)
