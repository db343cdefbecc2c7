use Rattle.std.proofs.Common.{◌∙◌, map, ap}
use Rattle.archive_btree_layout.specs.Tree.{items}
use Rattle.archive_btree_maps.specs.Refs.{entry_at}
use Rattle.archive_btree_maps.proofs.Refs.{mapped}
use Rattle.archive_btree_maps.proofs.map.map.ArchivedBTreeMap.values.Goals as goal

pub returns : goal.returns
returns g c t h =
    c.new.ensures
    ∙ ap (map (λ e. e.1)) (c.iter.ensures t h)
    ∙ mapped (entry_at c.args.this.bytes {K = g.row.K.Denot} {V = g.row.V.Denot}) (λ e. e.1) (items t)
