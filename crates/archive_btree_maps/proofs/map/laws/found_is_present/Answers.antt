use Rattle.archive_btree_maps.specs.Refs.{value_at}
use Rattle.archive_btree_maps.proofs.LookedUp.{found_is_present}
use Rattle.archive_btree_maps.proofs.Roots.{tree_of_value}
use Rattle.archive_btree_maps.proofs.map.laws.found_is_present.Goals as goal

pub returns : goal.returns
returns g c =
    let m = tree_of_value c.requires.has in
    found_is_present g.K.ArchivedKey.key_of g.K.ArchivedKey.order c.args.this.bytes.now c.args.query.now (value_at c.args.this.bytes {V = g.row.V.Denot}) g.row.E g.K.Portable.shape g.V.Portable.shape c.args.this.pos
    m.search_tree c.args.found m.map (c.requires.found m.search_tree m.map)
