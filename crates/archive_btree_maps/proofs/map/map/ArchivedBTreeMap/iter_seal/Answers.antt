use Rattle.std.proofs.Common.{◌∙◌, sym, subst}
use Rattle.archive_btree_layout.specs.Tree.{items}
use Rattle.archive_btree_maps.specs.Walks.{IsWritten}
use Rattle.archive_btree_maps.proofs.Roots.{map_count}
use Rattle.archive_btree_maps.proofs.Runs.{whole_run}
use Rattle.archive_btree_maps.proofs.Sealed.{begun_goes_on, map_at}
use Rattle.archive_btree_maps.proofs.map.map.ArchivedBTreeMap.iter_seal.Goals as goal

pub returns-clause-entries : goal.returns-clause-entries
returns-clause-entries g c m e f =
    let t = m.search_tree in
    let bytes = c.args.this.bytes.now in
    let goes = begun_goes_on m bytes c.args.this.pos e f c.entry_walk_at-walk.result (items t) (λ here. (c.entry_walk_at-walk.ensures t here, whole_run (items t))) in
    let here = map_at m bytes c.args.this.pos e f in
    (c.new.ensures.entries g.row.E m (items t) goes.0 (c.count_at-left.ensures ∙ sym (map_count here)), subst (IsWritten m) (sym c.new.ensures.bytes) goes.1)
