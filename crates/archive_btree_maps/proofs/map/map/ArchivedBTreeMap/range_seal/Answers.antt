use Rattle.std.proofs.Common.{◌∙◌, sym, subst}
use Rattle.archive_btree_layout.specs.Tree.{items}
use Rattle.archive_btree_maps.specs.Ranges.{IsRun}
use Rattle.archive_btree_maps.specs.Bounds.{items_between}
use Rattle.archive_btree_maps.specs.Walks.{WalksIn, IsWritten}
use Rattle.archive_btree_maps.proofs.Between.{of_each, of_lent}
use Rattle.archive_btree_maps.proofs.HeldKeys.{entries_are}
use Rattle.archive_btree_maps.proofs.Sealed.{begun_goes_on, one_left, map_at}
use Rattle.archive_btree_maps.proofs.map.map.ArchivedBTreeMap.range_seal.Goals as goal

pub walk_between-walk-requires-clause-callable : goal.walk_between-walk-requires-clause-callable
walk_between-walk-requires-clause-callable g c t h k d below =
    let key =
    entries_are g.K.Portable.shape g.V.Portable.shape g.K.Portable.knows g.V.Portable.knows c.args.this.bytes.now (λ e. g.K.ArchivedKey.is_key c.args.this.bytes.now e.key)
    (λ e u w held other. g.met.K.ArchivedKey.held_is_key c.args.this.bytes.now e.key u held) g.row.E c.args.this.pos c.requires.has t h k d below
    in
    (of_each _ (λ query. key) c.start_bound.result, of_each _ (λ query. key) c.end_bound.result)

pub returns-clause-within : goal.returns-clause-within
returns-clause-within g c m e f =
    let t = m.search_tree in
    let bytes = c.args.this.bytes.now in
    let here = map_at m bytes c.args.this.pos e f in
    let w = c.walk_between-walk.ensures.within t here in
    let goes = begun_goes_on m bytes c.args.this.pos e f c.walk_between-walk.result w.0 (λ map. (w.1, w.2)) in
    (w.0, c.new.ensures.entries g.row.E m w.0 goes.0, subst (IsWritten m) (sym c.new.ensures.bytes) goes.1)

pub returns-clause-between : goal.returns-clause-between
returns-clause-between g c m order e f told queries =
    let t = m.search_tree in
    let bytes = c.args.this.bytes.now in
    let here = map_at m bytes c.args.this.pos e f in
    let start = c.start_bound.ensures told in
    let end = c.end_bound.ensures told in
    let w = c.walk_between-walk.ensures.within t here in
    let between =
    c.walk_between-walk.ensures.between t order here (
      of_lent (λ q. q.now) _ _ (λ query p. (λ k d below r s. s.2 ∙ sym (p.0 k d below s.0 s.1), p.1)) c.start_bound.result _ start queries.0,
      of_lent (λ q. q.now) _ _ (λ query p. (λ k d below r s. s.2 ∙ sym (p.0 k d below s.0 s.1), p.1)) c.end_bound.result _ end queries.1,
    )
    in
    let walks =
    subst (WalksIn bytes g.row.E g.K.Portable.shape g.V.Portable.shape c.args.this.pos c.walk_between-walk.result) (λ i. items_between order (start i) (end i) (items t)) between
    in
    let among = subst (λ es. IsRun es (items t)) (one_left bytes w.1.layout walks.layout w.1.root walks.root c.walk_between-walk.result w.0 _ w.1.left walks.left) w.2 in
    c.new.ensures.entries g.row.E m _ (begun_goes_on m bytes c.args.this.pos e f c.walk_between-walk.result _ (λ map. (walks, among))).0
