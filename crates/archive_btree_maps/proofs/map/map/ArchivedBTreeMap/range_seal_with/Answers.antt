use denote.MutBor.{as_bor}
use Rattle.std.proofs.Common.{inl, inr, refl, sym, subst}
use Rattle.archive_btree_layout.specs.Tree.{items}
use Rattle.archive_btree_maps.specs.Ranges.{IsRun}
use Rattle.archive_forms_values.specs.Parts.{HasValue}
use Rattle.archive_btree_maps.specs.Bounds.{items_between}
use Rattle.archive_btree_maps.specs.Walks.{WalksIn, IsWritten}
use Rattle.archive_btree_maps.proofs.Between.{of_known, of_lent}
use Rattle.archive_btree_maps.proofs.HeldKeys.{entries_are}
use Rattle.archive_btree_maps.proofs.Sealed.{begun_goes_on, one_left, map_at}
use Rattle.archive_btree_maps.proofs.map.map.ArchivedBTreeMap.range_seal_with.Goals as goal

pub walk_between-walk-requires-clause-callable : goal.walk_between-walk-requires-clause-callable
walk_between-walk-requires-clause-callable g c t h k d below =
    let held =
    entries_are g.K.Portable.shape g.V.Portable.shape g.K.Portable.knows g.V.Portable.knows c.args.this.bytes.now (λ e. HasValue g.K.Portable.shape g.K.Portable.knows c.args.this.bytes.now e.key)
    (λ e u w held other. record { value = u; held = held }) g.row.E c.args.this.pos c.requires.has t h k d below
    in
    let may = c.requires.callable t (as_bor c.args.this.bytes) h refl k d below held in (
      of_known (λ q. q.now) _ _ c.start_bound.result _ c.start_bound.ensures (λ query is. may query (λ known. inl (is known))),
      of_known (λ q. q.now) _ _ c.end_bound.result _ c.end_bound.ensures (λ query is. may query (λ known. inr (is known))),
    )

pub returns-clause-within : goal.returns-clause-within
returns-clause-within g c m e f =
    let t = m.search_tree in
    let bytes = c.args.this.bytes.now in
    let here = map_at m bytes c.args.this.pos e f in
    let w = c.walk_between-walk.ensures.within t here in
    let goes = begun_goes_on m bytes c.args.this.pos e f c.walk_between-walk.result w.0 (λ map. (w.1, w.2)) in
    (w.0, c.new.ensures.entries g.row.E m w.0 goes.0, subst (IsWritten m) (sym c.new.ensures.bytes) goes.1)

pub returns-clause-between : goal.returns-clause-between
returns-clause-between g c m order e f told queries =
    let t = m.search_tree in
    let bytes = c.args.this.bytes.now in
    let here = map_at m bytes c.args.this.pos e f in
    let start = c.start_bound.ensures told in
    let end = c.end_bound.ensures told in
    let w = c.walk_between-walk.ensures.within t here in
    let both = queries (as_bor c.args.this.bytes) refl in
    let between =
    c.walk_between-walk.ensures.between t order here (
      of_lent (λ q. q.now) _ _ (λ query p. (λ k d below r s. p.0 query refl k d below r s, p.1)) c.start_bound.result _ start both.0,
      of_lent (λ q. q.now) _ _ (λ query p. (λ k d below r s. p.0 query refl k d below r s, p.1)) c.end_bound.result _ end both.1,
    )
    in
    let walks =
    subst (WalksIn bytes g.row.E g.K.Portable.shape g.V.Portable.shape c.args.this.pos c.walk_between-walk.result) (λ i. items_between order (start i) (end i) (items t)) between
    in
    let among = subst (λ es. IsRun es (items t)) (one_left bytes w.1.layout walks.layout w.1.root walks.root c.walk_between-walk.result w.0 _ w.1.left walks.left) w.2 in
    c.new.ensures.entries g.row.E m _ (begun_goes_on m bytes c.args.this.pos e f c.walk_between-walk.result _ (λ map. (walks, among))).0
