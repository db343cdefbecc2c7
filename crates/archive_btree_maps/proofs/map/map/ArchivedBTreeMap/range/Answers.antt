use Rattle.std.proofs.Common.{◌∙◌, map, sym, ap}
use Rattle.archive_btree_layout.specs.Tree.{items}
use Rattle.archive_btree_maps.specs.Bounds.{items_between}
use Rattle.archive_btree_maps.specs.Refs.{entry_at}
use Rattle.archive_btree_maps.proofs.Between.{of_each, of_lent}
use Rattle.archive_btree_maps.proofs.HeldKeys.{entries_are}
use Rattle.archive_btree_maps.proofs.Runs.{made_run, made_there}
use Rattle.archive_btree_maps.proofs.map.map.ArchivedBTreeMap.range.Goals as goal

pub range_at-requires-clause-callable : goal.range_at-requires-clause-callable
range_at-requires-clause-callable g c t h k d below =
    let key =
    entries_are g.K.Portable.shape g.V.Portable.shape g.K.Portable.knows g.V.Portable.knows c.args.this.bytes.now (λ e. g.K.ArchivedKey.is_key c.args.this.bytes.now e.key)
    (λ e u w held other. g.met.K.ArchivedKey.held_is_key c.args.this.bytes.now e.key u held) g.row.E c.args.this.pos c.requires.has t h k d below
    in
    (of_each _ (λ query. key) c.start_bound.result, of_each _ (λ query. key) c.end_bound.result)

pub returns-clause-there : goal.returns-clause-there
returns-clause-there g c =
    made_there g.row.K.Denot g.row.V.Denot g.K.Portable.shape g.V.Portable.shape g.K.Portable.knows g.V.Portable.knows c.args.this.bytes g.row.E c.args.this.pos c.requires.has
    c.new.result c.range_at.result c.new.ensures c.range_at.ensures.within

pub returns-clause-within : goal.returns-clause-within
returns-clause-within g c t h =
    made_run (entry_at c.args.this.bytes {K = g.row.K.Denot} {V = g.row.V.Denot}) c.new.result c.range_at.result (items t) c.new.ensures (c.range_at.ensures.within t h)

pub returns-clause-between : goal.returns-clause-between
returns-clause-between g c t order h told queries =
    let start = c.start_bound.ensures told in
    let end = c.end_bound.ensures told in
    let between =
    c.range_at.ensures.between t order h (
      of_lent (λ q. q.now) _ _ (λ query p. (λ k d below r s. s.2 ∙ sym (p.0 k d below s.0 s.1), p.1)) c.start_bound.result _ start queries.0,
      of_lent (λ q. q.now) _ _ (λ query p. (λ k d below r s. s.2 ∙ sym (p.0 k d below s.0 s.1), p.1)) c.end_bound.result _ end queries.1,
    )
    in
    c.new.ensures
    ∙ ap (map (entry_at c.args.this.bytes {K = g.row.K.Denot} {V = g.row.V.Denot})) (between ∙ (λ i. items_between order (start i) (end i) (items t)))
