use Rattle.std.proofs.Common.{◌∙◌, map, inl, inr, refl, ap}
use Rattle.archive_btree_layout.specs.Tree.{items}
use Rattle.archive_forms_values.specs.Parts.{HasValue}
use Rattle.archive_btree_maps.specs.Bounds.{items_between}
use Rattle.archive_btree_maps.specs.Refs.{entry_at}
use Rattle.archive_btree_maps.proofs.Between.{of_known, of_lent}
use Rattle.archive_btree_maps.proofs.HeldKeys.{entries_are}
use Rattle.archive_btree_maps.proofs.Runs.{made_run, made_there}
use Rattle.archive_btree_maps.proofs.map.map.ArchivedBTreeMap.range_with.Goals as goal

pub range_at-requires : goal.range_at-requires
range_at-requires g c =
    record {
      has = c.requires.has;
      callable = λ t h k d below.
          let held =
          entries_are g.K.Portable.shape g.V.Portable.shape g.K.Portable.knows g.V.Portable.knows c.args.this.bytes.now (λ e. HasValue g.K.Portable.shape g.K.Portable.knows c.args.this.bytes.now e.key)
          (λ e u w held other. record { value = u; held = held }) g.row.E c.args.this.pos c.requires.has t h k d below
          in
          let may = c.requires.callable t h k d below held in (
            of_known (λ q. q.now) _ _ c.start_bound.result _ c.start_bound.ensures (λ query is. may query (λ known. inl (is known))),
            of_known (λ q. q.now) _ _ c.end_bound.result _ c.end_bound.ensures (λ query is. may query (λ known. inr (is known))),
          );
    }

pub returns-clause-there : goal.returns-clause-there
returns-clause-there g c =
    made_there g.row.K.Denot g.row.V.Denot g.K.Portable.shape g.V.Portable.shape g.K.Portable.knows g.V.Portable.knows c.args.this.bytes g.row.E c.args.this.pos c.requires.has
    c.new.result c.range_at.result c.new.ensures c.range_at.ensures.within

pub returns-clause-within : goal.returns-clause-within
returns-clause-within g c t h =
    made_run (entry_at c.args.this.bytes {K = g.row.K.Denot} {V = g.row.V.Denot}) c.new.result c.range_at.result (items t) c.new.ensures (c.range_at.ensures.within t h)

pub returns-clause-between : goal.returns-clause-between
returns-clause-between g c t order h told queries =
    let start = c.start_bound.ensures told in
    let end = c.end_bound.ensures told in
    let between =
    c.range_at.ensures.between t order h (
      of_lent (λ q. q.now) _ _ (λ query p. (λ k d below r s. p.0 query refl k d below r s, p.1)) c.start_bound.result _ start queries.0,
      of_lent (λ q. q.now) _ _ (λ query p. (λ k d below r s. p.0 query refl k d below r s, p.1)) c.end_bound.result _ end queries.1,
    )
    in
    c.new.ensures
    ∙ ap (map (entry_at c.args.this.bytes {K = g.row.K.Denot} {V = g.row.V.Denot})) (between ∙ (λ i. items_between order (start i) (end i) (items t)))
