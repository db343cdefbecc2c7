use Rattle.std.proofs.Common.{◌∙◌, Some, ap}
use Rattle.archive_btree_layout.specs.Descent.{descend}
use Rattle.archive_btree_maps.specs.Refs.{entry_at}
use Rattle.archive_btree_maps.proofs.Refs.{pair_is, found_at, none_found, finds_some, finds_called}
use Rattle.archive_btree_maps.specs.Lookups.{CallsEqual}
use Rattle.archive_btree_maps.proofs.HeldKeys.{entries_are, found_there}
use Rattle.archive_btree_layout.specs.Tree.{items}
use Rattle.archive_forms_values.specs.Parts.{HasValue}
use Rattle.archive_btree_maps.proofs.map.map.ArchivedBTreeMap.get_key_value_with.Goals as goal

pub search_map-requires : goal.search_map-requires
search_map-requires g c =
    record {
      has = c.requires.has;
      callable = λ t h i d less.
          c.requires.callable t h i d less
          (entries_are g.K.Portable.shape g.V.Portable.shape g.K.Portable.knows g.V.Portable.knows c.args.this.bytes.now (λ e. HasValue g.K.Portable.shape g.K.Portable.knows c.args.this.bytes.now e.key)
          (λ e u w held other. record { value = u; held = held }) g.row.E c.args.this.pos c.requires.has t h i d less);
    }

pub returns-in-Some-clause-answers : goal.returns-in-Some-clause-answers
returns-in-Some-clause-answers g c t order h q =
    let s = c.search_map.ensures.answers t order h (λ i d less r p. q i d less r p) in
    let there = found_at (entry_at c.args.this.bytes {K = g.row.K.Denot} {V = g.row.V.Denot}) c.search_map.result.0 (descend order t) c.in-Some.entry s.0 c.in-Some.is in
    ap Some (pair_is _ _ _ c.new.result c.new-in-Some.result c.new.ensures.bytes c.new.ensures.pos c.new-in-Some.ensures.bytes c.new-in-Some.ensures.pos) ∙ there

pub returns-in-None-clause-answers : goal.returns-in-None-clause-answers
returns-in-None-clause-answers g c t order h q =
    let s = c.search_map.ensures.answers t order h (λ i d less r p. q i d less r p) in
    none_found (entry_at c.args.this.bytes {K = g.row.K.Denot} {V = g.row.V.Denot}) c.search_map.result.0 (descend order t) s.0 c.in-None.is

pub returns-in-Some-clause-found : goal.returns-in-Some-clause-found
returns-in-Some-clause-found g c t h =
    finds_some (entry_at c.args.this.bytes {K = g.row.K.Denot} {V = g.row.V.Denot}) _ (items t) c.search_map.result.0 c.in-Some.entry (c.new.result, c.new-in-Some.result) (finds_called (CallsEqual (goal.F-post g) c.args.compare.now c.args.query c.args.this.bytes) (items t) c.search_map.result.0 (c.search_map.ensures.found t h)) c.in-Some.is
    (pair_is _ _ _ c.new.result c.new-in-Some.result c.new.ensures.bytes c.new.ensures.pos c.new-in-Some.ensures.bytes c.new-in-Some.ensures.pos)

pub returns-in-Some-clause-there : goal.returns-in-Some-clause-there
returns-in-Some-clause-there g c =
    found_there g.K.Portable.shape g.V.Portable.shape g.K.Portable.knows g.V.Portable.knows c.args.this.bytes.now g.row.E c.args.this.pos c.requires.has
    (entry_at c.args.this.bytes {K = g.row.K.Denot} {V = g.row.V.Denot}) _ (λ r. HasValue g.K.Portable.shape g.K.Portable.knows r.0.bytes.now r.0.pos × HasValue g.V.Portable.shape g.V.Portable.knows r.1.bytes.now r.1.pos)
    (λ e h. h) (Some (c.new.result, c.new-in-Some.result)) (returns-in-Some-clause-found g c)
