use Rattle.std.proofs.Common.{◌∙◌, Some, refl, ap}
use Rattle.std.specs.Option.{option_map}
use Rattle.archive_btree_layout.specs.Descent.{descend}
use Rattle.archive_btree_maps.specs.SearchingNodes.{place_of}
use Rattle.archive_btree_maps.specs.Refs.{entry_at}
use Rattle.archive_btree_maps.proofs.Refs.{pair_is, found_at, none_found, finds_some}
use Rattle.archive_btree_maps.proofs.HeldKeys.{found_there}
use Rattle.archive_btree_layout.specs.Tree.{items}
use Rattle.archive_forms_values.specs.Parts.{HasValue}
use Rattle.archive_btree_maps.proofs.map.map.ArchivedBTreeMap.get_key_value.Goals as goal

pub returns-in-Some-clause-answers : goal.returns-in-Some-clause-answers
returns-in-Some-clause-answers g c t order h q =
    let s = c.search_key.ensures.answers t order h q in
    let there = found_at (entry_at c.args.this.bytes {K = g.row.K.Denot} {V = g.row.V.Denot}) c.search_key.result.0 (descend order t) c.in-Some.entry s.0 c.in-Some.is in
    ap Some (pair_is _ _ _ c.new.result c.new-in-Some.result c.new.ensures.bytes c.new.ensures.pos c.new-in-Some.ensures.bytes c.new-in-Some.ensures.pos) ∙ there

pub returns-in-None-clause-answers : goal.returns-in-None-clause-answers
returns-in-None-clause-answers g c t order h q =
    let s = c.search_key.ensures.answers t order h q in
    none_found (entry_at c.args.this.bytes {K = g.row.K.Denot} {V = g.row.V.Denot}) c.search_key.result.0 (descend order t) s.0 c.in-None.is

pub returns-in-Some-clause-found : goal.returns-in-Some-clause-found
returns-in-Some-clause-found g c t h =
    finds_some (entry_at c.args.this.bytes {K = g.row.K.Denot} {V = g.row.V.Denot}) _ (items t) c.search_key.result.0 c.in-Some.entry (c.new.result, c.new-in-Some.result) (c.search_key.ensures.found t h) c.in-Some.is
    (pair_is _ _ _ c.new.result c.new-in-Some.result c.new.ensures.bytes c.new.ensures.pos c.new-in-Some.ensures.bytes c.new-in-Some.ensures.pos)

pub returns-in-Some-clause-there : goal.returns-in-Some-clause-there
returns-in-Some-clause-there g c =
    found_there g.K.Portable.shape g.V.Portable.shape g.K.Portable.knows g.V.Portable.knows c.args.this.bytes.now g.row.E c.args.this.pos c.requires.has
    (entry_at c.args.this.bytes {K = g.row.K.Denot} {V = g.row.V.Denot}) _ (λ r. HasValue g.K.Portable.shape g.K.Portable.knows r.0.bytes.now r.0.pos × HasValue g.V.Portable.shape g.V.Portable.knows r.1.bytes.now r.1.pos)
    (λ e h. h) (Some (c.new.result, c.new-in-Some.result)) (returns-in-Some-clause-found g c)

pub returns-in-Some-clause-looks_up : goal.returns-in-Some-clause-looks_up
returns-in-Some-clause-looks_up g c t h =
    let entry = option_map place_of c.search_key.result.0 in
    let there = found_at (entry_at c.args.this.bytes {K = g.row.K.Denot} {V = g.row.V.Denot}) c.search_key.result.0 entry c.in-Some.entry refl c.in-Some.is in
    (entry, c.search_key.ensures.descends t h, ap Some (pair_is _ _ _ c.new.result c.new-in-Some.result c.new.ensures.bytes c.new.ensures.pos c.new-in-Some.ensures.bytes c.new-in-Some.ensures.pos) ∙ there)

pub returns-in-None-clause-looks_up : goal.returns-in-None-clause-looks_up
returns-in-None-clause-looks_up g c t h =
    let entry = option_map place_of c.search_key.result.0 in
    (entry, c.search_key.ensures.descends t h, none_found (entry_at c.args.this.bytes {K = g.row.K.Denot} {V = g.row.V.Denot}) c.search_key.result.0 entry refl c.in-None.is)
