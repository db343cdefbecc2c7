use Rattle.std.proofs.Common.{◌∙◌, Some, refl, ap}
use Rattle.std.specs.Option.{option_map}
use Rattle.archive_btree_layout.specs.Descent.{descend}
use Rattle.archive_btree_maps.specs.SearchingNodes.{place_of}
use Rattle.archive_btree_maps.specs.Refs.{value_at}
use Rattle.archive_btree_maps.proofs.Refs.{ref_is, found_at, none_found, finds_some}
use Rattle.archive_btree_maps.proofs.HeldKeys.{found_there}
use Rattle.archive_btree_layout.specs.Tree.{items}
use Rattle.archive_forms_values.specs.Parts.{HasValue}
use Rattle.archive_btree_maps.proofs.map.map.ArchivedBTreeMap.get_counted.Goals as goal

pub returns-in-Some-clause-answers : goal.returns-in-Some-clause-answers
returns-in-Some-clause-answers g c t order h q =
    let s = c.search_key-found.ensures.answers t order h q in
    let there = found_at (value_at c.args.this.bytes {V = g.row.V.Denot}) c.search_key-found.result.0 (descend order t) c.in-Some.entry s.0 c.in-Some.is in
    (ap Some (ref_is _ _ _ c.new.ensures.bytes c.new.ensures.pos) ∙ there, s.1)

pub returns-in-None-clause-answers : goal.returns-in-None-clause-answers
returns-in-None-clause-answers g c t order h q =
    let s = c.search_key-found.ensures.answers t order h q in
    (none_found (value_at c.args.this.bytes {V = g.row.V.Denot}) c.search_key-found.result.0 (descend order t) s.0 c.in-None.is, s.1)

pub returns-in-Some-clause-found : goal.returns-in-Some-clause-found
returns-in-Some-clause-found g c t h =
    finds_some (value_at c.args.this.bytes {V = g.row.V.Denot}) _ (items t) c.search_key-found.result.0 c.in-Some.entry c.new.result (c.search_key-found.ensures.found t h) c.in-Some.is
    (ref_is _ _ _ c.new.ensures.bytes c.new.ensures.pos)

pub returns-in-Some-clause-there : goal.returns-in-Some-clause-there
returns-in-Some-clause-there g c =
    found_there g.K.Portable.shape g.V.Portable.shape g.K.Portable.knows g.V.Portable.knows c.args.this.bytes.now g.row.E c.args.this.pos c.requires.has
    (value_at c.args.this.bytes {V = g.row.V.Denot}) _ (λ r. HasValue g.V.Portable.shape g.V.Portable.knows r.bytes.now r.pos) (λ e h. h.1) (Some c.new.result) (returns-in-Some-clause-found g c)

pub returns-in-Some-clause-looks_up : goal.returns-in-Some-clause-looks_up
returns-in-Some-clause-looks_up g c t h =
    let entry = option_map place_of c.search_key-found.result.0 in
    let there = found_at (value_at c.args.this.bytes {V = g.row.V.Denot}) c.search_key-found.result.0 entry c.in-Some.entry refl c.in-Some.is in
    (entry, c.search_key-found.ensures.descends t h, ap Some (ref_is _ _ _ c.new.ensures.bytes c.new.ensures.pos) ∙ there)

pub returns-in-None-clause-looks_up : goal.returns-in-None-clause-looks_up
returns-in-None-clause-looks_up g c t h =
    let entry = option_map place_of c.search_key-found.result.0 in
    (entry, c.search_key-found.ensures.descends t h, none_found (value_at c.args.this.bytes {V = g.row.V.Denot}) c.search_key-found.result.0 entry refl c.in-None.is)
