use denote.MutBor.{as_bor}
use Rattle.std.proofs.Common.{◌∙◌, ◌+◌, ◌≤◌, length, take, ap, arith, refl, sym}
use Rattle.std.specs.Option.{option_map}
use Rattle.std.proofs.lemmas.List.Elements.{All-contains}
use Rattle.archive_shape_layout.specs.Shape.{size_of}
use Rattle.archive_forms_values.specs.Loans.{MayCallLent}
use Rattle.archive_forms_values.proofs.Lent.{lent_there}
use Rattle.archive_btree_layout.specs.Tree.{items}
use Rattle.archive_btree_maps.specs.SearchingNodes.{place_of}
use Rattle.archive_forms_values.specs.Parts.{HasValue}
use Rattle.archive_btree_maps.specs.Lookups.{CallsEqual}
use Rattle.archive_btree_maps.proofs.Refs.{finds_called}
use Rattle.archive_btree_maps.proofs.HeldKeys.{entries_are}
use Rattle.archive_btree_maps.proofs.Roots.{tree_of_value}
use Rattle.archive_btree_maps.proofs.Sealed.{nothing_written, values_within, keys_before, found_entry}
use Rattle.archive_btree_maps.proofs.map.map.ArchivedBTreeMap.visit_key_value_seal_with.Goals as goal

pub search_map-requires-clause-callable : goal.search_map-requires-clause-callable
search_map-requires-clause-callable g c t h i d less =
    let key =
    entries_are g.K.Portable.shape g.V.Portable.shape g.K.Portable.knows g.V.Portable.knows c.args.this.bytes.now (λ e. HasValue g.K.Portable.shape g.K.Portable.knows c.args.this.bytes.now e.key)
    (λ e u w held other. record { value = u; held = held }) g.row.E c.args.this.pos c.requires.has t h i d less
    in
    c.requires.callable t _ h refl i d less key

pub visit_entry-requires-clause-within : goal.visit_entry-requires-clause-within
visit_entry-requires-clause-within g c =
    let has = c.requires.has in
    let m = tree_of_value has in
    let v = g.V.Portable.shape in
    let bytes = c.args.this.bytes.now in
    let found = found_entry (CallsEqual (goal.F-post g) c.args.compare.now c.args.query (as_bor c.args.this.bytes)) (items m.search_tree) c.search_map.result.0 c.in-Some.entry
    (finds_called (CallsEqual (goal.F-post g) c.args.compare.now c.args.query (as_bor c.args.this.bytes)) (items m.search_tree) c.search_map.result.0 (c.search_map.ensures.found m.search_tree m.map)) c.in-Some.is in
    let own =
    All-contains (λ e. e.value + size_of v ≤ length bytes) (items m.search_tree) (place_of c.in-Some.entry)
    (values_within g.row.E g.K.Portable.shape v g.K.Portable.knows g.V.Portable.knows bytes c.args.this.pos has m.search_tree m.map) found.0
    in
    omega (arith, own, g.met.V.Portable.sized)

pub visit_entry-requires-clause-callable : goal.visit_entry-requires-clause-callable
visit_entry-requires-clause-callable g c key value lent =
    let has = c.requires.has in
    let m = tree_of_value has in
    let k = g.K.Portable.shape in
    let v = g.V.Portable.shape in
    let knows = g.K.Portable.knows in
    let size = g.V.Portable.SIZE in
    let bytes = c.args.this.bytes.now in
    let e = place_of c.in-Some.entry in
    let found = found_entry (CallsEqual (goal.F-post g) c.args.compare.now c.args.query (as_bor c.args.this.bytes)) (items m.search_tree) c.search_map.result.0 c.in-Some.entry
    (finds_called (CallsEqual (goal.F-post g) c.args.compare.now c.args.query (as_bor c.args.this.bytes)) (items m.search_tree) c.search_map.result.0 (c.search_map.ensures.found m.search_tree m.map)) c.in-Some.is in
    let before =
    All-contains (λ e. HasValue k knows (take e.value bytes) e.key) (items m.search_tree) e
    (keys_before g.row.E k v knows g.V.Portable.knows bytes c.args.this.pos has m.search_tree m.map bytes (nothing_written v (items m.search_tree) bytes)) found.0
    in
    let there = lent_there (HasValue k knows) size bytes e.key e.value key value.now lent before in
    All-contains (λ e. MayCallLent size bytes e.key e.value (λ key. HasValue k knows key.bytes.now key.pos) (goal.G-pre g c.args.visit.now)) (items m.search_tree) e (c.requires.visitable m.search_tree m.map) found.0 key value there lent

pub returns-clause-found : goal.returns-clause-found
returns-clause-found g c t h =
    let found = found_entry (CallsEqual (goal.F-post g) c.args.compare.now c.args.query (as_bor c.args.this.bytes)) (items t) c.search_map.result.0 c.in-Some.entry
    (finds_called (CallsEqual (goal.F-post g) c.args.compare.now c.args.query (as_bor c.args.this.bytes)) (items t) c.search_map.result.0 (c.search_map.ensures.found t h)) c.in-Some.is in
    (place_of c.in-Some.entry, found.0, (as_bor c.args.this.bytes, refl, found.1), c.visit_entry.ensures)

pub returns-clause-answers : goal.returns-clause-answers
returns-clause-answers g c t order h q =
    let s = c.search_map.ensures.answers t order h (λ i d less r p. q _ refl i d less r p) in
    (place_of c.in-Some.entry, sym s.0 ∙ ap (option_map place_of) c.in-Some.is, c.visit_entry.ensures)

pub returns-in_default-clause-answers : goal.returns-in_default-clause-answers
returns-in_default-clause-answers g c t order h q =
    let s = c.search_map.ensures.answers t order h (λ i d less r p. q _ refl i d less r p) in
    (sym s.0 ∙ ap (option_map place_of) c.in_default.is, (refl, refl))
