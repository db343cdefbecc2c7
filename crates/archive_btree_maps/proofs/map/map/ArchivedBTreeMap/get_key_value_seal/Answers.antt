use Rattle.std.proofs.Common.{◌∙◌, ◌+◌, ◌≤◌, length, take, ap, arith, sym}
use Rattle.std.specs.Option.{option_map}
use Rattle.std.proofs.lemmas.List.Elements.{All-contains}
use Rattle.archive_shape_layout.specs.Shape.{size_of}
use Rattle.archive_btree_layout.specs.Tree.{items}
use Rattle.archive_btree_maps.specs.SearchingNodes.{place_of}
use Rattle.archive_forms_values.proofs.Lent.{lent_there}
use Rattle.archive_forms_values.specs.Parts.{HasValue}
use Rattle.archive_btree_maps.proofs.Roots.{tree_of_value}
use Rattle.archive_btree_maps.proofs.Sealed.{nothing_written, values_within, keys_before, found_entry}
use Rattle.archive_btree_maps.proofs.map.map.ArchivedBTreeMap.get_key_value_seal.Goals as goal

pub lend_entry-requires : goal.lend_entry-requires
lend_entry-requires g c =
    let has = c.requires.has in
    let m = tree_of_value has in
    let v = g.V.Portable.shape in
    let bytes = c.args.this.bytes.now in
    let found = found_entry _ (items m.search_tree) c.search_key.result.0 c.in-Some.entry (c.search_key.ensures.found m.search_tree m.map) c.in-Some.is in
    let own =
    All-contains (λ e. e.value + size_of v ≤ length bytes) (items m.search_tree) (place_of c.in-Some.entry)
    (values_within g.row.E g.K.Portable.shape v g.K.Portable.knows g.V.Portable.knows bytes c.args.this.pos has m.search_tree m.map) found.0
    in
    omega (arith, own, g.met.V.Portable.sized)

pub returns-in-Some-clause-there : goal.returns-in-Some-clause-there
returns-in-Some-clause-there g c =
    let has = c.requires.has in
    let m = tree_of_value has in
    let k = g.K.Portable.shape in
    let v = g.V.Portable.shape in
    let knows = g.K.Portable.knows in
    let bytes = c.args.this.bytes.now in
    let e = place_of c.in-Some.entry in
    let found = found_entry _ (items m.search_tree) c.search_key.result.0 c.in-Some.entry (c.search_key.ensures.found m.search_tree m.map) c.in-Some.is in
    let key =
    All-contains (λ e. HasValue k knows (take e.value bytes) e.key) (items m.search_tree) e
    (keys_before g.row.E k v knows g.V.Portable.knows bytes c.args.this.pos has m.search_tree m.map bytes (nothing_written v (items m.search_tree) bytes)) found.0
    in
    (lent_there (HasValue k knows) g.V.Portable.SIZE bytes e.key e.value c.lend_entry.result.0 c.lend_entry.result.1 c.lend_entry.ensures key, c.lend_entry.ensures.own_value.len)

pub returns-in-Some-clause-found : goal.returns-in-Some-clause-found
returns-in-Some-clause-found g c t h =
    let found = found_entry _ (items t) c.search_key.result.0 c.in-Some.entry (c.search_key.ensures.found t h) c.in-Some.is in
    (place_of c.in-Some.entry, found.0, found.1, c.lend_entry.ensures)

pub returns-in-Some-clause-answers : goal.returns-in-Some-clause-answers
returns-in-Some-clause-answers g c t order h q =
    let s = c.search_key.ensures.answers t order h q in
    (place_of c.in-Some.entry, sym s.0 ∙ ap (option_map place_of) c.in-Some.is, c.lend_entry.ensures)

pub returns-in-None-clause-answers : goal.returns-in-None-clause-answers
returns-in-None-clause-answers g c t order h q = let s = c.search_key.ensures.answers t order h q in sym s.0 ∙ ap (option_map place_of) c.in-None.is
