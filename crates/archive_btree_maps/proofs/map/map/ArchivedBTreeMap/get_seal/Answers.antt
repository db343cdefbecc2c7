use Rattle.std.proofs.Common.{◌∙◌, ap, sym, subst}
use Rattle.std.specs.Option.{option_map}
use Rattle.std.proofs.lemmas.List.Elements.{All-contains}
use Rattle.archive_btree_layout.specs.Tree.{items}
use Rattle.archive_btree_maps.specs.SearchingNodes.{place_of}
use Rattle.archive_forms_values.specs.Parts.{HasValue}
use Rattle.archive_btree_maps.proofs.HeldKeys.{entries_are}
use Rattle.archive_btree_maps.proofs.Roots.{tree_of_value}
use Rattle.archive_btree_maps.proofs.Sealed.{found_entry}
use Rattle.archive_btree_maps.proofs.map.map.ArchivedBTreeMap.get_seal.Goals as goal

pub returns-in-Some-clause-answers : goal.returns-in-Some-clause-answers
returns-in-Some-clause-answers g c t order h q =
    let s = c.search_key.ensures.answers t order h q in (
      place_of c.in-Some.entry,
      sym s.0 ∙ ap (option_map place_of) c.in-Some.is,
      c.new.ensures.same_reference,
      c.new.ensures.bytes,
      c.new.ensures.pos,
    )

pub returns-in-None-clause-answers : goal.returns-in-None-clause-answers
returns-in-None-clause-answers g c t order h q = let s = c.search_key.ensures.answers t order h q in sym s.0 ∙ ap (option_map place_of) c.in-None.is

pub returns-in-Some-clause-there : goal.returns-in-Some-clause-there
returns-in-Some-clause-there g c =
    let v = g.V.Portable.shape in
    let knows = g.V.Portable.knows in
    let bytes = c.args.this.bytes.now in
    let m = tree_of_value c.requires.has in
    let found = found_entry _ (items m.search_tree) c.search_key.result.0 c.in-Some.entry (c.search_key.ensures.found m.search_tree m.map) c.in-Some.is in
    let value =
    All-contains (λ e. HasValue v knows bytes e.value) (items m.search_tree) (place_of c.in-Some.entry)
    (entries_are g.K.Portable.shape v g.K.Portable.knows knows bytes (λ e. HasValue v knows bytes e.value) (λ e u w key held. record { value = w; held = held }) g.row.E c.args.this.pos c.requires.has m.search_tree m.map)
    found.0
    in
    subst (λ b. HasValue v knows b c.new.result.pos) (sym c.new.ensures.bytes) (subst (HasValue v knows bytes) (sym c.new.ensures.pos) value)
