-- The keys of ordered and kept maps, as iterators over them yield them.
use Rattle.std.proofs.Common.{◌≡◌, ℕ, Bor, List, [], ◌∷◌, length, map, refl, sym, ap, ◌∙◌}
use Rattle.std.specs.Prelude.{⊤}
use Rattle.std.proofs.lemmas.List.{length-map}
use Rattle.archive_shape_layout.specs.Shape.Shape.{text}
use Rattle.archive_shape_layout.specs.Value.{Value}
use Rattle.archive_shape_layout.specs.Content.{members}
use Rattle.archive_shape.specs.Key.{HeldAt}
use Rattle.archive_shape.specs.declared.references.refs.Ref.{Ref}
use Rattle.archive_forms_values.specs.Parts.{HasValue}
use Rattle.archive_forms_values.specs.declared.text.string.ArchivedString.{ArchivedString}
use Rattle.archive_btree_layout.specs.Reading.{Place}
use Rattle.archive_btree_layout.specs.Tree.{Tree, items}
use Rattle.archive_btree_maps.specs.Maps.{IsMapAt, IsMapOf}
use Rattle.archive_btree_maps.specs.Refs.{key_at}
use Rattle.archive_btree_maps.proofs.Roots.{tree_of_value}
use Rattle.archive_hash_maps.specs.Maps as pairs
use Rattle.cabinet_documents.specs.Node.{node_shape, KnowsNode}
use Rattle.cabinet_documents.specs.Table.{item_keys}
use Rattle.archive_index.specs.Maps.{count_of, entry_positions}
use Rattle.cabinet_archives.specs.Kept.{OfKept, index_shape}
use Rattle.cabinet_archives.specs.Keyed.{knows_pairs}
use Rattle.cabinet_archives.specs.Ordered.{map_shape}
use Rattle.cabinet_archives.proofs.Ascending.{text_of}
use Rattle.cabinet_archives.proofs.IndexPairs.{entries_of, map_of_value, positions_counted}
use Rattle.cabinet_archives.proofs.Pairs.{pair_entry, pair_texts}
use Rattle.cabinet_archives.proofs.Texts.{text_at, texts_at, held_keys}

module _ (bytes : Bor (List ℕ)) (pos : ℕ) where
  -- ---- of an ordered map

  places_texts : (ps : List Place) → map text_of (map (key_at bytes) ps) ≡ texts_at bytes.now ps
  places_texts [] = refl
  places_texts (p ∷ ps) = ap (λ ks. text_at bytes.now p.key ∷ ks) (places_texts ps)

  pub ordered_count : HasValue map_shape knows_pairs bytes.now pos → (left : List (Ref ArchivedString)) → ((t : Tree Place) → IsMapAt bytes.now 5 text node_shape pos t → left ≡ map (key_at bytes) (items t))
      → (n : ℕ) → ((t : Tree Place) → IsMapAt bytes.now 5 text node_shape pos t → n ≡ length (items t)) → length left ≡ n
  ordered_count has left are n says =
      let m : IsMapOf text node_shape (λ _. ⊤) KnowsNode bytes.now 5 pos has.value = tree_of_value has in
      ap length (are m.search_tree m.map) ∙ (length-map (items m.search_tree) (key_at bytes) ∙ sym (says m.search_tree m.map))

  pub ordered_texts : (left : List (Ref ArchivedString)) → ((t : Tree Place) → IsMapAt bytes.now 5 text node_shape pos t → left ≡ map (key_at bytes) (items t)) → (v : Value) → HeldAt map_shape knows_pairs bytes.now pos v → map text_of left ≡ item_keys (members v)
  ordered_texts left are v h =
      let m : IsMapOf text node_shape (λ _. ⊤) KnowsNode bytes.now 5 pos v = tree_of_value (record { value = v; held = h }) in
      ap (map text_of) (are m.search_tree m.map) ∙ (places_texts (items m.search_tree) ∙ sym (held_keys node_shape bytes.now KnowsNode (items m.search_tree) (members v) m.entries))

  -- ---- of a kept map

  positions_texts : (ps : List ℕ) → map text_of (map (pairs.key_at bytes) ps) ≡ map (text_at bytes.now) ps
  positions_texts [] = refl
  positions_texts (p ∷ ps) = ap (λ ks. text_at bytes.now p ∷ ks) (positions_texts ps)

  pub kept_count : HasValue index_shape knows_pairs bytes.now pos → (left : List (Ref ArchivedString)) → OfKept bytes.now pos (λ m. left ≡ map (pairs.key_at bytes) (entry_positions text node_shape m))
      → (n : ℕ) → OfKept bytes.now pos (λ m. n ≡ count_of m) → length left ≡ n
  kept_count has left are n says =
      let r = map_of_value bytes.now pos has.value has.held in
      ap length (are r.map r.stands) ∙ (length-map (entry_positions text node_shape r.map) (pairs.key_at {K = ArchivedString} bytes) ∙ (positions_counted bytes.now r.map ∙ sym (says r.map r.stands)))

  pub kept_texts : (left : List (Ref ArchivedString)) → OfKept bytes.now pos (λ m. left ≡ map (pairs.key_at bytes) (entry_positions text node_shape m)) → (v : Value) → HeldAt index_shape knows_pairs bytes.now pos v → map text_of left ≡ item_keys (members v)
  kept_texts left are v h =
      let r = map_of_value bytes.now pos v h in
      let ps = entry_positions text node_shape r.map in
      ap (map text_of) (are r.map r.stands)
      ∙ (positions_texts ps ∙ (sym (pair_texts bytes.now ps) ∙ sym (held_keys node_shape bytes.now KnowsNode (map (pair_entry bytes.now) ps) (members v) (entries_of bytes.now pos v h))))
