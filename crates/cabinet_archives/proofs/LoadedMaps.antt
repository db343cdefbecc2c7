-- The entries of maps that are loaded, for each kind of map.
use Rattle.std.proofs.Common.{◌≡◌, ℕ, ◌+◌, Bor, List, [], ◌∷◌, map, refl, sym, ap, subst, ◌∙◌, arith}
use Rattle.std.specs.Prelude.{⊤, All}
use Rattle.std.proofs.lemmas.List.Elements.{All-nil, All-cons}
use Rattle.archive_shape_layout.specs.Shape.Shape.{text}
use Rattle.archive_shape_layout.specs.Value.{Value}
use Rattle.archive_shape_layout.specs.Content.{members}
use Rattle.archive_shape.specs.Key.{HeldAt}
use Rattle.archive_btree_layout.specs.Reading.{Place}
use Rattle.archive_btree_layout.specs.Tree.{Tree as SearchTree, items}
use Rattle.archive_btree_maps.specs.Maps.{IsMapAt, IsMapOf, AreEntriesAt}
use Rattle.archive_btree_maps.specs.Refs.{entry_at}
use Rattle.archive_btree_maps.proofs.One.{one_map}
use Rattle.archive_btree_maps.proofs.Roots.{tree_of_value}
use Rattle.archive_hash_maps.specs.Maps as hash
use Rattle.archive_hash_maps.specs.Tables.{Buckets, item_positions, IsTableAt, IsTableOf}
use Rattle.archive_hash_maps.proofs.Read.{one_table, table_is_read}
use Rattle.cabinet_text_grammar.specs.Keys.{ordered, hashed, kept}
use Rattle.cabinet_text_grammar.specs.Tree as tree
use Rattle.cabinet_text_grammar.specs.Tree.{Pairs, no_pairs}
use Rattle.cabinet_documents.specs.Denotes.{tagged_value}
use Rattle.cabinet_documents.specs.Node.{node_shape, pair_shape, KnowsNode}
use Rattle.archive_index.specs.Maps as index
use Rattle.archive_index.specs.Maps.{IndexMap, entry_positions}
use Rattle.archive_index.proofs.Read.{one_map as one_index}
use Rattle.cabinet_archives.specs.Hashed.{table_shape}
use Rattle.cabinet_archives.specs.Kept.{OfKept, index_shape}
use Rattle.cabinet_archives.specs.Keyed.{knows_pairs}
use Rattle.cabinet_archives.specs.Loading.{HasTree, OfTree, IsEntry, LeadTo}
use Rattle.cabinet_archives.specs.Ordered.{map_shape}
use Rattle.cabinet_archives.proofs.IndexPairs.{entries_of, map_of_value}
use Rattle.cabinet_archives.proofs.LoadedEntries.{LoadedPair, positions, position_of, positions_are, all_there, all_lead, comes_in_order, AreSorting}
use Rattle.cabinet_archives.proofs.Pairs.{pair_entry, entries_of_pairs}

module _ (bytes : Bor (List ℕ)) where
  abbrev pub entries_at : List Place → List LoadedPair
  entries_at es = map (λ e. entry_at bytes e) es

  -- ---- ordered maps

  module _ {pos outer : ℕ} (has : HasTree (tagged_value 6) map_shape knows_pairs bytes.now pos outer)
    where
      the_map : IsMapOf text node_shape (λ _. ⊤) KnowsNode bytes.now 5 pos has.value
      the_map = tree_of_value (record { value = has.value; held = has.held })

      map_entries : (v : Value) → HeldAt map_shape knows_pairs bytes.now pos v → AreEntriesAt text node_shape (λ _. ⊤) KnowsNode bytes.now (items the_map.search_tree) (members v)
      map_entries v h =
          let m : IsMapOf text node_shape (λ _. ⊤) KnowsNode bytes.now 5 pos v = tree_of_value (record { value = v; held = h }) in
          subst (λ (t : SearchTree Place). AreEntriesAt text node_shape (λ _. ⊤) KnowsNode bytes.now (items t) (members v))
          (one_map bytes.now 5 text node_shape pos m.search_tree the_map.search_tree m.map the_map.map) m.entries

      pub ordered_are : (entries : List (ℕ × ℕ)) → ((t : SearchTree Place) → IsMapAt bytes.now 5 text node_shape pos t → entries ≡ map positions (entries_at (items t)))
          → All (IsEntry bytes.now (outer + 1)) entries × OfTree (tagged_value 6) map_shape knows_pairs bytes.now pos (λ t. (ps : Pairs) × (t ≡ tree.map ordered ps) × LeadTo bytes.now entries ps)
      ordered_are entries are =
          let same = sym (are the_map.search_tree the_map.map ∙ positions_are bytes (items the_map.search_tree)) in (
            subst (All (IsEntry bytes.now (outer + 1))) same (all_there bytes.now (omega arith) (omega arith) has (items the_map.search_tree) map_entries),
            subst (λ es. OfTree (tagged_value 6) map_shape knows_pairs bytes.now pos (λ t. (ps : Pairs) × (t ≡ tree.map ordered ps) × LeadTo bytes.now es ps)) same (all_lead bytes.now (omega arith) (omega arith) has (items the_map.search_tree) map_entries),
          )

  -- ---- hashed and kept maps

  abbrev pub pairs_at : List ℕ → List LoadedPair
  pairs_at ps = map (λ p. hash.entry_at bytes text node_shape p) ps

  -- the entries of pairs are where these are
  pairs_are : (ps : List ℕ) → pairs_at ps ≡ entries_at (map (pair_entry bytes.now) ps)
  pairs_are [] = refl
  pairs_are (p ∷ ps) = ap (λ (es : List LoadedPair). hash.entry_at bytes text node_shape p ∷ es) (pairs_are ps)

  -- all of them are of the same bytes
  pub pairs_bytes : (ps : List ℕ) → All (λ (e : LoadedPair). e.0.bytes ≡ bytes) (pairs_at ps)
  pairs_bytes [] = All-nil (λ (e : LoadedPair). e.0.bytes ≡ bytes)
  pairs_bytes (p ∷ ps) = All-cons (λ (e : LoadedPair). e.0.bytes ≡ bytes) (hash.entry_at bytes text node_shape p) (pairs_at ps) refl (pairs_bytes ps)

  -- ---- hashed maps

  module _ {pos outer : ℕ} (has : HasTree (tagged_value 7) table_shape knows_pairs bytes.now pos outer) (left : List LoadedPair)
      (are : (b : Buckets) → IsTableAt bytes.now pair_shape pos b → left ≡ pairs_at (item_positions pair_shape b))
    where
      the_table : IsTableOf pair_shape knows_pairs bytes.now pos has.value
      the_table = table_is_read pair_shape knows_pairs bytes.now pos has.value has.held

      abbrev places : List Place
      places = map (pair_entry bytes.now) (item_positions pair_shape the_table.buckets)

      table_entries : (v : Value) → HeldAt table_shape knows_pairs bytes.now pos v → AreEntriesAt text node_shape (λ _. ⊤) KnowsNode bytes.now places (members v)
      table_entries v h =
          let m : IsTableOf pair_shape knows_pairs bytes.now pos v = table_is_read pair_shape knows_pairs bytes.now pos v h in
          subst (λ (b : Buckets). AreEntriesAt text node_shape (λ _. ⊤) KnowsNode bytes.now (map (pair_entry bytes.now) (item_positions pair_shape b)) (members v))
          (one_table bytes.now pair_shape pos m.buckets the_table.buckets m.table the_table.table)
          (entries_of_pairs bytes.now (item_positions pair_shape m.buckets) (members v) m.items)

      left_are : left ≡ entries_at places
      left_are = are the_table.buckets the_table.table ∙ pairs_are (item_positions pair_shape the_table.buckets)

      left_positions : map positions left ≡ map position_of places
      left_positions = ap (map positions) left_are ∙ positions_are bytes places

      pub hashed_bytes : All (λ (e : LoadedPair). e.0.bytes ≡ bytes) left
      hashed_bytes = subst (All (λ (e : LoadedPair). e.0.bytes ≡ bytes)) (sym (are the_table.buckets the_table.table)) (pairs_bytes (item_positions pair_shape the_table.buckets))

      pub hashed_there : All (IsEntry bytes.now (outer + 1)) (map positions left)
      hashed_there = subst (All (IsEntry bytes.now (outer + 1))) (sym left_positions) (all_there bytes.now (omega arith) (omega arith) has places table_entries)

      pub hashed_sorting : OfTree (tagged_value 7) table_shape knows_pairs bytes.now pos (AreSorting bytes.now (map positions left) [])
      hashed_sorting = λ v t h d.
          let o = comes_in_order bytes.now (omega arith) (omega arith) has places table_entries v t h d in
          (o.0, no_pairs, o.1 ∙ ap (tree.map hashed) (sym o.2), subst (λ es. LeadTo bytes.now es o.0) (sym left_positions) o.3, tt)

  -- ---- kept maps

  module _ {pos outer : ℕ} (has : HasTree (tagged_value 8) index_shape knows_pairs bytes.now pos outer)
    where
      the_index : index.IsMapOf text node_shape (λ _. ⊤) KnowsNode bytes.now pos has.value
      the_index = map_of_value bytes.now pos has.value has.held

      abbrev entry_places : IndexMap → List Place
      entry_places m = map (pair_entry bytes.now) (entry_positions text node_shape m)

      index_entries : (v : Value) → HeldAt index_shape knows_pairs bytes.now pos v → AreEntriesAt text node_shape (λ _. ⊤) KnowsNode bytes.now (entry_places the_index.map) (members v)
      index_entries v h =
          let m = map_of_value bytes.now pos v h in
          subst (λ (i : IndexMap). AreEntriesAt text node_shape (λ _. ⊤) KnowsNode bytes.now (entry_places i) (members v))
          (one_index bytes.now text node_shape pos m.map the_index.map m.stands the_index.stands)
          (entries_of bytes.now pos v h)

      pub kept_are : (entries : List (ℕ × ℕ)) → OfKept bytes.now pos (λ m. entries ≡ map positions (pairs_at (entry_positions text node_shape m)))
          → All (IsEntry bytes.now (outer + 1)) entries × OfTree (tagged_value 8) index_shape knows_pairs bytes.now pos (λ t. (ps : Pairs) × (t ≡ tree.map kept ps) × LeadTo bytes.now entries ps)
      kept_are entries are =
          let ps = entry_positions text node_shape the_index.map in
          let same = sym (are the_index.map the_index.stands ∙ ap (map positions) (pairs_are ps) ∙ positions_are bytes (map (pair_entry bytes.now) ps)) in (
            subst (All (IsEntry bytes.now (outer + 1))) same (all_there bytes.now (omega arith) (omega arith) has (entry_places the_index.map) index_entries),
            subst (λ es. OfTree (tagged_value 8) index_shape knows_pairs bytes.now pos (λ t. (ps : Pairs) × (t ≡ tree.map kept ps) × LeadTo bytes.now es ps)) same (all_lead bytes.now (omega arith) (omega arith) has (entry_places the_index.map) index_entries),
          )
