-- The entries of a kept map, as pairs, and in a walk of the map: in their order, and beside the faults of its table.
use Rattle.std.proofs.Common.{◌≡◌, ◌∙◌, ℕ, zero, suc, ◌+◌, ◌*◌, ◌<◌, List, [], ◌∷◌, length, map, Some, refl, sym, ap, subst, arith}
use Rattle.std.specs.Prelude.{⊤}
use Rattle.std.proofs.lemmas.List.{length-map}
use Rattle.archive_shape_layout.specs.Bytes.{word_at}
use Rattle.archive_shape_layout.specs.Shape.{size_of}
use Rattle.archive_shape_layout.specs.Shape.Shape.{text}
use Rattle.archive_shape_layout.specs.Value.{Value, Values, count_values}
use Rattle.archive_shape_layout.specs.Value.Values.{no_values, more_values}
use Rattle.archive_shape_layout.specs.Content.{members}
use Rattle.archive_shape_layout.specs.Content.Part.{at}
use Rattle.archive_shape.specs.Key.{HeldAt}
use Rattle.archive_forms_laws.specs.Sample.{number_shape}
use Rattle.archive_shape_layout.specs.Path.{value_in}
use Rattle.archive_forms_values.specs.Parts.{AreElements}
use Rattle.archive_btree_maps.specs.Maps.{AreEntriesAt}
use Rattle.archive_hash_maps.specs.Tables.{IsTableAt, AreItemsAt}
use Rattle.archive_hash_maps.specs.Tables.IsTableAt.{has_none, has_buckets}
use Rattle.cabinet_documents.specs.Audit.{kept_faults}
use Rattle.cabinet_documents.specs.Node.{node_names, node_shape, pair_shape, KnowsNode}
use Rattle.cabinet_documents.specs.Table.{kept_at, table_of}
use Rattle.cabinet_documents.specs.Walk.{Stop, Walks}
use Rattle.archive_index.specs.Maps.{IndexMap, IsMapAt, IsMapOf, adjacent, count_of, entry_positions}
use Rattle.cabinet_documents.proofs.IndexWalks.{pair_places, index_walked, empty_index_walked}
use Rattle.cabinet_documents.proofs.TableSound.{no_table}
use Rattle.cabinet_documents.proofs.TreeWalks.{ItemsWalk, text_quiet}
use Rattle.archive_index.proofs.Read.{map_is_read}
use Rattle.cabinet_archives.specs.Kept.{index_shape}
use Rattle.cabinet_archives.specs.Keyed.{knows_pairs}
use Rattle.cabinet_archives.specs.Sound.{HasSoundWalk}
use Rattle.cabinet_archives.proofs.IndexLookups.{key_count, key_table, key_texts}
use Rattle.cabinet_archives.proofs.Pairs.{PairsIn, pair_entry, pair_texts, pairs_keys, entries_of_pairs, own_quiet, no_pairs, pair_here}
use Rattle.cabinet_archives.proofs.Tables.{index_table_is}
use Rattle.cabinet_archives.proofs.Texts.{text_at, held_keys}

-- elements side by side, one for each position
pub items_aside : (bytes : List ℕ) (start n : ℕ) (vs : Values) → count_values vs ≡ n
    → ((i : ℕ) → i < n → (x : Value) × (value_in i vs ≡ Some x) × HeldAt pair_shape knows_pairs bytes (start + i * size_of pair_shape) x)
    → AreItemsAt pair_shape knows_pairs bytes (adjacent (size_of pair_shape) start n) vs
items_aside bytes start zero no_values count each = tt
items_aside bytes start zero (more_values v vs) count each = absurd (omega (arith, count))
items_aside bytes start (suc n) no_values count each = absurd (omega (arith, count))
items_aside bytes start (suc n) (more_values v vs) count each =
    let one = each 0 (omega arith) in
    let first = one.1 in
    let same : one.0 ≡ v = cc in
    let here : start + 0 * size_of pair_shape ≡ start = omega arith in (
      subst (λ p. HeldAt pair_shape knows_pairs bytes p v) here (subst (HeldAt pair_shape knows_pairs bytes (start + 0 * size_of pair_shape)) same one.2),
      items_aside bytes (start + size_of pair_shape) n vs (omega (arith, count)) (λ i less.
          let x = each (suc i) (omega (arith, less)) in
          let next : start + suc i * size_of pair_shape ≡ start + size_of pair_shape + i * size_of pair_shape = omega arith in
          (x.0, x.1, subst (λ p. HeldAt pair_shape knows_pairs bytes p x.0) next x.2)),
    )

module _ (bytes : List ℕ) where
  -- ---- as the layout holds them

  pub positions_counted : (m : IndexMap) → length (entry_positions text node_shape m) ≡ count_of m
  positions_counted m = sym (length-map (entry_positions text node_shape m) (text_at bytes)) ∙ key_count bytes m

  pub map_of_value : (pos : ℕ) (v : Value) → HeldAt index_shape knows_pairs bytes pos v → IsMapOf text node_shape (λ _. ⊤) KnowsNode bytes pos v
  map_of_value pos v h = map_is_read text node_shape (λ _. ⊤) KnowsNode bytes pos v h

  pub entries_of : (pos : ℕ) (v : Value) (h : HeldAt index_shape knows_pairs bytes pos v)
      → AreEntriesAt text node_shape (λ _. ⊤) KnowsNode bytes (map (pair_entry bytes) (entry_positions text node_shape (map_of_value pos v h).map)) (members v)
  entries_of pos v h =
      let r = map_of_value pos v h in
      let e : AreElements pair_shape knows_pairs bytes r.map.start (count_of r.map) v = r.entries in
      let are = entries_of_pairs bytes (entry_positions text node_shape r.map) e.elements (items_aside bytes r.map.start (count_of r.map) e.elements e.count e.each) in
      subst (AreEntriesAt text node_shape (λ _. ⊤) KnowsNode bytes (map (pair_entry bytes) (entry_positions text node_shape r.map))) (ap members (sym e.is)) are

  -- ---- in a walk

  abbrev pub IndexIn : (depth pos : ℕ) → IndexMap → Value → List Stop → Type 0
  IndexIn depth pos m v walk = PairsIn bytes depth (entry_positions text node_shape m) (kept_faults (table_of kept_at bytes pos v)) v walk

  pairs_here : (p n : ℕ) → pair_places text node_shape p n ≡ map (pair_entry bytes) (adjacent (size_of pair_shape) p n)
  pairs_here p zero = refl
  pairs_here p (suc n) =
      let next = p + size_of pair_shape in
      ap (λ e. e ∷ pair_places text node_shape next n) (pair_here bytes p) ∙ ap (λ es. pair_entry bytes p ∷ es) (pairs_here next n)

  pub index_in : {depth pos : ℕ} {m : IndexMap} {v : Value} {walk : List Stop} → IsMapAt bytes text node_shape pos m → Walks node_names bytes depth (at pos index_shape) v walk → IndexIn depth pos m v walk
  index_in {depth = depth} {pos = pos} {m = m} {v = v} {walk = walk} stands h = by stands.table
    where
      by : IsTableAt bytes number_shape pos m.buckets → IndexIn depth pos m v walk
      by (has_none none is) =
          no_pairs bytes (empty_index_walked node_names bytes text node_shape none h) (ap (λ b. entry_positions text node_shape (record { buckets = b; start = m.start })) is)
          (ap kept_faults (no_table bytes kept_at pos v none))
      by (has_buckets some leads places fewer controls within room are count) =
          let next = stands.leads (λ none. some (sym count ∙ none)) in
          let w = index_walked node_names bytes text node_shape some leads next (text_quiet node_names bytes (depth + 1)) h in
          record {
            runs = w.runs;
            items = subst (λ ps. ItemsWalk node_names bytes text node_shape (depth + 1) ps (members v) w.runs) (ap (pair_places text node_shape m.start) (sym count) ∙ pairs_here m.start (count_of m)) w.items;
            faults_are = w.faults_are;
          }

  -- without entries there are no keys
  no_keys : {pos : ℕ} {m : IndexMap} → IsMapAt bytes text node_shape pos m → word_at bytes (pos + 4) ≡ 0 → key_texts bytes m ≡ []
  no_keys {pos = pos} {m = m} stands none = by stands.table
    where
      by : IsTableAt bytes number_shape pos m.buckets → key_texts bytes m ≡ []
      by (has_none word is) = ap (λ b. key_texts bytes (record { buckets = b; start = m.start })) is
      by (has_buckets some leads places fewer controls within room are count) = absurd (some none)

  -- its table, by its entries' texts
  pub walked_table : {depth pos : ℕ} {m : IndexMap} {v : Value} {walk : List Stop} → IsMapAt bytes text node_shape pos m → Walks node_names bytes depth (at pos index_shape) v walk
      → table_of kept_at bytes pos v ≡ key_table bytes m
  walked_table {pos = pos} {m = m} {v = v} stands h =
      index_table_is bytes (key_texts bytes m) pos v m.buckets stands.table (pairs_keys bytes (index_in stands h)) (no_keys stands)

  -- the table of a value that the layout holds
  pub held_table : (pos : ℕ) (v : Value) (h : HeldAt index_shape knows_pairs bytes pos v) → table_of kept_at bytes pos v ≡ key_table bytes (map_of_value pos v h).map
  held_table pos v h =
      let r = map_of_value pos v h in
      let positions = entry_positions text node_shape r.map in
      index_table_is bytes (key_texts bytes r.map) pos v r.map.buckets r.stands.table
      (held_keys node_shape bytes KnowsNode (map (pair_entry bytes) positions) (members v) (entries_of pos v h) ∙ pair_texts bytes positions) (no_keys r.stands)

  -- where a walk has no fault, the table has none
  pub index_quiet : {pos : ℕ} {m : IndexMap} → IsMapAt bytes text node_shape pos m → HasSoundWalk bytes (at pos index_shape) → kept_faults (key_table bytes m) ≡ []
  index_quiet stands walk = ap kept_faults (sym (walked_table stands walk.walked)) ∙ own_quiet bytes (index_in stands walk.walked) walk.sound
