-- What a key leads to in a hashed map whose walk has no fault.
use Rattle.std.proofs.Common.{◌≡◌, ℕ, ◌^◌, ◌<◌, ◌≤◌, map, List, Option, Some, None, refl, sym, ap, subst, ◌∙◌, arith}
use Rattle.std.specs.List.{slice_get}
use Rattle.std.specs.Option.{option_map}
use Rattle.std.proofs.Math.Logic.{∥∥₁_map}
use Rattle.archive_shape_layout.specs.Shape.Shape.{text}
use Rattle.archive_shape_layout.specs.Shape.Shapes.{no_shapes}
use Rattle.archive_shape_layout.specs.Value.{Value}
use Rattle.archive_shape_layout.specs.Content.{members}
use Rattle.archive_shape_layout.specs.Content.Part.{at}
use Rattle.archive_shape.specs.Key.{HeldAt}
use Rattle.archive_forms_values.specs.Fields.{field_position}
use Rattle.archive_forms_values.specs.Parts.{HasValue}
use Rattle.archive_shape_canonical.specs.FirstFit.{hash_tag}
use Rattle.archive_shape_canonical.specs.Hash.{text_hash}
use Rattle.archive_shape_canonical.specs.Strides.{sixteens}
use Rattle.archive_hash_maps.specs.Tables.{Buckets, full_places, item_positions, IsTableAt, IsTableOf}
use Rattle.archive_hash_maps.specs.Places.{LooksUp}
use Rattle.archive_hash_maps.proofs.Read.{table_is_read}
use Rattle.cabinet_documents.specs.Node.{node_shape, pair_shape, KnowsNode}
use Rattle.cabinet_documents.specs.Audit.{hashed_faults}
use Rattle.cabinet_documents.specs.Table.{Findable, found, hashed_at, table_of}
use Rattle.cabinet_documents.proofs.FoundKeys.{hashed_is_findable}
use Rattle.cabinet_archives.specs.Cost.{Searches}
use Rattle.cabinet_archives.specs.Hashed.{table_shape, HasBucket}
use Rattle.cabinet_archives.specs.Keyed.{KeyLeads, KeyLeadsNowhere, SaysKey, knows_pairs}
use Rattle.cabinet_archives.specs.Sound.{IsSoundPart}
use Rattle.cabinet_archives.proofs.Pairs.{read_at, got_read, pair_entry, pair_texts, entries_of_pairs, node_quiet}
use Rattle.cabinet_archives.proofs.PairsLeading.{FirstWith, NoneWith, quiet_part, none_leads, first_leads, first_way}
use Rattle.cabinet_archives.proofs.SlotLookups.{mapped_none, mapped_some}
use Rattle.cabinet_archives.proofs.TableLookups.{pair_at, text_of, text_table, FoundPlace, found_place, finds_itself, search_is, strides_are}
use Rattle.cabinet_archives.proofs.TablePairs.{table_in, table_quiet}
use Rattle.cabinet_archives.proofs.Tables.{table_is}
use Rattle.cabinet_archives.proofs.Texts.{text_at, held_keys}

module _ (bytes : List ℕ) (pos : ℕ) (key : List ℕ) (sound : IsSoundPart bytes (at pos table_shape)) (b : Buckets) (table : IsTableAt bytes pair_shape pos b) where
  -- each key is found
  all_found : Findable (text_table bytes b)
  all_found = hashed_is_findable (text_table bytes b) refl (quiet_part bytes (at pos table_shape) (hashed_faults (text_table bytes b)) sound (table_quiet bytes table))

  -- the place of a pair with the key is the one that is found
  record PairFound (i : ℕ) : Type 0 where
    place : ℕ
    there : slice_get (full_places b) i ≡ Some place
    is_found : found (text_table bytes b) key ≡ Some place

  pair_found : (i pair : ℕ) → slice_get (item_positions pair_shape b) i ≡ Some pair → text_at bytes pair ≡ key → PairFound i
  pair_found i pair there is =
      let p = read_at (pair_at bytes b) (full_places b) i pair there in
      let text_same : text_of bytes b p.it ≡ key = ap (text_at bytes) (sym p.is) ∙ is in
      record { place = p.it; there = p.there; is_found = finds_itself bytes b key all_found i p.it p.there text_same }

  pub none_with : found (text_table bytes b) key ≡ None → NoneWith bytes (item_positions pair_shape b) key
  none_with none i pair there is = let p = pair_found i pair there is in let f = p.is_found in cc

  pub first_with : (q : ℕ) → found (text_table bytes b) key ≡ Some q → FirstWith bytes (item_positions pair_shape b) key (pair_at bytes b q)
  first_with q is_found = record {
    index = place.first.index;
    there = got_read (pair_at bytes b) (full_places b) place.first.index q place.first.there;
    is_key = place.key_is;
    first = λ i other less e is.
        let p = pair_found i other e is in
        let f = p.is_found in
        let same : p.place ≡ q = cc in
        place.first.before i less (p.there ∙ ap Some same);
  }
    where
      place : FoundPlace bytes b key q
      place = found_place bytes b key q is_found

-- ---- by what a search finds

pub tag_low : (hash : ℕ) → hash < 2 ^ 64 → hash_tag hash < 128
unfolding hash_tag
tag_low hash low = omega (arith, low)

module _ (bytes : List ℕ) (pos : ℕ) (key : List ℕ) (hash : ℕ) (result : Option ℕ) (is_hash : hash ≡ text_hash key) (low : hash < 2 ^ 64)
    (answers : (b : Buckets) → IsTableAt bytes pair_shape pos b → (strides : ℕ) × LooksUp (SaysKey bytes key) pair_shape b hash result strides)
  where
    pub found_is : (b : Buckets) → IsTableAt bytes pair_shape pos b → result ≡ option_map (pair_at bytes b) (found (text_table bytes b) key)
    found_is b table =
        let a = answers b table in
        search_is bytes b key (subst (λ h. hash_tag h < 128) is_hash (tag_low hash low)) pos table result a.0 (subst (λ h. LooksUp (SaysKey bytes key) pair_shape b h result a.0) is_hash a.1)

    abbrev IsFoundAt : Buckets → ℕ → Type 0
    IsFoundAt b pair = (q : ℕ) × (found (text_table bytes b) key ≡ Some q) × (pair_at bytes b q ≡ pair)

    found_none : result ≡ None → (b : Buckets) → IsTableAt bytes pair_shape pos b → found (text_table bytes b) key ≡ None
    found_none none b table = mapped_none (pair_at bytes b) (found (text_table bytes b) key) (sym none ∙ found_is b table)

    found_some : (pair : ℕ) → result ≡ Some pair → (b : Buckets) → IsTableAt bytes pair_shape pos b → IsFoundAt b pair
    found_some pair some b table = mapped_some (pair_at bytes b) (found (text_table bytes b) key) pair (sym some ∙ found_is b table)

    -- the table of a value, with its entries
    table_of_value : (v : Value) → HeldAt table_shape knows_pairs bytes pos v → IsTableOf pair_shape knows_pairs bytes pos v
    table_of_value v h = table_is_read pair_shape knows_pairs bytes pos v h

    module _ (sound : IsSoundPart bytes (at pos table_shape)) where
      pub leads_nowhere : result ≡ None → (v : Value) → HeldAt table_shape knows_pairs bytes pos v → KeyLeadsNowhere v key
      leads_nowhere none v h =
          let m = table_of_value v h in
          none_leads bytes (item_positions pair_shape m.buckets) key v (entries_of_pairs bytes (item_positions pair_shape m.buckets) (members v) m.items)
          (none_with bytes pos key sound m.buckets m.table (found_none none m.buckets m.table))

      module _ (pair : ℕ) (some : result ≡ Some pair) (to : ℕ) (is_node : to ≡ field_position text no_shapes node_shape pair) where
        node_at : (b : Buckets) (f : IsFoundAt b pair) → field_position text no_shapes node_shape (pair_at bytes b f.0) ≡ to
        node_at b f = ap (field_position text no_shapes node_shape) f.2 ∙ sym is_node

        pub leads : (v : Value) → HeldAt table_shape knows_pairs bytes pos v → KeyLeads bytes v key to
        leads v h =
            let m = table_of_value v h in
            let f = found_some pair some m.buckets m.table in
            subst (KeyLeads bytes v key) (node_at m.buckets f)
            (first_leads bytes (item_positions pair_shape m.buckets) key v (entries_of_pairs bytes (item_positions pair_shape m.buckets) (members v) m.items) (pair_at bytes m.buckets f.0)
            (first_with bytes pos key sound m.buckets m.table f.0 f.1))

        module _ (has : HasValue table_shape knows_pairs bytes pos) where
          -- it is the node of a bucket with the key
          pub leads_by_bucket : HasBucket bytes pos key to
          leads_by_bucket =
              let m = table_of_value has.value has.held in
              let f = found_some pair some m.buckets m.table in
              subst (HasBucket bytes pos key) (node_at m.buckets f)
              (record {
                buckets = m.buckets;
                map = m.table;
                pair = first_way bytes (item_positions pair_shape m.buckets) key has.value (entries_of_pairs bytes (item_positions pair_shape m.buckets) (members has.value) m.items) (pair_at bytes m.buckets f.0)
                    (first_with bytes pos key sound m.buckets m.table f.0 f.1);
              })

          -- it has no fault either
          pub leads_soundly : IsSoundPart bytes (at to node_shape)
          leads_soundly =
              let m = table_of_value has.value has.held in
              let f = found_some pair some m.buckets m.table in
              let first = first_with bytes pos key sound m.buckets m.table f.0 f.1 in
              subst (λ n. IsSoundPart bytes (at n node_shape)) (node_at m.buckets f)
              (∥∥₁_map sound (λ walk. node_quiet bytes (table_in bytes m.table walk.walked) walk.sound first.index (pair_at bytes m.buckets f.0) first.there))

-- ---- by how many strides it searches

module _ (bytes : List ℕ) (pos : ℕ) (key : List ℕ) (hash : ℕ) (result : Option ℕ) (n : ℕ) (is_hash : hash ≡ text_hash key) (low : hash < 2 ^ 64)
    (answers : (b : Buckets) → IsTableAt bytes pair_shape pos b → LooksUp (SaysKey bytes key) pair_shape b hash result n)
    (few : (b : Buckets) → IsTableAt bytes pair_shape pos b → n ≤ sixteens b.cap)
  where
    pub searches : (v : Value) → HeldAt table_shape knows_pairs bytes pos v → Searches (table_of hashed_at bytes pos v) key n
    searches v h =
        let m = table_is_read pair_shape knows_pairs bytes pos v h in
        let b = m.buckets in
        let positions = item_positions pair_shape b in
        let keys = held_keys node_shape bytes KnowsNode (map (pair_entry bytes) positions) (members v) (entries_of_pairs bytes positions (members v) m.items) ∙ pair_texts bytes positions in
        subst (λ t. Searches t key n) (sym (table_is (text_at bytes) pair_shape bytes pos v b m.table keys)) (
          strides_are bytes b key (subst (λ h. hash_tag h < 128) is_hash (tag_low hash low)) pos m.table result n (subst (λ h. LooksUp (SaysKey bytes key) pair_shape b h result n) is_hash (answers b m.table)),
          few b m.table,
        )
