-- What a key leads to in a kept map whose walk has no fault.
use Rattle.std.proofs.Common.{◌≡◌, ℕ, ◌^◌, ◌<◌, List, Option, Some, None, sym, ap, subst, ◌∙◌, arith}
use Rattle.std.specs.Option.{option_map}
use Rattle.std.proofs.Math.Logic.{∥∥₁_map}
use Rattle.archive_shape_layout.specs.Shape.{size_of}
use Rattle.archive_shape_layout.specs.Shape.Shape.{text}
use Rattle.archive_shape_layout.specs.Shape.Shapes.{no_shapes}
use Rattle.archive_shape_layout.specs.Value.{Value}
use Rattle.archive_shape_layout.specs.Content.Part.{at}
use Rattle.archive_shape.specs.Key.{HeldAt}
use Rattle.archive_forms_values.specs.Fields.{field_position}
use Rattle.archive_forms_values.specs.Parts.{HasValue}
use Rattle.archive_shape_canonical.specs.FirstFit.{hash_tag}
use Rattle.archive_shape_canonical.specs.Hash.{text_hash}
use Rattle.cabinet_documents.specs.Audit.{kept_faults}
use Rattle.cabinet_documents.specs.Node.{node_shape, pair_shape}
use Rattle.cabinet_documents.specs.Table.{Findable, found, kept_at, table_of}
use Rattle.archive_index.specs.Lookups.{AnswersEntry}
use Rattle.archive_index.specs.Maps.{IndexMap, IsMapAt, count_of, entry_positions}
use Rattle.cabinet_archives.specs.Cost.{Searches}
use Rattle.cabinet_archives.specs.Kept.{HasNumbered, index_shape}
use Rattle.cabinet_archives.specs.Keyed.{KeyLeads, KeyLeadsNowhere, SaysKey, knows_pairs}
use Rattle.cabinet_archives.specs.Sound.{IsSoundPart}
use Rattle.cabinet_archives.proofs.HashedLeading.{tag_low}
use Rattle.cabinet_archives.proofs.IndexLookups.{position, position_at, at_position, key_table, key_is, number_at, key_findable, found_entry, found_low, finds_number, search_is, strides_are}
use Rattle.cabinet_archives.proofs.IndexPairs.{entries_of, held_table, index_in, index_quiet, map_of_value}
use Rattle.cabinet_archives.proofs.Pairs.{node_quiet}
use Rattle.cabinet_archives.proofs.PairsLeading.{FirstWith, NoneWith, quiet_part, none_leads, first_leads, first_way}
use Rattle.cabinet_archives.proofs.SlotLookups.{mapped_none, mapped_some}
use Rattle.cabinet_archives.proofs.Texts.{text_at}

module _ (bytes : List ℕ) (pos : ℕ) (key : List ℕ) (sound : IsSoundPart bytes (at pos index_shape)) (m : IndexMap) (stands : IsMapAt bytes text node_shape pos m) where
  -- each key is found
  all_found : Findable (key_table bytes m)
  all_found = key_findable bytes m pos stands (quiet_part bytes (at pos index_shape) (kept_faults (key_table bytes m)) sound (index_quiet bytes stands))

  pub none_with : found (key_table bytes m) key ≡ None → NoneWith bytes (entry_positions text node_shape m) key
  none_with none i pair there is =
      let p = at_position (size_of pair_shape) m.start (count_of m) i pair there in
      let f = finds_number bytes m pos stands key all_found i p.0 (ap (text_at bytes) (sym p.1) ∙ is) in
      let e = f.is_found in
      cc

  pub first_with : (q : ℕ) → found (key_table bytes m) key ≡ Some q → FirstWith bytes (entry_positions text node_shape m) key (position bytes m (number_at bytes m q))
  first_with q is_found =
      let less = found_low bytes m pos stands key q is_found in
      record {
        index = number_at bytes m q;
        there = position_at (size_of pair_shape) m.start (count_of m) (number_at bytes m q) less;
        is_key = sym (key_is bytes m (number_at bytes m q) less) ∙ (found_entry bytes m pos stands key q is_found).key_is;
        first = λ i other before there is.
            let p = at_position (size_of pair_shape) m.start (count_of m) i other there in
            let f = finds_number bytes m pos stands key all_found i p.0 (ap (text_at bytes) (sym p.1) ∙ is) in
            let e = f.is_found in
            let same : f.place ≡ q = cc in
            let number : number_at bytes m q ≡ i = ap (number_at bytes m) (sym same) ∙ f.numbered in
            absurd (omega (arith, before, number));
      }

-- ---- by what a search finds

module _ (bytes : List ℕ) (pos : ℕ) (key : List ℕ) (hash : ℕ) (result : Option ℕ) (is_hash : hash ≡ text_hash key) (low : hash < 2 ^ 64)
    (answers : (m : IndexMap) → IsMapAt bytes text node_shape pos m → (strides : ℕ) × AnswersEntry bytes text node_shape m (SaysKey bytes key) (λ i. i) hash result strides)
  where
    pub found_is : (m : IndexMap) → IsMapAt bytes text node_shape pos m → result ≡ option_map (number_at bytes m) (found (key_table bytes m) key)
    found_is m stands =
        let a = answers m stands in
        search_is bytes m pos stands key (subst (λ h. hash_tag h < 128) is_hash (tag_low hash low)) result a.0
        (subst (λ h. AnswersEntry bytes text node_shape m (SaysKey bytes key) (λ i. i) h result a.0) is_hash a.1)

    module _ (sound : IsSoundPart bytes (at pos index_shape)) where
      pub leads_nowhere : result ≡ None → (v : Value) → HeldAt index_shape knows_pairs bytes pos v → KeyLeadsNowhere v key
      leads_nowhere none v h =
          let r = map_of_value bytes pos v h in
          none_leads bytes (entry_positions text node_shape r.map) key v (entries_of bytes pos v h)
          (none_with bytes pos key sound r.map r.stands (mapped_none (number_at bytes r.map) (found (key_table bytes r.map) key) (sym none ∙ found_is r.map r.stands)))

      module _ (i : ℕ) (some : result ≡ Some i) (to : ℕ) (is_node : (m : IndexMap) → IsMapAt bytes text node_shape pos m → to ≡ field_position text no_shapes node_shape (position bytes m i)) where
        -- the entry with this number is the first with the key
        first_of : (m : IndexMap) → IsMapAt bytes text node_shape pos m → FirstWith bytes (entry_positions text node_shape m) key (position bytes m i)
        first_of m stands =
            let f = mapped_some (number_at bytes m) (found (key_table bytes m) key) i (sym some ∙ found_is m stands) in
            subst (λ n. FirstWith bytes (entry_positions text node_shape m) key (position bytes m n)) f.2 (first_with bytes pos key sound m stands f.0 f.1)

        pub leads : (v : Value) → HeldAt index_shape knows_pairs bytes pos v → KeyLeads bytes v key to
        leads v h =
            let r = map_of_value bytes pos v h in
            subst (KeyLeads bytes v key) (sym (is_node r.map r.stands))
            (first_leads bytes (entry_positions text node_shape r.map) key v (entries_of bytes pos v h) (position bytes r.map i) (first_of r.map r.stands))

        module _ (has : HasValue index_shape knows_pairs bytes pos) where
          -- it is the node of an entry with the key
          pub leads_by_number : HasNumbered bytes pos key to
          leads_by_number =
              let r = map_of_value bytes pos has.value has.held in
              subst (HasNumbered bytes pos key) (sym (is_node r.map r.stands))
              (record {
                entries = r.map;
                map = r.stands;
                pair = first_way bytes (entry_positions text node_shape r.map) key has.value (entries_of bytes pos has.value has.held) (position bytes r.map i) (first_of r.map r.stands);
              })

          -- it has no fault either
          pub leads_soundly : IsSoundPart bytes (at to node_shape)
          leads_soundly =
              let r = map_of_value bytes pos has.value has.held in
              let first = first_of r.map r.stands in
              subst (λ n. IsSoundPart bytes (at n node_shape)) (sym (is_node r.map r.stands))
              (∥∥₁_map sound (λ walk. node_quiet bytes (index_in bytes r.stands walk.walked) walk.sound first.index (position bytes r.map i) first.there))

-- ---- by how many strides it searches

module _ (bytes : List ℕ) (pos : ℕ) (key : List ℕ) (hash : ℕ) (result : Option ℕ) (n : ℕ) (is_hash : hash ≡ text_hash key) (low : hash < 2 ^ 64)
    (answers : (m : IndexMap) → IsMapAt bytes text node_shape pos m → AnswersEntry bytes text node_shape m (SaysKey bytes key) (λ i. i) hash result n)
  where
    pub searches : (v : Value) → HeldAt index_shape knows_pairs bytes pos v → Searches (table_of kept_at bytes pos v) key n
    searches v h =
        let r = map_of_value bytes pos v h in
        let m = r.map in
        let a = answers m r.stands in
        subst (λ t. Searches t key n) (sym (held_table bytes pos v h)) (
          strides_are bytes m pos r.stands key (subst (λ h. hash_tag h < 128) is_hash (tag_low hash low)) result n (subst (λ h. AnswersEntry bytes text node_shape m (SaysKey bytes key) (λ i. i) h result n) is_hash a),
          a.few,
        )
