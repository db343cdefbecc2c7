-- The keys of an ordered map that lie between two bounds, and what is written of each key.
use Rattle.std.proofs.Common.{◌≡◌, ℕ, ◌≤◌, Bool, true, false, cond, Bor, List, [], ◌∷◌, ◌++◌, flat_map, map, length, refl, sym, ap, ◌∙◌, codes, arith, length-append}
use Rattle.std.proofs.lemmas.List.{length-map}
use Rattle.std.specs.Prelude.{⊤, not, ◌&&◌, filter}
use Rattle.std.specs.Ordering.{is_lt, is_le, is_gt, is_ge, nat_cmp, ordering_reverse}
use Rattle.std.specs.declared.cmp.Ordering.{Ordering}
use Rattle.std.specs.declared.cmp.Ordering.TheVariants.{Less, Equal, Greater}
use Rattle.std.specs.declared.ops.Bound.TheVariants.{Included, Excluded}
use Rattle.std.specs.Cmp.Lexicographic.{slice_cmp}
use Rattle.archive_shape_layout.specs.Shape.Shape.{text}
use Rattle.archive_shape_layout.specs.Value.{Value}
use Rattle.archive_shape_layout.specs.Content.{members}
use Rattle.archive_shape_layout.specs.Content.Part.{at}
use Rattle.archive_shape.specs.Key.{HeldAt}
use Rattle.archive_forms_values.specs.Parts.{HasValue}
use Rattle.archive_shape.specs.declared.references.refs.Ref.{Ref}
use Rattle.archive_forms_values.specs.declared.text.string.ArchivedString.{ArchivedString}
use Rattle.archive_btree_layout.specs.Reading.{Place}
use Rattle.archive_btree_layout.specs.Tree.{Tree, items}
use Rattle.archive_btree_layout.specs.Descent.{Ascends}
use Rattle.archive_btree_maps.specs.Lookups.{QueryOrders}
use Rattle.archive_btree_maps.specs.Maps.{IsMapAt, IsMapOf}
use Rattle.archive_btree_maps.specs.Bounds.{items_between, OfQueries}
use Rattle.archive_btree_maps.specs.Refs.{key_at, entry_at}
use Rattle.archive_btree_maps.proofs.Roots.{tree_of_value}
use Rattle.archive_forms_laws.specs.Text.{IsText}
use Rattle.cabinet_documents.specs.Node.{node_shape, KnowsNode}
use Rattle.cabinet_documents.specs.Table.{item_keys}
use Rattle.cabinet_archived.specs.declared.node.ArchivedNode.{ArchivedNode}
use Rattle.cabinet_text_grammar.specs.Item.{key_item}
use Rattle.cabinet_text_grammar.specs.Spelling.{spelled}
use Rattle.cabinet_text_grammar.specs.Answering.{lies_within, spelled_keys}
use Rattle.cabinet_archives.specs.Keyed.{knows_pairs}
use Rattle.cabinet_archives.specs.Ordered.{map_shape}
use Rattle.cabinet_archives.specs.Sound.{IsSoundPart}
use Rattle.cabinet_archives.proofs.Ascending.{text_of}
use Rattle.cabinet_archives.proofs.Leading.{order_at, keys_rise, orders}
use Rattle.cabinet_archives.proofs.Texts.{text_at, texts_at, held_keys}

-- ---- what is written of a key

abbrev pub key_piece : Ref ArchivedString → List ℕ
key_piece r = codes " " ++ spelled (key_item (text_of r))

-- and of an entry
abbrev pub entry_piece : Ref ArchivedString × Ref ArchivedNode → List ℕ
entry_piece e = key_piece e.0

module _ (bytes : Bor (List ℕ)) where
  pub keys_pieces : (ps : List Place) → flat_map key_piece (map (key_at bytes) ps) ≡ spelled_keys (texts_at bytes.now ps)
  keys_pieces [] = refl
  keys_pieces (p ∷ ps) = ap (λ w. key_piece (key_at bytes p) ++ w) (keys_pieces ps)

  pub entries_pieces : (ps : List Place) → flat_map entry_piece (map (entry_at bytes) ps) ≡ spelled_keys (texts_at bytes.now ps)
  entries_pieces [] = refl
  entries_pieces (p ∷ ps) = ap (λ w. key_piece (key_at bytes p) ++ w) (entries_pieces ps)

-- ---- between two bounds

between_tests : (r s : Ordering) → (not (is_gt (ordering_reverse r)) && not (is_le (ordering_reverse s))) ≡ (is_ge r && is_lt s)
between_tests Less s = refl
between_tests Equal Less = refl
between_tests Equal Equal = refl
between_tests Equal Greater = refl
between_tests Greater Less = refl
between_tests Greater Equal = refl
between_tests Greater Greater = refl

module _ (bytes : Bor (List ℕ)) (low high : Bor (List ℕ)) where
  abbrev pub between : List Place → List Place
  between ps = items_between (λ (q : Bor (List ℕ)). order_at bytes.now q.now) (Included low) (Excluded high) ps

  between_texts : (ps : List Place) → texts_at bytes.now (between ps) ≡ filter (lies_within low.now high.now) (texts_at bytes.now ps)
  between_texts [] = refl
  between_texts (p ∷ ps) =
      by _ (lies_within low.now high.now (text_at bytes.now p.key)) (between ps) (filter (lies_within low.now high.now) (texts_at bytes.now ps)) (between_tests (slice_cmp nat_cmp (text_at bytes.now p.key) low.now) (slice_cmp nat_cmp (text_at bytes.now p.key) high.now)) (between_texts ps)
    where
      by : (a b : Bool) (qs : List Place) (ks : List (List ℕ)) → a ≡ b → texts_at bytes.now qs ≡ ks → texts_at bytes.now (cond a (p ∷ qs) qs) ≡ cond b (text_at bytes.now p.key ∷ ks) ks
      by true true qs ks e f = ap (λ ks. text_at bytes.now p.key ∷ ks) f
      by true false qs ks e f = absurd (cc)
      by false true qs ks e f = absurd (cc)
      by false false qs ks e f = f

module _ (bytes : Bor (List ℕ)) (pos : ℕ) where
  module _ (left : List (Ref ArchivedString)) (are : (t : Tree Place) → IsMapAt bytes.now 5 text node_shape pos t → left ≡ map (key_at bytes) (items t)) where
    -- the keys of a map, one after the other
    pub all_pieces : (v : Value) → HeldAt map_shape knows_pairs bytes.now pos v → flat_map key_piece left ≡ spelled_keys (item_keys (members v))
    all_pieces v h =
        let m : IsMapOf text node_shape (λ _. ⊤) KnowsNode bytes.now 5 pos v = tree_of_value (record { value = v; held = h }) in
        ap (flat_map key_piece) (are m.search_tree m.map) ∙ keys_pieces bytes (items m.search_tree) ∙ sym (ap spelled_keys (held_keys node_shape bytes.now KnowsNode (items m.search_tree) (members v) m.entries))

  -- there are as many of them as the tree has items
  pub keys_counted : (n : ℕ) → ((t : Tree Place) → IsMapAt bytes.now 5 text node_shape pos t → n ≡ length (items t)) → (v : Value) → HeldAt map_shape knows_pairs bytes.now pos v → length (item_keys (members v)) ≡ n
  keys_counted n says v h =
      let m : IsMapOf text node_shape (λ _. ⊤) KnowsNode bytes.now 5 pos v = tree_of_value (record { value = v; held = h }) in
      ap length (held_keys node_shape bytes.now KnowsNode (items m.search_tree) (members v) m.entries) ∙ length-map (items m.search_tree) (λ (p : Place). text_at bytes.now p.key) ∙ sym (says m.search_tree m.map)

  -- no more of its entries lie side by side
  pub run_counted : (n : ℕ) → ((t : Tree Place) → IsMapAt bytes.now 5 text node_shape pos t → n ≡ length (items t)) → HasValue map_shape knows_pairs bytes.now pos → (left : List (Ref ArchivedString × Ref ArchivedNode))
      → ((t : Tree Place) → IsMapAt bytes.now 5 text node_shape pos t → (before : List (Ref ArchivedString × Ref ArchivedNode)) × (after : List (Ref ArchivedString × Ref ArchivedNode)) × (map (entry_at bytes) (items t) ≡ before ++ (left ++ after)))
      → length left ≤ n
  run_counted n says has left within =
      let m : IsMapOf text node_shape (λ _. ⊤) KnowsNode bytes.now 5 pos has.value = tree_of_value has in
      let r = within m.search_tree m.map in
      omega (arith, says m.search_tree m.map, ap length r.2, length-append r.0 (left ++ r.1), length-append left r.1, length-map (items m.search_tree) (entry_at bytes {K = ArchivedString} {V = ArchivedNode}))

  module _ (low high : Bor (List ℕ)) (sound : IsSoundPart bytes.now (at pos map_shape)) (left : List (Ref ArchivedString × Ref ArchivedNode))
      (are : (t : Tree Place) (order : Bor (List ℕ) → Place → Ordering) → IsMapAt bytes.now 5 text node_shape pos t → ⊤
      → OfQueries (λ query. QueryOrders (λ b at (key : Bor (List ℕ)). IsText b at key.now) (λ key q. slice_cmp nat_cmp key.now q.now) bytes.now query (order query) (items t) × Ascends (order query) (items t)) (Included low) (Excluded high)
      → left ≡ map (entry_at bytes) (items_between order (Included low) (Excluded high) (items t)))
    where
      module _ (v : Value) (h : HeldAt map_shape knows_pairs bytes.now pos v) where
        m : IsMapOf text node_shape (λ _. ⊤) KnowsNode bytes.now 5 pos v
        m = tree_of_value (record { value = v; held = h })

        left_is : left ≡ map (entry_at bytes) (between bytes low high (items m.search_tree))
        left_is =
            let t = m.search_tree in
            are t (λ (q : Bor (List ℕ)). order_at bytes.now q.now) m.map tt
            ((orders bytes pos low (items t), keys_rise bytes pos low sound t m.map), (orders bytes pos high (items t), keys_rise bytes pos high sound t m.map))

        keys_left : texts_at bytes.now (between bytes low high (items m.search_tree)) ≡ filter (lies_within low.now high.now) (item_keys (members v))
        keys_left = between_texts bytes low high (items m.search_tree) ∙ ap (filter (lies_within low.now high.now)) (sym (held_keys node_shape bytes.now KnowsNode (items m.search_tree) (members v) m.entries))

        -- the keys between the bounds, one after the other
        pub within_pieces : flat_map entry_piece left ≡ spelled_keys (filter (lies_within low.now high.now) (item_keys (members v)))
        within_pieces = ap (flat_map entry_piece) left_is ∙ entries_pieces bytes (between bytes low high (items m.search_tree)) ∙ ap spelled_keys keys_left

        pub within_counted : length left ≡ length (filter (lies_within low.now high.now) (item_keys (members v)))
        within_counted =
            let qs = between bytes low high (items m.search_tree) in
            ap length left_is ∙ length-map qs (entry_at bytes) ∙ sym (length-map qs (λ (p : Place). text_at bytes.now p.key)) ∙ ap length keys_left
