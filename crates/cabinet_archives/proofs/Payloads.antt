-- The tree of a leaf and of a shared text, and the head of an archived node of each kind.
use Rattle.std.proofs.Common.{◌≡◌, ℕ, ◌<◌, Bor, List, [], ◌∷◌, length, map, refl, sym, ap, subst, ◌∙◌, arith}
use Rattle.std.specs.Prelude.{false, ⊤}
use Rattle.std.proofs.lemmas.List.{length-map}
use Rattle.archive_shape_layout.specs.Bytes.{window}
use Rattle.archive_shape_layout.specs.Shape.{Shape}
use Rattle.archive_shape_layout.specs.Shape.Shape.{text, shared, option, vector}
use Rattle.archive_shape_layout.specs.Shape.Pointee.{str}
use Rattle.archive_shape_layout.specs.Value.{Value, Values, count_values}
use Rattle.archive_shape_layout.specs.Value.Value.{string, counted as counting}
use Rattle.archive_shape_layout.specs.Value.Values.{no_values, more_values}
use Rattle.archive_shape_layout.specs.Content.{Names, members}
use Rattle.archive_shape.specs.Key.{HeldAt}
use Rattle.archive_shape.proofs.Held.{claims_within}
use Rattle.archive_forms_laws.specs.Text.{HasText, IsText, IsTextThere}
use Rattle.archive_forms_laws.proofs.Held.{held_is_text_law, text_value}
use Rattle.archive_forms_rc.specs.Pointers.{Counts, IsRcStrAt}
use Rattle.archive_forms_rc.specs.Pointers.Counts.{counts, leads_back}
use Rattle.archive_forms_values.specs.Parts.{HasValue, IsNoneAt, IsSomeAt, IsVecAt}
use Rattle.archive_btree_layout.specs.Reading.{Place}
use Rattle.archive_btree_layout.specs.Tree.{Tree as SearchTree, items}
use Rattle.archive_btree_maps.specs.Maps.{IsMapAt, IsMapOf, AreEntriesAt}
use Rattle.archive_btree_maps.proofs.Roots.{tree_of_value}
use Rattle.archive_hash_maps.specs.Tables.{Buckets, full_places, item_position, item_positions, IsTableAt}
use Rattle.archive_hash_maps.proofs.Read.{table_is_read}
use Rattle.cabinet_text_grammar.specs.Keys.{MapKind, ordered, hashed, kept}
use Rattle.cabinet_text_grammar.specs.Tree.{Leaf, text as text_leaf, Tree, leaf, shared as shared_text, Trees, Pairs, count, pair_count}
use Rattle.cabinet_text_grammar.specs.Item.{leaf_item, shared_item, none_item, some_item, list_item, map_item, whole_head}
use Rattle.cabinet_text_grammar.specs.Answering.{head_of}
use Rattle.cabinet_documents.specs.Node.{node_shape, pair_shape, KnowsNode, whole_shape}
use Rattle.cabinet_documents.specs.Denotes.{Denotes, DenoteAll, DenotePairs, tagged_value}
use Rattle.cabinet_documents.specs.Denotes.DenoteAll.{denote_none, denote_more}
use Rattle.cabinet_documents.specs.Denotes.DenotePairs.{denote_no_pairs, denote_pair}
use Rattle.cabinet_documents.specs.Laws.{payload_of}
use Rattle.cabinet_documents.proofs.Arranged.{arranged_count}
use Rattle.cabinet_documents.proofs.ByKey.{in_order}
use Rattle.cabinet_documents.proofs.Changing.{of_some, of_list}
use Rattle.cabinet_archived.specs.Kind.{IsTagged}
use Rattle.cabinet_archives.specs.Keyed.{knows_pairs}
use Rattle.cabinet_archives.specs.Found.{OfDocument}
use Rattle.cabinet_archives.specs.Hashed.{table_shape}
use Rattle.cabinet_archives.specs.Kept.{OfKept, index_shape}
use Rattle.cabinet_archives.specs.Ordered.{map_shape}
use Rattle.archive_index.specs.Maps.{count_of, entry_positions}
use Rattle.cabinet_archives.proofs.IndexPairs.{entries_of, map_of_value, positions_counted}
use Rattle.cabinet_archives.proofs.Pairs.{pair_entry, entries_of_pairs}
use Rattle.cabinet_archives.proofs.Ways.{Boxed}
use Rattle.cabinet_archives.proofs.Stepping.{nothing_is, shared_is, leaf_is, kind_of, map_by}
use Rattle.cabinet_documents.specs.Denotes.Denotes.{denotes_truth, denotes_number, denotes_text, denotes_shared, denotes_nothing, denotes_some, denotes_list, denotes_ordered, denotes_hashed, denotes_kept, denotes_whole}

-- ---- texts

text_there : (knows : Names → Type 0) (bytes : List ℕ) (pos : ℕ) (v : Value) → HeldAt text knows bytes pos v → IsTextThere bytes pos v
text_there knows bytes pos v h = held_is_text_law h.names bytes h.level h.inside pos v h.regions h.before h.after h.own_within (claims_within h) h.holds

pub text_has : (knows : Names → Type 0) (bytes : List ℕ) (pos : ℕ) → HasValue text knows bytes pos → HasText bytes pos
text_has knows bytes pos there = (text_there knows bytes pos there.value there.held).stands.there

-- the text there is the value
pub text_is : (knows : Names → Type 0) (bytes : List ℕ) (pos : ℕ) (t : List ℕ) → IsText bytes pos t → (v : Value) → HeldAt text knows bytes pos v → string t ≡ v
text_is knows bytes pos t is v h = sym (text_value bytes pos t v (text_there knows bytes pos v h) is)

-- ---- heads

counted : {vs : Values} {ts : Trees} → DenoteAll vs ts → count_values vs ≡ count ts
counted (denote_none e f) = ap count_values e ∙ sym (ap count f)
counted (denote_more e f d ds) = let more = counted ds in let one = ap count_values e in let other = ap count f in omega (arith, more, one, other)

pairs_counted : {vs : Values} {ps : Pairs} → DenotePairs vs ps → count_values vs ≡ pair_count ps
pairs_counted (denote_no_pairs e f) = ap count_values e ∙ sym (ap pair_count f)
pairs_counted (denote_pair e f d ds) = let more = pairs_counted ds in let one = ap count_values e in let other = ap pair_count f in omega (arith, more, one, other)

entries_counted : (bytes : List ℕ) (ps : List Place) (vs : Values) → AreEntriesAt text node_shape (λ _. ⊤) KnowsNode bytes ps vs → length ps ≡ count_values vs
entries_counted bytes [] no_values h = refl
entries_counted bytes [] (more_values v vs) h = absurd h
entries_counted bytes (p ∷ ps) no_values h = absurd h
entries_counted bytes (p ∷ ps) (more_values v vs) h = let more = entries_counted bytes ps vs h.1 in omega (arith, more)

count_in_order : (kind : MapKind) (ps : Pairs) → pair_count (in_order kind ps) ≡ pair_count ps
count_in_order ordered ps = refl
count_in_order hashed ps = arranged_count ps
count_in_order kept ps = refl

-- the head of a whole, by its tag
whole_head_is : {v w : Value} {t : Tree} → v ≡ tagged_value 9 w → Denotes v t → whole_head ≡ head_of t
whole_head_is e (denotes_truth f g) = absurd (cc)
whole_head_is e (denotes_number f g) = absurd (cc)
whole_head_is e (denotes_text f g) = absurd (cc)
whole_head_is e (denotes_shared f g) = absurd (cc)
whole_head_is e (denotes_nothing f g) = absurd (cc)
whole_head_is e (denotes_some f g d) = absurd (cc)
whole_head_is e (denotes_list f g d) = absurd (cc)
whole_head_is e (denotes_ordered f g d) = absurd (cc)
whole_head_is e (denotes_hashed f g d) = absurd (cc)
whole_head_is e (denotes_kept f g d) = absurd (cc)
whole_head_is e (denotes_whole f g d) = sym (ap head_of g)

module _ (bytes : List ℕ) (pos : ℕ) where
  -- ---- leaves and shared texts, and their heads

  head_by : (u : Tree) → OfDocument bytes pos (λ t. u ≡ t) → OfDocument bytes pos (λ t. head_of u ≡ head_of t)
  head_by u is = λ v t h d. ap head_of (is v t h d)

  module _ (l : Leaf) (tag : ℕ) (shape : Shape) (knows : Names → Type 0) (to : ℕ) (less : tag < 3) (tagged : IsTagged bytes pos tag shape knows to) (is : (w : Value) → HeldAt shape knows bytes to w → payload_of l ≡ w) where
    pub leaf_tree : OfDocument bytes pos (λ t. leaf l ≡ t)
    leaf_tree = λ v t h d. let p = tagged.payload v h in sym (leaf_is l p.is less (sym (is p.payload p.held)) d)

    pub leaf_head : OfDocument bytes pos (λ t. leaf_item l ≡ head_of t)
    leaf_head = head_by (leaf l) leaf_tree

  -- the value counts the text that the pointer points to
  counted_text : (at : ℕ) (s : List ℕ) (v w : Value) (t : Tree) → v ≡ tagged_value 3 w → Counts false at (λ u. u ≡ string s) w → Denotes v t → shared_text s ≡ t
  counted_text at s v w t e (counts f g) d = sym (shared_is at s (e ∙ ap (tagged_value 3) (f ∙ ap (counting at) g)) d)
  counted_text at s v w t e (leads_back allowed is) d = absurd (cc)

  module _ (to at len : ℕ) (s : List ℕ) (tagged : IsTagged bytes pos 3 (shared false str) (λ _. ⊤) to) (there : IsRcStrAt false bytes to at len) (is : s ≡ window bytes at len) where
    pub shared_tree : OfDocument bytes pos (λ t. shared_text s ≡ t)
    shared_tree = λ v t h d. let p = tagged.payload v h in ap shared_text is ∙ counted_text at (window bytes at len) v p.payload t p.is (there.value p.payload p.held) d

    pub shared_head : OfDocument bytes pos (λ t. shared_item s ≡ head_of t)
    shared_head = head_by (shared_text s) shared_tree

  -- ---- heads of containers

  pub none_head : (to : ℕ) → IsTagged bytes pos 4 (option Boxed) KnowsNode to → IsNoneAt Boxed KnowsNode bytes to → OfDocument bytes pos (λ t. none_item ≡ head_of t)
  none_head to tagged none = λ v t h d.
      let p = tagged.payload v h in
      sym (ap head_of (nothing_is (p.is ∙ ap (tagged_value 4) (none p.payload p.held)) d))

  pub some_head : (to : ℕ) → IsTagged bytes pos 4 (option Boxed) KnowsNode to → IsSomeAt Boxed KnowsNode bytes to → OfDocument bytes pos (λ t. some_item ≡ head_of t)
  some_head to tagged some = λ v t h d.
      let p = tagged.payload v h in
      let q = some p.payload p.held in
      sym (ap head_of (of_some (p.is ∙ ap (tagged_value 4) q.is) d).is)

  pub list_head : (to first len : ℕ) → IsTagged bytes pos 5 (vector node_shape) KnowsNode to → IsVecAt node_shape KnowsNode bytes to first len → OfDocument bytes pos (λ t. list_item len ≡ head_of t)
  list_head to first len tagged elements = λ v t h d.
      let p = tagged.payload v h in
      let all = elements.value p.payload p.held in
      let l = of_list (p.is ∙ ap (tagged_value 5) all.is) d in
      ap list_item (sym all.count ∙ counted l.denotes) ∙ sym (ap head_of l.is)

  -- as many pairs as a map's value has
  map_head : (to len : ℕ) {tag : ℕ} {shape : Shape} {knows : Names → Type 0} → IsTagged bytes pos tag shape knows to → 5 < tag → tag < 9 → ((v : Value) → HeldAt shape knows bytes to v → len ≡ count_values (members v)) → OfDocument bytes pos (λ t. map_item (kind_of tag) len ≡ head_of t)
  map_head to len {tag = tag} tagged high low says = λ v t h d.
      let p = tagged.payload v h in
      let o = map_by p.is high low d in
      ap (map_item (kind_of tag)) (says p.payload p.held ∙ (pairs_counted o.denotes ∙ sym (count_in_order (kind_of tag) o.pairs))) ∙ sym (ap head_of o.is)

  -- as the tree has items
  pub ordered_head : (to len : ℕ) → IsTagged bytes pos 6 map_shape knows_pairs to → ((t : SearchTree Place) → IsMapAt bytes 5 text node_shape to t → len ≡ length (items t)) → OfDocument bytes pos (λ t. map_item ordered len ≡ head_of t)
  ordered_head to len tagged says = map_head to len tagged (omega arith) (omega arith) (λ v h.
      let m : IsMapOf text node_shape (λ _. ⊤) KnowsNode bytes 5 to v = tree_of_value (record { value = v; held = h }) in
      says m.search_tree m.map ∙ entries_counted bytes (items m.search_tree) (members v) m.entries)

  -- as the table has full places
  pub hashed_head : (to len : ℕ) → IsTagged bytes pos 7 table_shape knows_pairs to → ((b : Buckets) → IsTableAt bytes pair_shape to b → len ≡ length (full_places b)) → OfDocument bytes pos (λ t. map_item hashed len ≡ head_of t)
  hashed_head to len tagged says = map_head to len tagged (omega arith) (omega arith) (λ v h.
      let m = table_is_read pair_shape knows_pairs bytes to v h in
      let ps = item_positions pair_shape m.buckets in
      says m.buckets m.table
      ∙ (sym (length-map (full_places m.buckets) (item_position pair_shape m.buckets.target))
      ∙ (sym (length-map ps (pair_entry bytes)) ∙ entries_counted bytes (map (pair_entry bytes) ps) (members v) (entries_of_pairs bytes ps (members v) m.items))))

  -- as the index map has entries
  pub kept_head : (to len : ℕ) → IsTagged bytes pos 8 index_shape knows_pairs to → OfKept bytes to (λ m. len ≡ count_of m) → OfDocument bytes pos (λ t. map_item kept len ≡ head_of t)
  kept_head to len tagged says = map_head to len tagged (omega arith) (omega arith) (λ v h.
      let r = map_of_value bytes to v h in
      let ps = entry_positions text node_shape r.map in
      says r.map r.stands
      ∙ (sym (positions_counted bytes r.map)
      ∙ (sym (length-map ps (pair_entry bytes)) ∙ entries_counted bytes (map (pair_entry bytes) ps) (members v) (entries_of bytes to v h))))

  pub whole_is_head : (to : ℕ) → IsTagged bytes pos 9 whole_shape KnowsNode to → OfDocument bytes pos (λ t. whole_head ≡ head_of t)
  whole_is_head to tagged = λ v t h d. whole_head_is (tagged.payload v h).is d

-- the tree of a text
pub text_tree : {x y : Bor (List ℕ)} {pos to : ℕ} (s : List ℕ) → x ≡ y → IsTagged y.now pos 2 text (λ _. ⊤) to → IsText x.now to s → OfDocument y.now pos (λ t. leaf (text_leaf s) ≡ t)
text_tree {y = y} {pos = pos} {to = to} s e tagged there =
    leaf_tree y.now pos (text_leaf s) 2 text (λ _. ⊤) to (omega arith) tagged (text_is (λ _. ⊤) y.now to s (subst (λ (b : Bor (List ℕ)). IsText b.now to s) e there))
