-- The entry with a key: one place, which is that of the pair with the entry's number.
use Rattle.std.proofs.Common.{◌≡◌, ℕ, zero, suc, ◌+◌, ◌<◌, Bool, true, false, nat_lt, List, [], ◌∷◌, Some, refl, sym, ap, subst, ◌∙◌, arith}
use Rattle.std.specs.Prelude.{⊤}
use Rattle.std.specs.List.{slice_get}
use Rattle.std.proofs.lemmas.Bool.{ltb-true, ltb-false}
use Rattle.archive_shape_layout.specs.Bytes.{word_at, target_from}
use Rattle.archive_shape_layout.specs.Shape.Shape.{text}
use Rattle.archive_shape_layout.specs.Value.{Value, Values}
use Rattle.archive_shape_layout.specs.Value.Value.{string, group}
use Rattle.archive_shape_layout.specs.Value.Values.{no_values, more_values}
use Rattle.archive_shape.specs.Key.{HeldAt}
use Rattle.archive_shape_layout.specs.Path.{value_in}
use Rattle.archive_forms_laws.specs.Text.{IsText}
use Rattle.archive_btree_layout.specs.Reading.{Place, HasNode}
use Rattle.archive_btree_layout.specs.Tree.{Tree, items}
use Rattle.archive_btree_maps.specs.Maps.{IsMapAt, IsMapOf, IsEntryAt, AreEntriesAt}
use Rattle.archive_btree_maps.specs.Maps.IsMapAt.{has_none, has_root}
use Rattle.archive_btree_maps.proofs.One.{one_map}
use Rattle.archive_btree_maps.proofs.Roots.{tree_of_value}
use Rattle.archive_btree_spelling.proofs.ItemPlaces.{IsNth, HasItem}
use Rattle.cabinet_documents.specs.Node.{node_shape, KnowsNode}
use Rattle.cabinet_documents.specs.Denotes.{pair_value}
use Rattle.cabinet_archives.specs.Keyed.{knows_pairs}
use Rattle.cabinet_archives.specs.Ordered.{map_shape, HasEntry}
use Rattle.cabinet_archives.proofs.Texts.{text_is, text_there, held_text}

-- what stands at a number of a list
got_of : {A : Type 0} (i : ℕ) (xs : List A) (e : A) → IsNth i xs e → slice_get xs i ≡ Some e
got_of i [] e h = absurd h
got_of zero (x ∷ xs) e h = ap Some h
got_of (suc i) (x ∷ xs) e h = got_of i xs e h

-- there is one first of those that something is true of
pub one_first : {A : Type 0} (P : A → Type 0) (xs : List A) (i j : ℕ) (a b : A) → slice_get xs i ≡ Some a → slice_get xs j ≡ Some b → P a → P b
    → ((n : ℕ) (c : A) → n < i → slice_get xs n ≡ Some c → P c → ⊥) → ((n : ℕ) (c : A) → n < j → slice_get xs n ≡ Some c → P c → ⊥) → a ≡ b
one_first P xs i j a b at_i at_j pa pb before_i before_j = by (nat_lt i j) (nat_lt j i) refl refl
  where
    by : (x y : Bool) → nat_lt i j ≡ x → nat_lt j i ≡ y → a ≡ b
    by true y e f = absurd (before_j i a (ltb-true i j e) at_i pa)
    by false true e f = absurd (before_i j b (ltb-true j i f) at_j pb)
    by false false e f =
        let less = ltb-false i j e in
        let more = ltb-false j i f in
        let same : i ≡ j = omega (arith, less, more) in
        let both = sym at_i ∙ (ap (slice_get xs) same ∙ at_j) in
        cc

module _ (bytes : List ℕ) where
  abbrev pub Entry : Place → Value → Type 0
  Entry p w = IsEntryAt text node_shape (λ _. ⊤) KnowsNode bytes p w

  abbrev pub Entries : List Place → Values → Type 0
  Entries ps ws = AreEntriesAt text node_shape (λ _. ⊤) KnowsNode bytes ps ws

  -- a place for each value, and a value for each place
  pub place_of : (ps : List Place) (ws : Values) (i : ℕ) (w : Value) → Entries ps ws → value_in i ws ≡ Some w → (e : Place) × (slice_get ps i ≡ Some e) × Entry e w
  place_of [] no_values i w h e = absurd (cc)
  place_of [] (more_values x ws) i w h e = absurd h
  place_of (p ∷ ps) no_values i w h e = absurd h
  place_of (p ∷ ps) (more_values x ws) zero w h e = let same : x ≡ w = cc in (p, refl, subst (Entry p) same h.0)
  place_of (p ∷ ps) (more_values x ws) (suc i) w h e = place_of ps ws i w h.1 e

  pub value_of : (ps : List Place) (ws : Values) (i : ℕ) (p : Place) → Entries ps ws → slice_get ps i ≡ Some p → (w : Value) × (value_in i ws ≡ Some w) × Entry p w
  value_of [] ws i p h e = absurd (cc)
  value_of (q ∷ ps) no_values i p h e = absurd h
  value_of (q ∷ ps) (more_values x ws) zero p h e = let same : q ≡ p = cc in (x, refl, subst (λ (y : Place). Entry y x) same h.0)
  value_of (q ∷ ps) (more_values x ws) (suc i) p h e = value_of ps ws i p h.1 e

  -- the value of an entry whose text is a key
  pub pair_there : (p : Place) (w : Value) (k : List ℕ) → (h : Entry p w) → IsText bytes p.key k → w ≡ pair_value k h.value
  pair_there p w k h t = h.is ∙ ap (λ x. group (more_values x (more_values h.value no_values))) (held_text bytes p.key (λ _. ⊤) h.key h.key_held ∙ ap string (sym (text_is bytes p.key k t)))

  -- ---- a key leads to one place

  module _ (pos : ℕ) (k : List ℕ) {to other : ℕ} (x : HasEntry bytes pos k to) (y : HasEntry bytes pos k other) where
    one_tree : y.search_tree ≡ x.search_tree
    one_tree = one_map bytes 5 text node_shape pos y.search_tree x.search_tree y.map x.map

    pub one_entry : to ≡ other
    one_entry =
        let there : slice_get (items x.search_tree) y.index ≡ Some y.entry = subst (λ t. slice_get (items t) y.index ≡ Some y.entry) one_tree y.among in
        let before = subst (λ t. (i : ℕ) (p : Place) → i < y.index → slice_get (items t) i ≡ Some p → IsText bytes p.key k → ⊥) one_tree y.first in
        let entry = one_first (λ (p : Place). IsText bytes p.key k) (items x.search_tree) x.index y.index x.entry y.entry x.among there x.is_key y.is_key x.first before in
        x.node ∙ ap (λ (p : Place). p.value) entry ∙ sym y.node

  -- ---- the entry of a pair

  pub record PairEntry (pos : ℕ) (k : List ℕ) (value_pos : ℕ) (value : Value) : Type 0 where
    pub entry : HasEntry bytes pos k value_pos
    pub held : HeldAt node_shape KnowsNode bytes value_pos value

  module _ (pos : ℕ) (vs : Values) (h : HeldAt map_shape knows_pairs bytes pos (group vs)) (k : List ℕ) (number value_pos : ℕ) (value : Value)
      (there : value_in number vs ≡ Some (pair_value k value))
      (first : (i : ℕ) (other : Value) → i < number → value_in i vs ≡ Some (pair_value k other) → ⊥)
      (item : (root : ℕ) (t : Tree Place) → (word_at bytes (pos + 4) ≡ 0 → ⊥) → target_from pos (word_at bytes pos) ≡ Some root → HasNode bytes 5 text node_shape 1 root t → HasItem (items t) number value_pos)
    where
      -- its place has the value's position
      placed : (t : Tree Place) (e : Place) → IsMapAt bytes 5 text node_shape pos t → slice_get (items t) number ≡ Some e → value_pos ≡ e.value
      placed t e (has_none a b) g = let none = subst (λ x. slice_get (items x) number ≡ Some e) b g in absurd (cc)
      placed t e (has_root {root = root} a b c d) g =
          let i = item root t a b c in
          let both : Some i.0 ≡ Some e = sym (got_of number (items t) i.0 i.1) ∙ g in
          let same : i.0 ≡ e = cc in
          sym i.2 ∙ ap (λ (p : Place). p.value) same

      pub pair_entry : PairEntry pos k value_pos value
      pair_entry =
          let m : IsMapOf text node_shape (λ _. ⊤) KnowsNode bytes 5 pos (group vs) = tree_of_value (record { value = group vs; held = h }) in
          let t = m.search_tree in
          let p = place_of (items t) vs number (pair_value k value) m.entries there in
          let at_value = placed t p.0 m.map p.1 in
          let is = p.2.is in
          let key : p.2.key ≡ string k = cc in
          let same : p.2.value ≡ value = cc in
          let read = text_there bytes p.0.key (λ _. ⊤) p.2.key p.2.key_held in
          let read_is = read.value in
          let text_same : read.text ≡ k = cc in
          record {
            entry = record {
              search_tree = t;
              index = number;
              entry = p.0;
              map = m.map;
              among = p.1;
              is_key = subst (IsText bytes p.0.key) text_same read.stands;
              first = λ i other less g x.
                  let v = value_of (items t) vs i other m.entries g in
                  first i v.2.value less (v.1 ∙ ap Some (pair_there other v.0 k v.2 x));
              node = at_value;
            };
            held = subst (λ n. HeldAt node_shape KnowsNode bytes n value) (sym at_value) (subst (HeldAt node_shape KnowsNode bytes p.0.value) same p.2.value_held);
          }
