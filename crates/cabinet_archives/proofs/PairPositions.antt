-- The pair of a key among pairs at positions: one, which is that of the item with the key.
use Rattle.std.proofs.Common.{◌≡◌, ℕ, ◌+◌, ◌<◌, List, map, Some, refl, sym, ap, subst, ◌∙◌}
use Rattle.std.specs.Prelude.{⊤}
use Rattle.std.specs.List.{slice_get}
use Rattle.archive_shape_layout.specs.Bytes.{align_up}
use Rattle.archive_shape_layout.specs.Shape.Shape.{text}
use Rattle.archive_shape_layout.specs.Shape.Shapes.{no_shapes}
use Rattle.archive_shape_layout.specs.Value.{Value, Values}
use Rattle.archive_shape_layout.specs.Value.Value.{string}
use Rattle.archive_shape.specs.Key.{HeldAt}
use Rattle.archive_shape_layout.specs.Path.{value_in}
use Rattle.archive_forms_values.specs.Fields.{field_position}
use Rattle.archive_forms_laws.specs.Text.{IsText}
use Rattle.archive_btree_layout.specs.Reading.{Place}
use Rattle.archive_btree_maps.specs.Maps.{AreEntriesAt}
use Rattle.cabinet_documents.specs.Denotes.{pair_value}
use Rattle.cabinet_documents.specs.Node.{node_shape, KnowsNode}
use Rattle.cabinet_archives.specs.Keyed.{HasPair}
use Rattle.cabinet_archives.proofs.Entries.{one_first, place_of, value_of, pair_there}
use Rattle.cabinet_archives.proofs.Pairs.{pair_entry, got_read, read_at}
use Rattle.cabinet_archives.proofs.Texts.{text_there}

behind_pair : (q : ℕ) → field_position text no_shapes node_shape q ≡ q + 8
unfolding align_up
behind_pair q = refl

module _ (bytes : List ℕ) (ps : List ℕ) (k : List ℕ) where
  pub one_pair : {to other : ℕ} → HasPair bytes ps k to → HasPair bytes ps k other → to ≡ other
  one_pair x y =
      let pair = one_first (λ p. IsText bytes p k) ps x.index y.index x.pair y.pair x.among y.among x.is_key y.is_key x.first y.first in
      x.node ∙ ap (field_position text no_shapes node_shape) pair ∙ sym y.node

  -- the node of a pair stands behind its key
  pub record PairNode (value_pos : ℕ) (value : Value) : Type 0 where
    pub pair : HasPair bytes ps k value_pos
    pub held : HeldAt node_shape KnowsNode bytes value_pos value

  -- of the first item with the key
  pub pair_node : (vs : Values) → AreEntriesAt text node_shape (λ _. ⊤) KnowsNode bytes (map (pair_entry bytes) ps) vs → (number pair_pos value_pos : ℕ) (value : Value) → value_in number vs ≡ Some (pair_value k value)
      → ((i : ℕ) (other : Value) → i < number → value_in i vs ≡ Some (pair_value k other) → ⊥) → ((p : ℕ) → slice_get ps number ≡ Some p → p ≡ pair_pos) → value_pos ≡ pair_pos + 8 → PairNode value_pos value
  pair_node vs es number pair_pos value_pos value there first stands behind =
      let x = place_of bytes (map (pair_entry bytes) ps) vs number (pair_value k value) es there in
      let r = read_at (pair_entry bytes) ps number x.0 x.1 in
      let same_pair : r.it ≡ pair_pos = stands r.it r.there in
      let entry_is : x.0 ≡ pair_entry bytes pair_pos = r.is ∙ ap (pair_entry bytes) same_pair in
      let is = x.2.is in
      let key : x.2.key ≡ string k = cc in
      let same : x.2.value ≡ value = cc in
      let read = text_there bytes x.0.key (λ _. ⊤) x.2.key x.2.key_held in
      let read_is = read.value in
      let text_same : read.text ≡ k = cc in
      let node : value_pos ≡ field_position text no_shapes node_shape pair_pos = behind ∙ sym (behind_pair pair_pos) in
      record {
        pair = record {
          index = number;
          pair = pair_pos;
          among = r.there ∙ ap Some same_pair;
          is_key = subst (λ (e : Place). IsText bytes e.key k) entry_is (subst (IsText bytes x.0.key) text_same read.stands);
          first = λ i other less g t.
              let v = value_of bytes (map (pair_entry bytes) ps) vs i (pair_entry bytes other) es (got_read (pair_entry bytes) ps i other g) in
              first i v.2.value less (v.1 ∙ ap Some (pair_there bytes (pair_entry bytes other) v.0 k v.2 t));
          node = node;
        };
        held = subst (λ n. HeldAt node_shape KnowsNode bytes n value) (sym node) (subst (λ (e : Place). HeldAt node_shape KnowsNode bytes e.value value) entry_is (subst (HeldAt node_shape KnowsNode bytes x.0.value) same x.2.value_held));
      }
