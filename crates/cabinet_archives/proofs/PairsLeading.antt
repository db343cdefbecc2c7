-- What a key leads to in a map, by the first of its pairs that has the key.
use Rattle.std.proofs.Common.{◌≡◌, ℕ, ◌<◌, Bool, true, false, List, [], ◌∷◌, map, Some, refl, sym, ap, subst, ◌∙◌}
use Rattle.std.specs.Prelude.{⊤}
use Rattle.std.specs.List.{slice_get}
use Rattle.std.proofs.Math.Bool.{Bool-set}
use Rattle.std.proofs.Math.Logic.{∥∥₁_elim}
use Rattle.archive_shape_layout.specs.Shape.Shape.{text}
use Rattle.archive_shape_layout.specs.Shape.Shapes.{no_shapes}
use Rattle.archive_shape_layout.specs.Value.{Value}
use Rattle.archive_shape_layout.specs.Content.{Part, members}
use Rattle.archive_forms_values.specs.Fields.{field_position}
use Rattle.archive_forms_laws.specs.Text.{IsText}
use Rattle.archive_shape_layout.specs.Path.{value_in}
use Rattle.archive_btree_layout.specs.Reading.{Place}
use Rattle.archive_btree_maps.specs.Maps.{AreEntriesAt}
use Rattle.cabinet_documents.specs.Audit.{Unsound}
use Rattle.cabinet_documents.specs.Denotes.{pair_value}
use Rattle.cabinet_documents.specs.Node.{node_shape, KnowsNode}
use Rattle.cabinet_archives.specs.Keyed.{HasPair, KeyLeads, KeyLeadsNowhere}
use Rattle.cabinet_archives.specs.Sound.{HasSoundWalk, IsSoundPart}
use Rattle.cabinet_archives.proofs.Entries.{place_of, value_of, pair_there}
use Rattle.cabinet_archives.proofs.Pairs.{read_at, got_read, pair_entry}
use Rattle.cabinet_archives.proofs.Texts.{text_at, text_is, text_there, entry_key}

-- ---- faults that no sound walk has

are_none : List Unsound → Bool
are_none [] = true
are_none (u ∷ us) = false

none_are : (us : List Unsound) → us ≡ [] → are_none us ≡ true
unfolding are_none
none_are us e = ap are_none e

none_of : (us : List Unsound) → are_none us ≡ true → us ≡ []
unfolding are_none
none_of [] e = refl
none_of (u ∷ us) e = absurd (cc)

pub quiet_part : (bytes : List ℕ) (p : Part) (us : List Unsound) → IsSoundPart bytes p → (HasSoundWalk bytes p → us ≡ []) → us ≡ []
quiet_part bytes p us sound none = none_of us (∥∥₁_elim sound (Bool-set (are_none us) true) (λ walk. none_are us (none walk)))

-- ---- pairs

module _ (bytes : List ℕ) (ps : List ℕ) (key : List ℕ) where
  -- of the pairs at these positions, the first whose text is the key
  pub record FirstWith (pair : ℕ) : Type 0 where
    pub index : ℕ
    pub there : slice_get ps index ≡ Some pair
    pub is_key : text_at bytes pair ≡ key
    pub first : (i other : ℕ) → i < index → slice_get ps i ≡ Some other → text_at bytes other ≡ key → ⊥

  abbrev pub NoneWith : Type 0
  NoneWith = (i other : ℕ) → slice_get ps i ≡ Some other → text_at bytes other ≡ key → ⊥

  module _ (v : Value) (are : AreEntriesAt text node_shape (λ _. ⊤) KnowsNode bytes (map (pair_entry bytes) ps) (members v)) where
    -- an item with the key is that of a pair
    record PairWith (i : ℕ) : Type 0 where
      pair : ℕ
      there : slice_get ps i ≡ Some pair
      is_key : text_at bytes pair ≡ key

    pair_with : (i : ℕ) (node : Value) → value_in i (members v) ≡ Some (pair_value key node) → PairWith i
    pair_with i node e =
        let x = place_of bytes (map (pair_entry bytes) ps) (members v) i (pair_value key node) are e in
        let r = read_at (pair_entry bytes) ps i x.0 x.1 in
        record { pair = r.it; there = r.there; is_key = ap (λ (y : Place). text_at bytes y.key) (sym r.is) ∙ sym (entry_key node_shape bytes KnowsNode x.0 (pair_value key node) x.2) }

    pub none_leads : NoneWith → KeyLeadsNowhere v key
    none_leads none i node e = let x = pair_with i node e in none i x.pair x.there x.is_key

    module _ (pair : ℕ) (f : FirstWith pair) where
      entry_there : slice_get (map (pair_entry bytes) ps) f.index ≡ Some (pair_entry bytes pair)
      entry_there = got_read (pair_entry bytes) ps f.index pair f.there

      key_text : IsText bytes pair key
      key_text =
          let w = value_of bytes (map (pair_entry bytes) ps) (members v) f.index (pair_entry bytes pair) are entry_there in
          let h = w.2 in
          let t = text_there bytes pair (λ _. ⊤) h.key h.key_held in
          let same : t.text ≡ key = text_is bytes pair t.text t.stands ∙ f.is_key in
          subst (IsText bytes pair) same t.stands

      pub first_leads : KeyLeads bytes v key (field_position text no_shapes node_shape pair)
      first_leads =
          let w = value_of bytes (map (pair_entry bytes) ps) (members v) f.index (pair_entry bytes pair) are entry_there in
          record {
            index = f.index;
            node = w.2.value;
            item = w.1 ∙ ap Some (pair_there bytes (pair_entry bytes pair) w.0 key w.2 key_text);
            first = λ i other less e. let x = pair_with i other e in f.first i x.pair less x.there x.is_key;
            held = w.2.value_held;
          }

      pub first_way : HasPair bytes ps key (field_position text no_shapes node_shape pair)
      first_way = record {
        index = f.index;
        pair = pair;
        among = f.there;
        is_key = key_text;
        first = λ i other less e is. f.first i other less e (sym (text_is bytes other key is));
        node = refl;
      }
