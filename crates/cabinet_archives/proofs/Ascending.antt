-- The keys and the entries that are left of an ordered map: whether the keys ascend after the last one that was read, and
-- whether the nodes are leaves.
use Rattle.std.proofs.Common.{◌≡◌, ℕ, ◌≤◌, ◌↔◌, IsTrue, Bor, Bool, true, false, cond, ◌&&◌, List, [], ◌∷◌, Option, Some, None, MatchOption, map, slice_index, refl, sym, ap, subst, ◌∙◌}
use Rattle.std.specs.Prelude.{⊤, All}
use Rattle.std.specs.Option.{option_map}
use Rattle.std.proofs.lemmas.List.Elements.{All-nil, All-cons, All-head, All-tail}
use Rattle.std.proofs.Math.Bool.{and_assoc, and-true}
use Rattle.archive_shape_layout.specs.Value.{Value, Values}
use Rattle.archive_shape_layout.specs.Value.Values.{no_values, more_values}
use Rattle.archive_shape_layout.specs.Shape.Shape.{text}
use Rattle.archive_shape_layout.specs.Content.{members}
use Rattle.archive_shape_layout.specs.Content.Part.{at}
use Rattle.archive_shape.specs.declared.references.refs.Ref.{Ref}
use Rattle.archive_forms_laws.specs.Text.{HasText}
use Rattle.archive_forms_values.specs.Parts.{HasValue}
use Rattle.archive_forms_values.specs.declared.text.string.ArchivedString.{ArchivedString}
use Rattle.archive_btree_layout.specs.Tree.{Tree, items}
use Rattle.archive_btree_layout.specs.Reading.{Place}
use Rattle.archive_btree_maps.specs.Maps.{IsMapAt, IsMapOf, AreEntriesAt}
use Rattle.archive_btree_maps.specs.Refs.{key_at, entry_at}
use Rattle.archive_btree_maps.proofs.Roots.{tree_of_value}
use Rattle.cabinet_documents.specs.Node.{node_shape, node_names, KnowsNode}
use Rattle.cabinet_documents.specs.Order.{ascend, is_below}
use Rattle.cabinet_documents.specs.Table.{item_keys}
use Rattle.cabinet_documents.specs.Walk.{Stop, Walks}
use Rattle.cabinet_archived.specs.declared.node.ArchivedNode.{ArchivedNode}
use Rattle.cabinet_archives.specs.Keyed.{knows_pairs}
use Rattle.cabinet_archives.specs.Ordered.{map_shape, lead_to_leaves}
use Rattle.cabinet_archives.proofs.LeafTags.{are_low, leaf_told, tags_at, walked_leaves}
use Rattle.cabinet_archives.proofs.Texts.{text_at, texts_at, text_there, texts_there, walked_keys}
use Rattle.cabinet_archives.proofs.Walked.{map_in}

abbrev pub text_of : Ref ArchivedString → List ℕ
text_of r = text_at r.bytes.now r.pos

abbrev pub HasTextIn : Ref ArchivedString → Type 0
HasTextIn r = HasText r.bytes.now r.pos

abbrev pub before : Option (Bor (List ℕ)) → Option (List ℕ)
before last = option_map (λ k. k.now) last

-- keys ascend after a key, if there is one
abbrev pub ascend_behind : Option (List ℕ) → List (List ℕ) → Bool
ascend_behind None ks = ascend ks
ascend_behind (Some k) ks = ascend (k ∷ ks)

-- ---- one key after the other

below_next : (b : Bool) (k t : List ℕ) (ks : List (List ℕ)) → is_below k t ≡ b → cond b (ascend (t ∷ ks)) false ≡ ascend (k ∷ (t ∷ ks))
below_next b k t ks e = ap (λ c. cond c (ascend (t ∷ ks)) false) (sym e)

module _ (r : Bool) (t : List ℕ) (ks : List (List ℕ)) where
  pub next_above : (last : Option (List ℕ)) → MatchOption last (r ≡ true) (λ k. r ≡ is_below k t) → r ≡ true → ascend_behind (Some t) ks ≡ ascend_behind last (t ∷ ks)
  next_above None says e = refl
  next_above (Some k) says e = below_next true k t ks (sym says ∙ e)

  pub next_not_above : (last : Option (List ℕ)) → MatchOption last (r ≡ true) (λ k. r ≡ is_below k t) → r ≡ false → false ≡ ascend_behind last (t ∷ ks)
  next_not_above None says e = absurd (cc)
  next_not_above (Some k) says e = below_next false k t ks (sym says ∙ e)

pub none_left : (last : Option (List ℕ)) → true ≡ ascend_behind last []
none_left None = refl
none_left (Some k) = refl

-- ---- the nodes of entries

-- a key, and then its node
abbrev pub Entry : Type 0
Entry = Ref ArchivedString × Ref ArchivedNode

abbrev pub IsEntryThere : Entry → Type 0
IsEntryThere e = HasTextIn e.0 × HasValue node_shape KnowsNode e.1.bytes.now e.1.pos

abbrev pub key_of : Entry → List ℕ
key_of e = text_of e.0

abbrev pub tag_of : Entry → ℕ
tag_of e = slice_index e.1.bytes.now e.1.pos

abbrev pub are_leaves : List Entry → Bool
are_leaves es = are_low (map tag_of es)

-- the next node is a leaf or not
pub next_leaf : (leaves r : Bool) (e : Entry) (others : List Entry) → (IsTrue r ↔ (tag_of e ≤ 3)) → ((leaves && r) && are_leaves others) ≡ (leaves && are_leaves (e ∷ others))
next_leaf leaves r e others is = and_assoc leaves r (are_leaves others) ∙ ap (λ b. leaves && (b && are_leaves others)) (leaf_told r (tag_of e) is)

pub no_leaf : (leaves : Bool) {es : List Entry} → es ≡ [] → (leaves && are_leaves es) ≡ leaves
no_leaf leaves e = ap (λ xs. leaves && are_leaves xs) e ∙ and-true leaves

-- ---- all keys of a map

module _ (bytes : Bor (List ℕ)) (pos : ℕ) (has : HasValue map_shape knows_pairs bytes.now pos) where
  tree : IsMapOf text node_shape (λ _. ⊤) KnowsNode bytes.now 5 pos has.value
  tree = tree_of_value has

  module _ (left : List (Ref ArchivedString)) (are : (t : Tree Place) → IsMapAt bytes.now 5 text node_shape pos t → left ≡ map (key_at bytes) (items t)) where
    refs_there : (ps : List Place) → All (λ (p : Place). HasText bytes.now p.key) ps → All HasTextIn (map (key_at bytes) ps)
    refs_there [] h = All-nil HasTextIn
    refs_there (p ∷ ps) h = All-cons HasTextIn (key_at bytes p) (map (key_at bytes) ps) (All-head (λ (p : Place). HasText bytes.now p.key) p ps h) (refs_there ps (All-tail (λ (p : Place). HasText bytes.now p.key) p ps h))

    pub all_there : All HasTextIn left
    all_there = subst (All HasTextIn) (sym (are tree.search_tree tree.map)) (refs_there (items tree.search_tree) (texts_there node_shape bytes.now KnowsNode (items tree.search_tree) (members has.value) tree.entries))

  -- ---- and all entries

  module _ (left : List Entry) (are : (t : Tree Place) → IsMapAt bytes.now 5 text node_shape pos t → left ≡ map (λ e. entry_at bytes e) (items t)) where
    abbrev entries_at : List Place → List Entry
    entries_at ps = map (λ e. entry_at bytes e) ps

    each_there : (ps : List Place) (ws : Values) → AreEntriesAt text node_shape (λ _. ⊤) KnowsNode bytes.now ps ws → All IsEntryThere (entries_at ps)
    each_there [] ws h = All-nil IsEntryThere
    each_there (p ∷ ps) no_values h = absurd h
    each_there (p ∷ ps) (more_values w ws) h =
        All-cons IsEntryThere (entry_at bytes p) (entries_at ps)
        ((text_there bytes.now p.key (λ _. ⊤) h.0.key h.0.key_held).stands.there, record { value = h.0.value; held = h.0.value_held })
        (each_there ps ws h.1)

    pub entries_there : All IsEntryThere left
    entries_there = subst (All IsEntryThere) (sym (are tree.search_tree tree.map)) (each_there (items tree.search_tree) (members has.value) tree.entries)

    keys_are : (ps : List Place) → map key_of (entries_at ps) ≡ texts_at bytes.now ps
    keys_are [] = refl
    keys_are (p ∷ ps) = ap (λ ks. text_at bytes.now p.key ∷ ks) (keys_are ps)

    tags_are : (ps : List Place) → map tag_of (entries_at ps) ≡ tags_at bytes.now ps
    tags_are [] = refl
    tags_are (p ∷ ps) = ap (λ tags. slice_index bytes.now p.value ∷ tags) (tags_are ps)

    -- what a walk finds, where after the last key that was read these are left of all entries
    module _ {depth : ℕ} {v : Value} {walk : List Stop} (h : Walks node_names bytes.now depth (at pos map_shape) v walk) where
      all_keys : map key_of left ≡ item_keys (members v)
      all_keys = ap (map key_of) (are tree.search_tree tree.map) ∙ keys_are (items tree.search_tree) ∙ sym (walked_keys node_shape bytes.now (map_in bytes.now tree.map h).items)

      all_leaves : are_leaves left ≡ lead_to_leaves (members v)
      all_leaves = ap are_leaves (are tree.search_tree tree.map) ∙ ap are_low (tags_are (items tree.search_tree)) ∙ sym (walked_leaves bytes.now (map_in bytes.now tree.map h).items)

      pub all_lead : (leaves : Bool) {es : List Entry} → es ≡ [] → (leaves && are_leaves es) ≡ are_leaves left → lead_to_leaves (members v) ≡ leaves
      all_lead leaves none rest = sym all_leaves ∙ sym rest ∙ no_leaf leaves none

      module _ (last : Option (List ℕ)) {es : List Entry} (rest : ascend_behind last (map key_of es) ≡ ascend (map key_of left)) where
        pub all_ascend : es ≡ [] → ascend (item_keys (members v)) ≡ true
        all_ascend none = sym (none_left last ∙ sym (ap (λ xs. ascend_behind last (map key_of xs)) none) ∙ rest ∙ ap ascend all_keys)

        pub one_descends : {e : Entry} {others : List Entry} → es ≡ e ∷ others → false ≡ ascend_behind last (key_of e ∷ map key_of others) → ascend (item_keys (members v)) ≡ false
        one_descends next down = sym (down ∙ sym (ap (λ xs. ascend_behind last (map key_of xs)) next) ∙ rest ∙ ap ascend all_keys)
