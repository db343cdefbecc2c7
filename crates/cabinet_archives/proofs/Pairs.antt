-- The pairs of a map as entries: where the key and the node of each lie, its text, and the faults in a walk of them.
use Rattle.std.proofs.Common.{◌≡◌, ℕ, zero, suc, ◌+◌, List, [], ◌∷◌, ◌++◌, nat_lt, map, Some, refl, sym, ap, subst, ◌∙◌, add-zero, append-nil}
use Rattle.std.specs.Prelude.{⊤}
use Rattle.std.specs.List.{flat_map, slice_get}
use Rattle.archive_shape_layout.specs.Bytes.{align_up}
use Rattle.archive_shape_layout.specs.Shape.Shape.{text}
use Rattle.archive_shape_layout.specs.Value.{Value, Values}
use Rattle.archive_shape_layout.specs.Value.Value.{group}
use Rattle.archive_shape_layout.specs.Value.Values.{no_values, more_values}
use Rattle.archive_shape_layout.specs.Content.{members}
use Rattle.archive_shape_layout.specs.Shape.Shapes.{no_shapes}
use Rattle.archive_shape_layout.specs.Content.Part.{at}
use Rattle.archive_shape.specs.Key.{HeldAt}
use Rattle.archive_forms_values.specs.Fields.{field, field_position}
use Rattle.archive_forms_values.proofs.Held.{fields_at}
use Rattle.archive_btree_layout.specs.Reading.{Place}
use Rattle.archive_btree_maps.specs.Maps.{IsEntryAt, AreEntriesAt}
use Rattle.archive_hash_maps.specs.Tables.{AreItemsAt}
use Rattle.cabinet_documents.specs.Node.{node_names, node_shape, pair_shape, KnowsNode}
use Rattle.cabinet_documents.specs.Walk.{Stop}
use Rattle.cabinet_documents.specs.Audit.{Unsound, too_deep, unless, faults}
use Rattle.cabinet_documents.specs.Table.{item_keys}
use Rattle.cabinet_documents.proofs.TableWalks.{pair_place}
use Rattle.cabinet_documents.proofs.TreeWalks.{ItemsWalk, EmptyMapWalked, no_items, more_items}
use Rattle.cabinet_archives.specs.Keyed.{knows_pairs}
use Rattle.cabinet_archives.specs.Sound.{HasSoundWalk}
use Rattle.cabinet_archives.proofs.Soundness.{left_nil, right_nil}
use Rattle.cabinet_archives.proofs.Texts.{text_at, texts_at, walked_keys}

-- ---- lists

-- what stands at a number of a list that is read of another
pub record ReadAt {A B : Type 0} (f : A → B) (xs : List A) (i : ℕ) (y : B) : Type 0 where
  pub it : A
  pub there : slice_get xs i ≡ Some it
  pub is : y ≡ f it

pub read_at : {A B : Type 0} (f : A → B) (xs : List A) (i : ℕ) (y : B) → slice_get (map f xs) i ≡ Some y → ReadAt f xs i y
read_at f [] i y e = absurd (cc)
read_at f (x ∷ xs) zero y e = record { it = x; there = refl; is = cc }
read_at f (x ∷ xs) (suc i) y e = let r = read_at f xs i y e in record { it = r.it; there = r.there; is = r.is }

pub got_read : {A B : Type 0} (f : A → B) (xs : List A) (i : ℕ) (x : A) → slice_get xs i ≡ Some x → slice_get (map f xs) i ≡ Some (f x)
got_read f [] i x e = absurd (cc)
got_read f (y ∷ xs) zero x e = let same : y ≡ x = cc in ap (λ z. Some (f z)) same
got_read f (y ∷ xs) (suc i) x e = got_read f xs i x e

-- ---- items

-- the node of an item has no fault where no item's node has one
pub item_quiet : (bytes : List ℕ) (p : Place) {depth : ℕ} (i : ℕ) {ps : List Place} {vs : Values} {runs : List (List Stop)}
    → ItemsWalk node_names bytes text node_shape depth ps vs runs → flat_map (faults bytes) runs ≡ [] → slice_get ps i ≡ Some p → HasSoundWalk bytes (at p.value node_shape)
item_quiet bytes p i (no_items a b c) none e = let x = sym (ap (λ ps. slice_get ps i) a) ∙ e in absurd (cc)
item_quiet bytes p {depth = depth} zero (more_items {p = q} {y = y} {run = run} {later = later} a b c k n rest) none e =
    let all : faults bytes run ++ flat_map (faults bytes) later ≡ [] = sym (ap (flat_map (faults bytes)) c) ∙ none in
    let x = sym (ap (λ ps. slice_get ps 0) a) ∙ e in
    let same : q ≡ p = cc in
    subst (λ (z : Place). HasSoundWalk bytes (at z.value node_shape)) same (record { depth = depth; value = y; walk = run; walked = n; sound = left_nil (faults bytes run) (flat_map (faults bytes) later) all })
item_quiet bytes p (suc i) (more_items {run = run} {later = later} a b c k n rest) none e =
    let all : faults bytes run ++ flat_map (faults bytes) later ≡ [] = sym (ap (flat_map (faults bytes)) c) ∙ none in
    item_quiet bytes p i rest (right_nil (faults bytes run) (flat_map (faults bytes) later) all) (sym (ap (λ ps. slice_get ps (suc i)) a) ∙ e)

-- ---- entries

module _ (bytes : List ℕ) where
  abbrev pub pair_entry : ℕ → Place
  pair_entry p = record { key = p; value = field_position text no_shapes node_shape p }

  -- a walk names the same places
  pub pair_here : (p : ℕ) → pair_place text node_shape p ≡ pair_entry p
  unfolding align_up
  pair_here p = ap (λ n. record { key = n; value = p + 8 }) (add-zero p)

  entry_of_pair : (p : ℕ) (w : Value) → HeldAt pair_shape knows_pairs bytes p w → IsEntryAt text node_shape (λ _. ⊤) KnowsNode bytes (pair_entry p) w
  entry_of_pair p w h =
      let f = fields_at (field text (λ _. ⊤) ∷ field node_shape KnowsNode ∷ []) knows_pairs (λ names known. (known.0, (known.1, tt))) bytes p w h in
      let first = f.each in
      let second = first.rest in
      record {
        key = first.first;
        value = second.first;
        key_held = first.held;
        value_held = second.held;
        is = f.is ∙ ap group (first.is ∙ ap (more_values first.first) (second.is ∙ ap (more_values second.first) second.rest));
      }

  pub entries_of_pairs : (ps : List ℕ) (ws : Values) → AreItemsAt pair_shape knows_pairs bytes ps ws → AreEntriesAt text node_shape (λ _. ⊤) KnowsNode bytes (map pair_entry ps) ws
  entries_of_pairs [] no_values h = tt
  entries_of_pairs [] (more_values w ws) h = absurd h
  entries_of_pairs (p ∷ ps) no_values h = absurd h
  entries_of_pairs (p ∷ ps) (more_values w ws) h = (entry_of_pair p w h.0, entries_of_pairs ps ws h.1)

  pub pair_texts : (ps : List ℕ) → texts_at bytes (map pair_entry ps) ≡ map (text_at bytes) ps
  pair_texts [] = refl
  pair_texts (p ∷ ps) = ap (λ ks. text_at bytes p ∷ ks) (pair_texts ps)

  -- ---- a walk

  -- the walk of a map whose pairs are at these positions: their nodes are walked in order, and beside the map's own faults it
  -- has theirs
  pub record PairsIn (depth : ℕ) (ps : List ℕ) (own : List Unsound) (v : Value) (walk : List Stop) : Type 0 where
    pub runs : List (List Stop)
    pub items : ItemsWalk node_names bytes text node_shape (depth + 1) (map pair_entry ps) (members v) runs
    pub faults_are : faults bytes walk ≡ unless (nat_lt depth 64) too_deep ++ (own ++ flat_map (faults bytes) runs)

  -- a map without pairs
  pub no_pairs : {depth : ℕ} {ps : List ℕ} {own : List Unsound} {v : Value} {walk : List Stop} → EmptyMapWalked bytes depth v walk → ps ≡ [] → own ≡ [] → PairsIn depth ps own v walk
  no_pairs {depth = depth} w none quiet = record {
    runs = [];
    items = no_items (ap (map pair_entry) none) w.members_are refl;
    faults_are = w.faults_are ∙ sym (append-nil (unless (nat_lt depth 64) too_deep)) ∙ ap (λ x. unless (nat_lt depth 64) too_deep ++ (x ++ [])) (sym quiet);
  }

  module _ {depth : ℕ} {ps : List ℕ} {own : List Unsound} {v : Value} {walk : List Stop} (w : PairsIn depth ps own v walk) where
    -- their keys
    pub pairs_keys : item_keys (members v) ≡ map (text_at bytes) ps
    pairs_keys = walked_keys node_shape bytes w.items ∙ pair_texts ps

    -- where it has no fault, the map has none of its own
    pub own_quiet : faults bytes walk ≡ [] → own ≡ []
    own_quiet none = left_nil own (flat_map (faults bytes) w.runs) (right_nil (unless (nat_lt depth 64) too_deep) (own ++ flat_map (faults bytes) w.runs) (sym w.faults_are ∙ none))

    -- and neither have the nodes of its pairs
    pub items_quiet : faults bytes walk ≡ [] → flat_map (faults bytes) w.runs ≡ []
    items_quiet none = right_nil own (flat_map (faults bytes) w.runs) (right_nil (unless (nat_lt depth 64) too_deep) (own ++ flat_map (faults bytes) w.runs) (sym w.faults_are ∙ none))

    pub node_quiet : faults bytes walk ≡ [] → (i p : ℕ) → slice_get ps i ≡ Some p → HasSoundWalk bytes (at (field_position text no_shapes node_shape p) node_shape)
    node_quiet none i p there = item_quiet bytes (pair_entry p) i w.items (items_quiet none) (got_read pair_entry ps i p there)
