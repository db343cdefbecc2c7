-- The walk of a hashed map is that of its items' values, by ascending place.
use Rattle.std.proofs.Common.{◌≡◌, ◌∙◌, ℕ, ◌+◌, ◌-◌, ◌*◌, Bool, true, false, cond, ◌==◌, ◌&&◌, nat_le, nat_lt, List, [], ◌∷◌, ◌++◌, take, Some, refl, sym, ap, subst, append-nil, append_assoc, eq-eqb}
use Rattle.std.specs.List.{flat_map, count_by}
use Rattle.std.proofs.lemmas.Bool.{ne_eqb}
use Rattle.archive_btree_layout.specs.Reading.{Place}
use Rattle.archive_shape_layout.specs.Bytes.{window, word_at, target_from, align_up}
use Rattle.archive_shape_layout.specs.Shape.{Shape, size_of, align_of}
use Rattle.archive_shape_layout.specs.Shape.Shape.{table}
use Rattle.archive_forms_values.specs.Tuples.{tuple2}
use Rattle.archive_shape_layout.specs.Value.{Value, Values}
use Rattle.archive_shape_layout.specs.Value.Values.{no_values, more_values}
use Rattle.archive_shape_layout.specs.Content.{Names, content_of, choose, members, item, item_size, control_count, wraps, buckets_span, buckets_content, tagged_items, shape_content, fields}
use Rattle.archive_shape_layout.specs.Content.Part.{at, buckets}
use Rattle.archive_shape_layout.specs.Content.Label.{same, whole}
use Rattle.archive_shape_layout.specs.Content.Content.{illegal, plain, claimed}
use Rattle.archive_forms_values.proofs.Chosen.{chosen, not_chosen}
use Rattle.archive_forms_values.proofs.Pointed.{made_same, made_whole}
use Rattle.archive_forms_laws.proofs.TextContent.{followed}
use Rattle.cabinet_documents.specs.Walk.{Stop, Walks, WalkAll}
use Rattle.cabinet_documents.specs.Table.{hashed_at, table_of}
use Rattle.cabinet_documents.specs.Audit.{too_deep, unless, faults, hashed_faults}
use Rattle.cabinet_documents.proofs.Begun.{own_faults, begun, not_walked, no_walks, first_walk, ends, onward}
use Rattle.cabinet_documents.proofs.TableSound.{no_table, table_content}
use Rattle.cabinet_documents.proofs.TreeWalks.{ItemsWalk, QuietKeys, EmptyMapWalked, EntriesWalk, PairWalked, no_entries, more_entries, pair_walked, flat_walked}

-- the positions of the key and of the value of the pair at a position
abbrev pub pair_place : Shape → Shape → ℕ → Place
pair_place k v pos = let from = align_up 0 (align_of k) in record { key = pos + from; value = pos + align_up (from + size_of k) (align_of v) }

-- those of the item of a place: place i is the i + 1st bucket below the target
abbrev pub item_place : Shape → Shape → ℕ → ℕ → Place
item_place k v target i = pair_place k v (target - (i + 1) * size_of (tuple2 k v))

-- those of the places whose controls are tags, where the first control is at place i
abbrev pub item_places : Shape → Shape → ℕ → ℕ → List ℕ → List Place
item_places k v target i [] = []
item_places k v target i (c ∷ cs) = cond (nat_lt c 128) (item_place k v target i ∷ item_places k v target (i + 1) cs) (item_places k v target (i + 1) cs)

-- the controls of the places of a table whose pointer leads to a position
abbrev pub controls_at : List ℕ → ℕ → ℕ → List ℕ
controls_at bytes target cap = take cap (window bytes target (control_count cap))

-- the walk of a hashed map, which may be too deep, and whose table has its faults: its items' values are walked in order
pub record TableWalked (names : Names) (bytes : List ℕ) (k v : Shape) (depth pos target : ℕ) (w : Value) (walk : List Stop) : Type 0 where
  pub runs : List (List Stop)
  pub items : ItemsWalk names bytes k v (depth + 1) (item_places k v target 0 (controls_at bytes target (word_at bytes (pos + 8)))) (members w) runs
  pub faults_are : faults bytes walk ≡ unless (nat_lt depth 64) too_deep ++ (hashed_faults (table_of hashed_at bytes pos w) ++ flat_map (faults bytes) runs)

module _ (names : Names) (bytes : List ℕ) (k v : Shape) where
  -- ---- items

  pub place_walked : {depth pos : ℕ} {w : Value} {walk : List Stop} → QuietKeys names bytes k depth → Walks names bytes depth (at pos (tuple2 k v)) w walk
      → PairWalked names bytes k v depth (pair_place k v pos).key (pair_place k v pos).value w walk
  unfolding shape_content fields
  place_walked {depth = depth} {pos = pos} quiet h = let p = pair_place k v pos in pair_walked names bytes k v depth (at pos (tuple2 k v)) p.key p.value refl refl refl quiet h

  one_walked : (depth target i : ℕ) (b : Bool) (later : List Place) (cs : List ℕ) {vs : Values} {runs : List (List Stop)} → QuietKeys names bytes k depth
      → WalkAll names bytes depth (cond b (at (target - (i + 1) * size_of (tuple2 k v)) (tuple2 k v) ∷ tagged_items target (item (tuple2 k v)) (i + 1) cs) (tagged_items target (item (tuple2 k v)) (i + 1) cs)) vs runs
      → ((ws : Values) (others : List (List Stop)) → WalkAll names bytes depth (tagged_items target (item (tuple2 k v)) (i + 1) cs) ws others → EntriesWalk names bytes k v depth later ws others)
      → EntriesWalk names bytes k v depth (cond b (item_place k v target i ∷ later) later) vs runs
  one_walked depth target i false later cs {vs = vs} {runs = runs} quiet all on = on vs runs all
  one_walked depth target i true later cs quiet all on =
      let f = first_walk names bytes all in
      let e = place_walked quiet f.first in
      more_entries refl (f.values_are ∙ ap (λ z. more_values z f.others) e.value_is) f.runs_are e.key_walk e.value_walk e.faults_are (on f.others f.later f.rest)

  items_walked : (depth target i : ℕ) (controls : List ℕ) {vs : Values} {runs : List (List Stop)} → QuietKeys names bytes k depth
      → WalkAll names bytes depth (tagged_items target (item (tuple2 k v)) i controls) vs runs → EntriesWalk names bytes k v depth (item_places k v target i controls) vs runs
  unfolding tagged_items
  items_walked depth target i [] quiet all = let n = no_walks names bytes all in no_entries refl n.0 n.1
  items_walked depth target i (c ∷ cs) quiet all =
      one_walked depth target i (nat_lt c 128) (item_places k v target (i + 1) cs) cs quiet all (λ ws others h. items_walked depth target (i + 1) cs quiet h)

  -- ---- buckets

  record BucketsWalked (depth target cap : ℕ) (w : Value) (walk : List Stop) : Type 0 where
    runs : List (List Stop)
    items : ItemsWalk names bytes k v depth (item_places k v target 0 (controls_at bytes target cap)) (members w) runs
    faults_are : faults bytes walk ≡ flat_map (faults bytes) runs

  claimed_walked : (b : Bool) (depth target len cap : ℕ) {w : Value} {walk : List Stop}
      → content_of names bytes (buckets target len cap (item (tuple2 k v))) ≡ choose b (claimed (buckets_span target cap (item (tuple2 k v))) whole (tagged_items target (item (tuple2 k v)) 0 (controls_at bytes target cap))) illegal
      → QuietKeys names bytes k depth → Walks names bytes depth (buckets target len cap (item (tuple2 k v))) w walk → BucketsWalked depth target cap w walk
  unfolding choose
  claimed_walked false depth target len cap e quiet h = absurd (not_walked names bytes e h)
  claimed_walked true depth target len cap {w = w} {walk = walk} e quiet h =
      let b = begun names bytes (claimed (buckets_span target cap (item (tuple2 k v))) whole (tagged_items target (item (tuple2 k v)) 0 (controls_at bytes target cap))) e h in
      let r = flat_walked names bytes k v depth (items_walked depth target 0 (controls_at bytes target cap) quiet b.all) in
      subst (λ x. BucketsWalked depth target cap x walk) (sym (made_whole b.vs w b.is_made)) (record { runs = r.runs; items = r.items; faults_are = b.faults_are ∙ r.faults_are })

  buckets_walked : (depth target len cap : ℕ) {w : Value} {walk : List Stop} → QuietKeys names bytes k depth → Walks names bytes depth (buckets target len cap (item (tuple2 k v))) w walk → BucketsWalked depth target cap w walk
  unfolding buckets_content
  buckets_walked depth target len cap quiet h =
      let controls = window bytes target (control_count cap) in
      claimed_walked (nat_le (cap * item_size (item (tuple2 k v))) target && (wraps cap controls 0 controls && (count_by (λ c. nat_lt c 128) (take cap controls) == len))) depth target len cap refl quiet h

  -- ---- the map

  empty_content : (pos : ℕ) → word_at bytes (pos + 4) ≡ 0 → content_of names bytes (at pos (table (tuple2 k v))) ≡ plain whole []
  empty_content pos e = table_content bytes names pos (tuple2 k v) ∙ chosen (word_at bytes (pos + 4) == 0) _ _ (eq-eqb _ 0 e)

  led_content : (pos target : ℕ) → (word_at bytes (pos + 4) ≡ 0 → ⊥) → target_from pos (word_at bytes pos) ≡ Some target
      → let len = word_at bytes (pos + 4) in
      let cap = word_at bytes (pos + 8) in
      content_of names bytes (at pos (table (tuple2 k v))) ≡ choose (nat_lt len cap) (plain same (buckets target len cap (item (tuple2 k v)) ∷ [])) illegal
  led_content pos target away leads =
      let len = word_at bytes (pos + 4) in
      let cap = word_at bytes (pos + 8) in
      table_content bytes names pos (tuple2 k v)
      ∙ not_chosen (len == 0) _ _ (ne_eqb _ 0 away)
      ∙ ap (λ c. choose (nat_lt len cap) c illegal) (followed (target_from pos (word_at bytes pos)) target (λ t. plain same (buckets t len cap (item (tuple2 k v)) ∷ [])) leads)

  pointed_walked : (fewer : Bool) (depth pos target len : ℕ) {w : Value} {walk : List Stop}
      → content_of names bytes (at pos (table (tuple2 k v))) ≡ choose fewer (plain same (buckets target len (word_at bytes (pos + 8)) (item (tuple2 k v)) ∷ [])) illegal
      → QuietKeys names bytes k (depth + 1) → Walks names bytes depth (at pos (table (tuple2 k v))) w walk → TableWalked names bytes k v depth pos target w walk
  unfolding choose
  pointed_walked false depth pos target len e quiet h = absurd (not_walked names bytes e h)
  pointed_walked true depth pos target len {w = w} {walk = walk} e quiet h =
      let cap = word_at bytes (pos + 8) in
      let o = onward names bytes (plain same (buckets target len cap (item (tuple2 k v)) ∷ [])) refl (λ run. refl) e h in
      let r = buckets_walked (depth + 1) target len cap quiet o.next in
      let same_value = made_same o.value w o.is_made in
      record {
        runs = r.runs;
        items = subst (λ x. ItemsWalk names bytes k v (depth + 1) (item_places k v target 0 (controls_at bytes target cap)) (members x) r.runs) same_value r.items;
        faults_are =
            o.faults_are ∙ ap (λ x. own_faults bytes depth (at pos (table (tuple2 k v))) w ++ x) r.faults_are
            ∙ append_assoc (unless (nat_lt depth 64) too_deep) (hashed_faults (table_of hashed_at bytes pos w)) (flat_map (faults bytes) r.runs);
      }

  -- with items
  pub table_walked : {depth pos target : ℕ} {w : Value} {walk : List Stop}
      → (word_at bytes (pos + 4) ≡ 0 → ⊥) → target_from pos (word_at bytes pos) ≡ Some target → QuietKeys names bytes k (depth + 1)
      → Walks names bytes depth (at pos (table (tuple2 k v))) w walk → TableWalked names bytes k v depth pos target w walk
  table_walked {depth = depth} {pos = pos} {target = target} away leads quiet h =
      let len = word_at bytes (pos + 4) in
      pointed_walked (nat_lt len (word_at bytes (pos + 8))) depth pos target len (led_content pos target away leads) quiet h

  -- and without
  pub empty_table_walked : {depth pos : ℕ} {w : Value} {walk : List Stop}
      → word_at bytes (pos + 4) ≡ 0 → Walks names bytes depth (at pos (table (tuple2 k v))) w walk → EmptyMapWalked bytes depth w walk
  empty_table_walked {depth = depth} {pos = pos} {w = w} none h =
      let b = ends names bytes (plain whole []) refl refl (empty_content pos none) h in
      let is = made_whole no_values w b.is_made in
      record {
        value_is = is;
        members_are = ap members is;
        faults_are =
            b.faults_are ∙ ap (λ t. unless (nat_lt depth 64) too_deep ++ hashed_faults t) (no_table bytes hashed_at pos w none)
            ∙ append-nil (unless (nat_lt depth 64) too_deep);
      }
