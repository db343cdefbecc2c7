-- The walk of a kept map is that of its pairs' values, in order.
use Rattle.std.proofs.Common.{◌≡◌, ◌∙◌, ℕ, zero, suc, ◌+◌, ◌-◌, ◌*◌, Bool, true, false, cond, ◌==◌, ◌&&◌, nat_le, nat_lt, List, [], ◌∷◌, ◌++◌, take, Some, refl, sym, ap, ap₂, subst, append-nil, append_assoc, eq-eqb}
use Rattle.std.specs.List.{flat_map, count_by}
use Rattle.std.proofs.lemmas.Bool.{ne_eqb}
use Rattle.archive_btree_layout.specs.Reading.{Place}
use Rattle.archive_shape_layout.specs.Bytes.{window, word_at, target_from}
use Rattle.archive_shape_layout.specs.Shape.{Shape, size_of, align_of}
use Rattle.archive_shape_layout.specs.Shape.Shape.{index_map}
use Rattle.archive_shape_layout.specs.Shape.Pointee.{slice}
use Rattle.archive_forms_values.specs.Tuples.{tuple2}
use Rattle.archive_shape_layout.specs.Value.{Value, Values}
use Rattle.archive_shape_layout.specs.Value.Value.{natural}
use Rattle.archive_shape_layout.specs.Value.Values.{no_values, more_values}
use Rattle.archive_shape_layout.specs.Content.{Names, Part, content_of, choose, made, members, place, control_count, wraps, buckets_span, buckets_content, place_content, pointee_content, tagged_items, elements}
use Rattle.archive_shape_layout.specs.Content.Part.{at, behind, buckets, place_at}
use Rattle.archive_shape_layout.specs.Content.Label.{leaf, second, whole}
use Rattle.archive_shape_layout.specs.Content.Content.{illegal, plain, claimed}
use Rattle.archive_forms_values.proofs.Chosen.{chosen, not_chosen}
use Rattle.archive_forms_values.proofs.Pointed.{made_whole}
use Rattle.archive_forms_laws.proofs.TextContent.{followed}
use Rattle.cabinet_documents.specs.Walk.{Stop, Walks, WalkAll}
use Rattle.cabinet_documents.specs.Table.{kept_at, table_of}
use Rattle.cabinet_documents.specs.Audit.{too_deep, unless, faults, kept_faults}
use Rattle.cabinet_documents.proofs.Begun.{own_faults, faults-append, faults-flat, begun, not_walked, no_walks, first_walk, only_walk, ends}
use Rattle.cabinet_documents.proofs.TableSound.{no_table, index_content}
use Rattle.cabinet_documents.proofs.TableWalks.{pair_place, place_walked}
use Rattle.cabinet_documents.proofs.TreeWalks.{ItemsWalk, QuietKeys, EmptyMapWalked, EntriesWalk, ItemsWalked, no_entries, more_entries, flat_walked}

-- the positions of the keys and of the values of pairs side by side
abbrev pub pair_places : Shape → Shape → ℕ → ℕ → List Place
pair_places k v pos zero = []
pair_places k v pos (suc n) = pair_place k v pos ∷ pair_places k v (pos + size_of (tuple2 k v)) n

-- the walk of a kept map, which may be too deep, and whose table has its faults: its pairs' values are walked in order
pub record IndexWalked (names : Names) (bytes : List ℕ) (k v : Shape) (depth pos start : ℕ) (w : Value) (walk : List Stop) : Type 0 where
  pub runs : List (List Stop)
  pub items : ItemsWalk names bytes k v (depth + 1) (pair_places k v start (word_at bytes (pos + 4))) (members w) runs
  pub faults_are : faults bytes walk ≡ unless (nat_lt depth 64) too_deep ++ (kept_faults (table_of kept_at bytes pos w) ++ flat_map (faults bytes) runs)

-- ---- numbers have no faults

module _ (names : Names) (bytes : List ℕ) where
  number_quiet : {depth pos limit : ℕ} {v : Value} {walk : List Stop} → Walks names bytes depth (place_at pos limit) v walk → faults bytes walk ≡ []
  unfolding place_content
  number_quiet {pos = pos} {limit = limit} h = let n = word_at (window bytes pos 4) 0 in tested n (nat_lt n limit) refl h
    where
      tested : (n : ℕ) (b : Bool) {depth : ℕ} {v : Value} {walk : List Stop} → content_of names bytes (place_at pos limit) ≡ choose b (plain (leaf (natural n)) []) illegal → Walks names bytes depth (place_at pos limit) v walk → faults bytes walk ≡ []
      tested n true e w = (ends names bytes (plain (leaf (natural n)) []) refl refl (e ∙ chosen true _ _ refl) w).faults_are
      tested n false e w = absurd (not_walked names bytes (e ∙ not_chosen false _ _ refl) w)

  one_quiet : (depth pos limit : ℕ) (b : Bool) (ps : List Part) {vs : Values} {runs : List (List Stop)} → WalkAll names bytes depth (cond b (place_at pos limit ∷ ps) ps) vs runs
      → ((us : Values) (later : List (List Stop)) → WalkAll names bytes depth ps us later → flat_map (faults bytes) later ≡ []) → flat_map (faults bytes) runs ≡ []
  one_quiet depth pos limit false ps all on = on _ _ all
  one_quiet depth pos limit true ps all on =
      let f = first_walk names bytes all in
      ap (flat_map (faults bytes)) f.runs_are ∙ ap₂ (λ x y. x ++ y) (number_quiet f.first) (on _ _ f.rest)

  numbers_quiet : (depth target limit i : ℕ) (cs : List ℕ) {vs : Values} {runs : List (List Stop)} → WalkAll names bytes depth (tagged_items target (place limit) i cs) vs runs → flat_map (faults bytes) runs ≡ []
  unfolding tagged_items
  numbers_quiet depth target limit i [] all = ap (flat_map (faults bytes)) (no_walks names bytes all).1
  numbers_quiet depth target limit i (c ∷ cs) all =
      one_quiet depth (target - (i + 1) * 4) limit (nat_lt c 128) (tagged_items target (place limit) (i + 1) cs) all (λ us later h. numbers_quiet depth target limit (i + 1) cs h)

  buckets_quiet : (depth target len cap limit : ℕ) {w : Value} {walk : List Stop} → Walks names bytes depth (buckets target len cap (place limit)) w walk → faults bytes walk ≡ []
  unfolding buckets_content
  buckets_quiet depth target len cap limit h =
      let controls = window bytes target (control_count cap) in
      tested (nat_le (cap * 4) target && (wraps cap controls 0 controls && (count_by (λ c. nat_lt c 128) (take cap controls) == len))) refl h
    where
      numbers : List Part
      numbers = tagged_items target (place limit) 0 (take cap (window bytes target (control_count cap)))

      tested : (b : Bool) {w : Value} {walk : List Stop} → content_of names bytes (buckets target len cap (place limit)) ≡ choose b (claimed (buckets_span target cap (place limit)) whole numbers) illegal
          → Walks names bytes depth (buckets target len cap (place limit)) w walk → faults bytes walk ≡ []
      tested true e x =
          let b = begun names bytes (claimed (buckets_span target cap (place limit)) whole numbers) (e ∙ chosen true _ _ refl) x in
          b.faults_are ∙ faults-flat bytes b.runs ∙ numbers_quiet depth target limit 0 (take cap (window bytes target (control_count cap))) b.all
      tested false e x = absurd (not_walked names bytes (e ∙ not_chosen false _ _ refl) x)

module _ (names : Names) (bytes : List ℕ) (k v : Shape) where
  -- ---- pairs

  pairs_walked : (depth pos n : ℕ) {vs : Values} {runs : List (List Stop)} → QuietKeys names bytes k depth → WalkAll names bytes depth (elements pos n (tuple2 k v)) vs runs → EntriesWalk names bytes k v depth (pair_places k v pos n) vs runs
  unfolding elements
  pairs_walked depth pos zero quiet all = let n = no_walks names bytes all in no_entries refl n.0 n.1
  pairs_walked depth pos (suc n) quiet all =
      let f = first_walk names bytes all in
      let e = place_walked names bytes k v quiet f.first in
      more_entries refl (f.values_are ∙ ap (λ z. more_values z f.others) e.value_is) f.runs_are e.key_walk e.value_walk e.faults_are (pairs_walked depth (pos + size_of (tuple2 k v)) n quiet f.rest)

  slice_walked : {depth start n : ℕ} {w : Value} {walk : List Stop} → QuietKeys names bytes k depth → Walks names bytes depth (behind start (slice (tuple2 k v)) n) w walk
      → ItemsWalked names bytes k v depth (pair_places k v start n) (members w) walk
  unfolding pointee_content
  slice_walked {depth = depth} {start = start} {n = n} {w = w} {walk = walk} quiet h =
      let s = tuple2 k v in
      let b = begun names bytes (claimed (record { start = start; size = n * size_of s; align = align_of s }) whole (elements start n s)) refl h in
      let r = flat_walked names bytes k v depth (pairs_walked depth start n quiet b.all) in
      subst (λ x. ItemsWalked names bytes k v depth (pair_places k v start n) (members x) walk) (sym (made_whole b.vs w b.is_made)) (record { runs = r.runs; items = r.items; faults_are = b.faults_are ∙ r.faults_are })

  -- ---- the map

  empty_content : (pos : ℕ) → word_at bytes (pos + 4) ≡ 0 → content_of names bytes (at pos (index_map k v)) ≡ plain whole []
  empty_content pos e = index_content bytes names pos k v ∙ chosen (word_at bytes (pos + 4) == 0) _ _ (eq-eqb _ 0 e)

  led_content : (pos target start : ℕ) → (word_at bytes (pos + 4) ≡ 0 → ⊥) → target_from pos (word_at bytes pos) ≡ Some target → target_from (pos + 12) (word_at bytes (pos + 12)) ≡ Some start
      → let len = word_at bytes (pos + 4) in
      let cap = word_at bytes (pos + 8) in
      content_of names bytes (at pos (index_map k v)) ≡ choose (nat_lt len cap) (plain second (buckets target len cap (place len) ∷ (behind start (slice (tuple2 k v)) len ∷ []))) illegal
  led_content pos target start away leads next =
      let len = word_at bytes (pos + 4) in
      let cap = word_at bytes (pos + 8) in
      index_content bytes names pos k v
      ∙ not_chosen (len == 0) _ _ (ne_eqb _ 0 away)
      ∙ followed (target_from (pos + 12) (word_at bytes (pos + 12))) start _ next
      ∙ ap (λ c. choose (nat_lt len cap) c illegal) (followed (target_from pos (word_at bytes pos)) target (λ u. plain second (buckets u len cap (place len) ∷ (behind start (slice (tuple2 k v)) len ∷ []))) leads)

  pointed_walked : (fewer : Bool) (depth pos target start : ℕ) {w : Value} {walk : List Stop}
      → let len = word_at bytes (pos + 4) in
      content_of names bytes (at pos (index_map k v)) ≡ choose fewer (plain second (buckets target len (word_at bytes (pos + 8)) (place len) ∷ (behind start (slice (tuple2 k v)) len ∷ []))) illegal
      → QuietKeys names bytes k (depth + 1) → Walks names bytes depth (at pos (index_map k v)) w walk → IndexWalked names bytes k v depth pos start w walk
  unfolding choose made
  pointed_walked false depth pos target start e quiet h = absurd (not_walked names bytes e h)
  pointed_walked true depth pos target start {w = w} e quiet h =
      let len = word_at bytes (pos + 4) in
      let cap = word_at bytes (pos + 8) in
      let b = begun names bytes (plain second (buckets target len cap (place len) ∷ (behind start (slice (tuple2 k v)) len ∷ []))) e h in
      let f = first_walk names bytes b.all in
      let g = only_walk names bytes f.rest in
      let both : b.vs ≡ more_values f.value (more_values g.value no_values) = f.values_are ∙ ap (more_values f.value) g.values_are in
      let m : made second (more_values f.value (more_values g.value no_values)) ≡ Some w = subst (λ x. made second x ≡ Some w) both b.is_made in
      let is : g.value ≡ w = cc in
      let r = slice_walked quiet g.only in
      let quiet_numbers = buckets_quiet names bytes (depth + 1) target len cap len f.first in
      record {
        runs = r.runs;
        items = subst (λ x. ItemsWalk names bytes k v (depth + 1) (pair_places k v start len) (members x) r.runs) is r.items;
        faults_are =
            b.faults_are
            ∙ ap (λ x. own_faults bytes depth (at pos (index_map k v)) w ++ faults bytes (flat_map (λ a. a) x)) (f.runs_are ∙ ap (λ x. f.run ∷ x) g.runs_are)
            ∙ ap (λ x. own_faults bytes depth (at pos (index_map k v)) w ++ x) (faults-append bytes f.run (g.run ++ []) ∙ ap₂ (λ x y. x ++ faults bytes y) quiet_numbers (append-nil g.run) ∙ r.faults_are)
            ∙ append_assoc (unless (nat_lt depth 64) too_deep) (kept_faults (table_of kept_at bytes pos w)) (flat_map (faults bytes) r.runs);
      }

  -- with pairs
  pub index_walked : {depth pos target start : ℕ} {w : Value} {walk : List Stop}
      → (word_at bytes (pos + 4) ≡ 0 → ⊥) → target_from pos (word_at bytes pos) ≡ Some target → target_from (pos + 12) (word_at bytes (pos + 12)) ≡ Some start → QuietKeys names bytes k (depth + 1)
      → Walks names bytes depth (at pos (index_map k v)) w walk → IndexWalked names bytes k v depth pos start w walk
  index_walked {depth = depth} {pos = pos} {target = target} {start = start} away leads next quiet h =
      pointed_walked (nat_lt (word_at bytes (pos + 4)) (word_at bytes (pos + 8))) depth pos target start (led_content pos target start away leads next) quiet h

  -- and without
  pub empty_index_walked : {depth pos : ℕ} {w : Value} {walk : List Stop}
      → word_at bytes (pos + 4) ≡ 0 → Walks names bytes depth (at pos (index_map k v)) w walk → EmptyMapWalked bytes depth w walk
  empty_index_walked {depth = depth} {pos = pos} {w = w} none h =
      let b = ends names bytes (plain whole []) refl refl (empty_content pos none) h in
      let is = made_whole no_values w b.is_made in
      record {
        value_is = is;
        members_are = ap members is;
        faults_are =
            b.faults_are ∙ ap (λ t. unless (nat_lt depth 64) too_deep ++ kept_faults t) (no_table bytes kept_at pos w none)
            ∙ append-nil (unless (nat_lt depth 64) too_deep);
      }
