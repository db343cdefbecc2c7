-- From a kept map to the node of one of its pairs: what holds there, and that it lies in the map.
use Rattle.std.proofs.Common.{◌≡◌, ℕ, zero, suc, ◌+◌, ◌*◌, List, [], ◌∷◌, Some, refl, ap, ◌∙◌, arith}
use Rattle.std.specs.List.{slice_get}
use Rattle.archive_shape_layout.specs.Bytes.{align_up, word_at, target_from}
use Rattle.archive_shape_layout.specs.Shape.Shape.{text}
use Rattle.archive_shape_layout.specs.Shape.Pointee.{slice}
use Rattle.archive_shape_layout.specs.Value.{Value, Values}
use Rattle.archive_shape_layout.specs.Value.Value.{group}
use Rattle.archive_shape_layout.specs.Value.Values.{no_values, more_values}
use Rattle.archive_shape_layout.specs.Content.{Part, content_of, made, pointee_content, place}
use Rattle.archive_shape_layout.specs.Content.Part.{behind}
use Rattle.archive_shape_layout.specs.Content.Label.{second, whole}
use Rattle.archive_shape_layout.specs.Content.Content.{plain, claimed}
use Rattle.archive_shape_layout.specs.Holds.{Region, Visit, OpenShared, Holds}
use Rattle.archive_shape_layout.specs.Path.{value_in}
use Rattle.archive_shape_layout.specs.Path.Stands.{stands_plain, stands_claimed}
use Rattle.archive_shape_layout.proofs.Unique.{by_plain, by_claimed}
use Rattle.cabinet_documents.specs.Node.{node_names, node_shape, pair_shape}
use Rattle.cabinet_documents.specs.Denotes.{pair_value}
use Rattle.cabinet_documents.proofs.Places.{index_here, pair_here, pairs_behind, part_of, parts_at, pairs_from, pairs_are, passes, no_entries_is, entries_second, Leads, leads_nowhere, leads_plain, leads_claimed, led}
use Rattle.cabinet_documents.proofs.Nodes.{none_illegal}
use Rattle.cabinet_documents.proofs.TableSound.{BucketsRead, reads_none, reads_buckets, index_read}
use Rattle.cabinet_documents.proofs.Steps.{each_at, element}
use Rattle.cabinet_documents.proofs.PairSteps.{second_part, NodeOf, node_within, pair_node, no_pair}

module _ (bytes : List ℕ) where
  -- ---- the node of entry i

  pairs_content : (start len : ℕ) → content_of node_names bytes (part_of (pairs_behind len) start) ≡ claimed (record { start = start; size = len * 32; align = 8 }) whole (parts_at (pairs_from start len))
  unfolding pointee_content align_up
  pairs_content start len = ap (claimed (record { start = start; size = len * 32; align = 8 }) whole) (pairs_are start len)

  entry_among : (start n i q : ℕ) → slice_get (parts_at (pairs_from start n)) i ≡ Some (part_of pair_here q) → q ≡ start + i * 32
  entry_among start zero i q e = absurd (cc)
  entry_among start (suc n) zero q e = let here : start ≡ q = cc in omega (arith, here)
  entry_among start (suc n) (suc i) q e = let later = entry_among (start + 32) n i q e in omega (arith, later)

  -- of entries side by side from a position on
  entry_node : (start len i : ℕ) (k : List ℕ) (u : Value) {level : ℕ} {around : List OpenShared} {v : Value} {vs : Values} {regions : List Region} {before after : List Visit}
      → v ≡ group vs → value_in i vs ≡ Some (pair_value k u) → Holds node_names bytes level around (part_of (pairs_behind len) start) v regions before after
      → NodeOf bytes (λ q. q ≡ start + i * 32) level around before (part_of (pairs_behind len) start) v u (λ inner. i ∷ (1 ∷ inner))
  unfolding made
  entry_node start len i k u {vs = vs} is there h =
      let content = pairs_content start len in
      let d = by_claimed node_names bytes content h in
      let m = d.is_made in
      let values : d.vs ≡ vs = cc in
      let o = element bytes pair_here i (pairs_from start len) (pair_value k u) d.all refl (each_at pair_here 32 start len) (ap (value_in i) values ∙ there) in
      let n = pair_node bytes o.pos k u refl o.holds in
      node_within bytes n (n.is_pair ∙ entry_among start len i o.pos o.among) (λ r w inner x. stands_claimed content (o.within r w (1 ∷ inner) x) m refl)

  -- ---- where the entries begin

  entries_led : (pos start len : ℕ) {p : Part} → content_of node_names bytes (part_of index_here pos) ≡ plain second (p ∷ (part_of (pairs_behind len) start ∷ [])) → target_from (pos + 12) (word_at bytes (pos + 12)) ≡ Some start
  entries_led pos start len {p = p} e = let r = index_read bytes node_names pos text node_shape e in by_case r.start r.leads r.read
    where
      count : ℕ
      count = word_at bytes (pos + 4)

      by_case : (from : ℕ) → ((count ≡ 0 → ⊥) → target_from (pos + 12) (word_at bytes (pos + 12)) ≡ Some from)
          → BucketsRead bytes pos second (place count) (behind from (slice pair_shape) count ∷ []) second (p ∷ (part_of (pairs_behind len) start ∷ [])) → target_from (pos + 12) (word_at bytes (pos + 12)) ≡ Some start
      by_case from leads (reads_none l parts none) = absurd (cc)
      by_case from leads (reads_buckets l parts some there) = let is : from ≡ start = cc in leads some ∙ ap Some is

  -- ---- of pair i of a kept map

  -- it is entry i behind the pointer to the entries of the map at `pos`
  pub record IsEntryOf (pos i q : ℕ) : Type 0 where
    pub start : ℕ
    pub leads : target_from (pos + 12) (word_at bytes (pos + 12)) ≡ Some start
    pub is : q ≡ start + i * 32

  second_there : (vs : Values) (v : Value) → made second vs ≡ Some v → value_in 1 vs ≡ Some v
  unfolding made
  second_there no_values v m = absurd (cc)
  second_there (more_values u no_values) v m = absurd (cc)
  second_there (more_values u (more_values w no_values)) v m = m
  second_there (more_values u (more_values w (more_values x vs))) v m = absurd (cc)

  pub index_node : (pos i : ℕ) (k : List ℕ) (u : Value) {level : ℕ} {around : List OpenShared} {v : Value} {vs : Values} {regions : List Region} {before after : List Visit}
      → v ≡ group vs → value_in i vs ≡ Some (pair_value k u) → Holds node_names bytes level around (part_of index_here pos) v regions before after
      → NodeOf bytes (IsEntryOf pos i) level around before (part_of index_here pos) v u (λ inner. i ∷ (1 ∷ inner))
  index_node pos i k u {level = level} {around = around} {v = v} {before = before} is there h = by_case (led bytes index_here pos)
    where
      by_case : Leads bytes index_here (content_of node_names bytes (part_of index_here pos)) → NodeOf bytes (IsEntryOf pos i) level around before (part_of index_here pos) v u (λ inner. i ∷ (1 ∷ inner))
      by_case (leads_nowhere e) = absurd (none_illegal bytes e h)
      by_case (leads_plain e (passes y el eq)) = elim y [ ]
      by_case (leads_plain {qs = qs} e (no_entries_is el eq)) = absurd (no_pair bytes i (pair_value k u) (e ∙ ap (λ x. plain x (parts_at qs)) el ∙ ap (λ x. plain whole (parts_at x)) eq) h is there)
      by_case (leads_plain {qs = qs} e (entries_second {len = len} {start = start} small el eq)) =
          let content = e ∙ ap (λ x. plain x (parts_at qs)) el ∙ ap (λ x. plain second (parts_at x)) eq in
          let d = by_plain node_names bytes content h in
          let s = second_part bytes v d.all (second_there d.vs v d.is_made) in
          let n = entry_node start len i k u is there s.holds in
          node_within bytes n (record { start = start; leads = entries_led pos start len content; is = n.is_pair }) (λ r w inner x. stands_plain content (s.within r w (i ∷ (1 ∷ inner)) x) d.is_made refl)
      by_case (leads_claimed e y b) = absurd (cc)
