-- From a hashed map to the node of one of its pairs: what holds there, and that it lies in the map.
use Rattle.std.proofs.Common.{◌≡◌, ℕ, zero, suc, ◌+◌, ◌-◌, ◌*◌, nat_lt, cond, Bool, true, false, List, [], ◌∷◌, take, Some, refl, sym, ap, subst, ◌∙◌}
use Rattle.std.specs.List.{slice_get}
use Rattle.archive_shape_layout.specs.Bytes.{window, word_at, target_from}
use Rattle.archive_shape_layout.specs.Value.{Value, Values}
use Rattle.archive_shape_layout.specs.Value.Value.{group}
use Rattle.archive_shape_layout.specs.Content.{Part, content_of, made, item, item_size, control_count}
use Rattle.archive_shape_layout.specs.Content.Part.{buckets}
use Rattle.archive_shape_layout.specs.Content.Label.{same, whole}
use Rattle.archive_shape_layout.specs.Content.Content.{plain, claimed}
use Rattle.archive_shape_layout.specs.Holds.{Region, Visit, OpenShared, Holds}
use Rattle.archive_shape_layout.specs.Path.{value_in}
use Rattle.archive_shape_layout.specs.Path.Stands.{stands_claimed}
use Rattle.archive_shape_layout.proofs.Edits.{not_plain}
use Rattle.archive_shape_layout.proofs.Places.{Laid, buckets_laid}
use Rattle.archive_shape_layout.proofs.Unique.{by_claimed}
use Rattle.cabinet_documents.specs.Node.{node_names, pair_shape}
use Rattle.cabinet_documents.specs.Denotes.{pair_value}
use Rattle.cabinet_documents.specs.Table.{full_from}
use Rattle.cabinet_documents.proofs.Places.{table_here, pair_here, buckets_here, part_of, parts_at, items_from, table_passes, passes, no_items_is, items_follow, Leads, leads_nowhere, leads_plain, leads_claimed, led}
use Rattle.cabinet_documents.proofs.Nodes.{none_illegal}
use Rattle.cabinet_documents.proofs.Steps.{AllAt, same_below, plain_below, element}
use Rattle.cabinet_documents.proofs.PairSteps.{NodeOf, node_within, pair_node, no_pair}
use Rattle.cabinet_documents.proofs.TableSound.{TableRead, reads_none, reads_buckets, table_read}

items_at : (target i : ℕ) (controls : List ℕ) → AllAt pair_here (items_from target i controls)
items_at target i [] = tt
items_at target i (c ∷ cs) = by_test (nat_lt c 128) (items_at target (i + 1) cs)
  where
    by_test : (b : Bool) → AllAt pair_here (items_from target (i + 1) cs) → AllAt pair_here (cond b (record { place = pair_here; pos = target - (i + 1) * 32 } ∷ items_from target (i + 1) cs) (items_from target (i + 1) cs))
    by_test true h = (refl, h)
    by_test false h = h

module _ (bytes : List ℕ) where
  -- it is item i of the buckets of so many places before a position
  pub record IsItem (target cap i q : ℕ) : Type 0 where
    pub place : ℕ
    pub among : slice_get (full_from 0 (take cap (window bytes target (control_count cap)))) i ≡ Some place
    pub is : q ≡ target - (place + 1) * 32

  item_among : (target j i q : ℕ) (cs : List ℕ) → slice_get (parts_at (items_from target j cs)) i ≡ Some (part_of pair_here q) → (p : ℕ) × (slice_get (full_from j cs) i ≡ Some p) × (q ≡ target - (p + 1) * 32)
  item_among target j i q [] e = absurd (cc)
  item_among target j i q (c ∷ cs) e = by (nat_lt c 128) i e (λ n f. item_among target (j + 1) n q cs f)
    where
      by : (b : Bool) (n : ℕ) → slice_get (parts_at (cond b (record { place = pair_here; pos = target - (j + 1) * 32 } ∷ items_from target (j + 1) cs) (items_from target (j + 1) cs))) n ≡ Some (part_of pair_here q)
          → ((m : ℕ) → slice_get (parts_at (items_from target (j + 1) cs)) m ≡ Some (part_of pair_here q) → (p : ℕ) × (slice_get (full_from (j + 1) cs) m ≡ Some p) × (q ≡ target - (p + 1) * 32))
          → (p : ℕ) × (slice_get (cond b (j ∷ full_from (j + 1) cs) (full_from (j + 1) cs)) n ≡ Some p) × (q ≡ target - (p + 1) * 32)
      by true zero f on = (j, refl, cc)
      by true (suc n) f on = on n f
      by false n f on = on n f

  -- of pair i of a map's buckets
  bucket_node : (target len places pos i : ℕ) (k : List ℕ) (u : Value) {level : ℕ} {around : List OpenShared} {v : Value} {vs : Values} {regions : List Region} {before after : List Visit}
      → v ≡ group vs → value_in i vs ≡ Some (pair_value k u) → Holds node_names bytes level around (part_of (buckets_here target len places) pos) v regions before after
      → NodeOf bytes (IsItem target places i) level around before (part_of (buckets_here target len places) pos) v u (λ inner. i ∷ (1 ∷ inner))
  unfolding made
  bucket_node target len places pos i k u {level = level} {around = around} {v = v} {vs = vs} {before = before} is there h = by_case (led bytes (buckets_here target len places) pos)
    where
      by_case : Leads bytes (buckets_here target len places) (content_of node_names bytes (part_of (buckets_here target len places) pos)) → NodeOf bytes (IsItem target places i) level around before (part_of (buckets_here target len places) pos) v u (λ inner. i ∷ (1 ∷ inner))
      by_case (leads_nowhere e) = absurd (none_illegal bytes e h)
      by_case (leads_plain e (passes y el eq)) = elim y [ ]
      by_case (leads_plain e (items_follow controls are count el eq)) = absurd (not_plain (subst (Laid (target - places * item_size (item pair_shape)) target true) e (buckets_laid target len places (item pair_shape) (window bytes target (control_count places)))))
      by_case (leads_claimed e (passes y el eq) b) = elim y [ ]
      by_case (leads_claimed {l = l} {qs = qs} {start = start} {size = size} {align = align} e (items_follow controls are count el eq) b) =
          let f = e ∙ ap (λ x. claimed (record { start = start; size = size; align = align }) x (parts_at qs)) el in
          let d = by_claimed node_names bytes f h in
          let m = d.is_made in
          let values : d.vs ≡ vs = cc in
          let o = element bytes pair_here i (items_from target 0 controls) (pair_value k u) d.all (ap parts_at eq) (items_at target 0 controls) (ap (value_in i) values ∙ there) in
          let n = pair_node bytes o.pos k u refl o.holds in
          let a = item_among target 0 i n.pair_pos controls (ap (λ x. slice_get (parts_at x) i) (sym eq) ∙ o.among ∙ ap (λ q. Some (part_of pair_here q)) (sym n.is_pair)) in
          let item : IsItem target places i n.pair_pos = record { place = a.0; among = ap (λ x. slice_get (full_from 0 x) i) (sym are) ∙ a.1; is = a.2 } in
          node_within bytes n item (λ r w inner x. stands_claimed f (o.within r w (1 ∷ inner) x) m refl)

  -- it is item i of the buckets that the table at `pos` leads to
  abbrev pub IsItemOf : ℕ → ℕ → ℕ → Type 0
  IsItemOf pos i q = (target : ℕ) → target_from pos (word_at bytes pos) ≡ Some target → IsItem target (word_at bytes (pos + 8)) i q

  item_of : (pos i q to n places : ℕ) {ps : List Part} → TableRead bytes pos same ps pair_shape → ps ≡ buckets to n places (item pair_shape) ∷ [] → IsItem to places i q → IsItemOf pos i q
  item_of pos i q to n places (reads_none l none word) is x target leads = absurd (cc)
  item_of pos i q to n places (reads_buckets {target = from} {len = len} l parts some led_to) is x target leads =
      let both = sym is ∙ parts in
      let to_is : to ≡ from = cc in
      let places_is : places ≡ word_at bytes (pos + 8) = cc in
      let target_is : from ≡ target = cc in
      subst (λ t. IsItem t (word_at bytes (pos + 8)) i q) (to_is ∙ target_is) (subst (λ p. IsItem to p i q) places_is x)

  -- of pair i of a hashed map
  pub table_node : (pos i : ℕ) (k : List ℕ) (u : Value) {level : ℕ} {around : List OpenShared} {v : Value} {vs : Values} {regions : List Region} {before after : List Visit}
      → v ≡ group vs → value_in i vs ≡ Some (pair_value k u) → Holds node_names bytes level around (part_of table_here pos) v regions before after
      → NodeOf bytes (IsItemOf pos i) level around before (part_of table_here pos) v u (λ inner. i ∷ (1 ∷ inner))
  unfolding made
  table_node pos i k u {level = level} {around = around} {v = v} {vs = vs} {before = before} is there h = by_case (led bytes table_here pos)
    where
      by_case : Leads bytes table_here (content_of node_names bytes (part_of table_here pos)) → NodeOf bytes (IsItemOf pos i) level around before (part_of table_here pos) v u (λ inner. i ∷ (1 ∷ inner))
      by_case (leads_nowhere e) = absurd (none_illegal bytes e h)
      by_case (leads_plain {qs = qs} e (passes {pos = goal} (table_passes {target = target} {len = len} {cap = places} small) el eq)) =
          let content = e ∙ ap (λ x. plain x (parts_at qs)) el ∙ ap (λ x. plain same (parts_at x)) eq in
          let one = same_below bytes (plain_below bytes content h) in
          let n = bucket_node target len places goal i k u is there one.holds in
          node_within bytes n (item_of pos i n.pair_pos target len places (table_read bytes node_names pos pair_shape content) refl n.is_pair) (λ r w inner x. one.stands r w (i ∷ (1 ∷ inner)) x)
      by_case (leads_plain {qs = qs} e (no_items_is el eq)) =
          absurd (no_pair bytes i (pair_value k u) (e ∙ ap (λ x. plain x (parts_at qs)) el ∙ ap (λ x. plain whole (parts_at x)) eq) h is there)
      by_case (leads_claimed e (passes y el eq) b) = absurd (cc)
      by_case (leads_claimed e (no_items_is el eq) b) = absurd (cc)
