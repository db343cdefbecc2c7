-- What the own bytes of a table state about its places.
use Rattle.std.proofs.Common.{◌≡◌, ◌∙◌, ℕ, ◌+◌, ◌*◌, ◌<◌, ◌≤◌, ◌==◌, IsTrue, ◌↔◌, List, [], ◌∷◌, length, refl, ap, sym, arith, eqb-true, eq-eqb}
use Rattle.archive_shape_layout.specs.Bytes.{window, word_at}
use Rattle.archive_shape_layout.specs.Shape.{Shape, size_of}
use Rattle.archive_shape_layout.specs.Shape.Shape.{table}
use Rattle.archive_shape_layout.specs.Content.{Names, control_count}
use Rattle.archive_forms_values.specs.Parts.{HasValue, PointsTo}
use Rattle.archive_hash_probing.specs.Controls.{AreControls}
use Rattle.archive_hash_maps.specs.Tables.{Buckets, no_buckets, full_places, IsTableAt, IsTableOf}
use Rattle.archive_hash_maps.specs.Tables.IsTableAt.{has_none, has_buckets}
use Rattle.archive_hash_maps.proofs.Read.{table_is_read}

-- ---- the places

-- the places of a table that has a value
pub places_of_value : {s : Shape} {knows : Names → Type 0} {bytes : List ℕ} {pos : ℕ} (h : HasValue (table s) knows bytes pos) → IsTableOf s knows bytes pos h.value
places_of_value {s} {knows} {bytes} {pos} h = table_is_read s knows bytes pos h.value h.held

-- what is known of the places of a table that has items
pub record HasPlaces (bytes : List ℕ) (s : Shape) (pos : ℕ) (b : Buckets) : Type 0 where
  pub leads : PointsTo bytes pos b.target
  pub cap : word_at bytes (pos + 8) ≡ b.cap
  pub fewer : word_at bytes (pos + 4) < b.cap
  pub window : b.controls ≡ window bytes b.target (control_count b.cap)
  pub within : b.target + control_count b.cap ≤ length bytes
  pub room : b.cap * size_of s ≤ b.target
  pub controls : AreControls b.controls b.cap

module _ {bytes : List ℕ} {s : Shape} {pos : ℕ} {b : Buckets} where
  -- the length is the number of the items
  pub table_count : IsTableAt bytes s pos b → word_at bytes (pos + 4) ≡ length (full_places b)
  table_count (has_none e f) = e ∙ sym (ap (λ c. length (full_places c)) f)
  table_count (has_buckets n d e f g h i j k) = sym k

  pub table_none : word_at bytes (pos + 4) ≡ 0 → IsTableAt bytes s pos b → b ≡ no_buckets
  table_none z (has_none e f) = f
  table_none z (has_buckets n d e f g h i j k) = absurd (n z)

  pub table_some : (word_at bytes (pos + 4) ≡ 0 → ⊥) → IsTableAt bytes s pos b → HasPlaces bytes s pos b
  table_some some (has_none e f) = absurd (some e)
  table_some some (has_buckets n d e f g h i j k) = record { leads = d; cap = e; fewer = f; window = g; within = h; room = i; controls = j }

no_places : (xs : List ℕ) → length xs ≡ 0 → xs ≡ []
no_places [] e = refl
no_places (x ∷ xs) e = absurd (omega arith)

pub table_empty : (ps : List ℕ) (n : ℕ) → n ≡ length ps → IsTrue (n == 0) ↔ (ps ≡ [])
table_empty ps n e = (λ y. no_places ps (sym e ∙ eqb-true n 0 y), λ y. eq-eqb n 0 (e ∙ ap length y))

-- the pointer and the number of places that are read are those of the places
pub record IsReadAs (b : Buckets) (to places size : ℕ) : Type 0 where
  pub target : to ≡ b.target
  pub cap : places ≡ b.cap
  pub within : to + control_count places ≤ size

pub read_as : {bytes : List ℕ} {s : Shape} {pos : ℕ} {b : Buckets} (to places : ℕ) → HasPlaces bytes s pos b → PointsTo bytes pos to → places ≡ word_at bytes (pos + 8) → IsReadAs b to places (length bytes)
read_as {bytes} {s} {pos} {b} to places p points cap_is =
    let leads = p.leads in
    let target : to ≡ b.target = cc in
    let cap : places ≡ b.cap = cap_is ∙ p.cap in
    let count : control_count places ≡ control_count b.cap = ap control_count cap in
    let within = p.within in
    record { target = target; cap = cap; within = omega (arith, target, count, within) }

-- the controls there are theirs
pub controls_read : {bytes : List ℕ} {s : Shape} {pos size : ℕ} {b : Buckets} (to places : ℕ) → HasPlaces bytes s pos b → IsReadAs b to places size → window bytes to (control_count places) ≡ b.controls
controls_read {bytes} {b = b} to places p r =
    ap (λ n. window bytes to (control_count n)) r.cap ∙ ap (λ at. window bytes at (control_count b.cap)) r.target ∙ sym p.window
