-- The contracts of calls that write the region of a table, whose items are at their places.
use Rattle.std.specs.Prelude.{◌≡◌, ℕ, ◌+◌, ◌-◌, ◌*◌, ◌≤◌, List, ◌++◌, length, take, Option, Result, Ok, IfOk, ◌⊎◌}
use Rattle.archive_shape_layout.specs.Shape.{Shape, size_of}
use Rattle.archive_shape.specs.Bytes.{zeros}
use Rattle.archive_shape_layout.specs.Writing.{WriterMembers, Writes}
use Rattle.archive_shape_layout.specs.declared.error.Error.{Error}
use Rattle.archive_shape_layout.specs.declared.error.Error.TheVariants.{PositionTooLarge}
use Rattle.archive_forms_laws.specs.State.{State}
use Rattle.archive_forms_laws.specs.Spelling.{Spelling}
use Rattle.archive_forms_laws.specs.Serializing.{Lays}
use Rattle.archive_hash_writing.specs.Tables.{buckets, buckets_fit, buckets_refused, state_after_items, region_from, controls_at, IsPlaced}

-- The result is the number of bytes of a buffer that are in use: the same number as before, with room after them; or
-- none, where the bytes in use before were written and the whole buffer is zero.
abbrev pub MakesRoom : {W : Type 0} → WriterMembers W → (size filled : ℕ) → (before after : List ℕ) → W → W → Result ℕ Error → Type 0
MakesRoom members size filled before after old new result =
    ((result ≡ Ok filled) × (filled + size ≤ length before) × (after ≡ before) × (new ≡ old))
    ⊎ (Writes members old new (take filled before) result × IfOk result (λ n. (n ≡ 0) × (after ≡ zeros (length before))))

module _ {A R W : Type 0} (s : Shape) (w : Spelling A R) (members : WriterMembers W) (os : List (Option A)) where
  -- the buckets, from the writer's position on
  abbrev pub LaysBuckets : State → W → W → Result (Unit {0}) Error → Type 0
  LaysBuckets st old new result =
      let end = members.pos old + length os * size_of s in
      Lays members old new (buckets s w os st end) (λ _. buckets_fit s w os st end) (buckets_refused s w os st end) result

  -- Zeros up to the region, the buckets and the controls, after the data of the items at the places. The result is the
  -- position of the controls.
  abbrev pub LaysRegion : List ℕ → State → W → W → Result ℕ Error → Type 0
  LaysRegion controls st old new result =
      Lays members old new
      (zeros (region_from s w os st - (state_after_items s w os st).pos) ++ (buckets s w os st (controls_at s w os st) ++ controls))
      (λ to. (to ≡ controls_at s w os st) × IsPlaced s w os controls st × buckets_fit s w os st (controls_at s w os st))
      (λ e. ((IsPlaced s w os controls st → ⊥) × (e ≡ PositionTooLarge)) ⊎ buckets_refused s w os st (controls_at s w os st) e)
      result
