-- The places and the controls of a table that is read: they lie in the bytes, and are what a map lists of the table.
use Rattle.std.proofs.Common.{◌≡◌, ◌∙◌, ℕ, ◌+◌, ◌-◌, ◌*◌, ◌^◌, ◌<◌, ◌≤◌, min, List, length, Some, sym, ap, subst, arith, mul-le-mul_right}
use Rattle.archive_shape_layout.specs.Shape.{Shape, size_of}
use Rattle.archive_shape_layout.specs.Shape.Shape.{table}
use Rattle.archive_shape_layout.specs.Content.{Names, control_count}
use Rattle.archive_forms_values.specs.Parts.{HasValue}
use Rattle.archive_hash_maps.proofs.Roots.{HasPlaces, places_of_value, table_some}
use Rattle.archive_hash_maps.specs.Calls.Tables.{ReadsBuckets}
use Rattle.archive_hash_maps.specs.Places.{held}
use Rattle.archive_hash_maps.specs.Tables.{Buckets}
use Rattle.archive_hash_maps.specs.declared.walking.buckets.BucketsAt.{BucketsAt}
use Rattle.cabinet_text_grammar.specs.Path.{Step}
use Rattle.cabinet_archives.specs.Mapping.{listed_region}
use Rattle.cabinet_archives.specs.Mapped.{listed_table}
use Rattle.cabinet_archives.specs.declared.mapping.region.RegionKind.TheVariants as kind
use Rattle.cabinet_archives.proofs.MapParts.{table_region}
use Rattle.cabinet_archives.proofs.NodeListings.{named}

-- of places of this size, of which there are some
pub record HasRoom (s : Shape) (bytes : List ℕ) (r : BucketsAt) (size : ℕ) : Type 0 where
  pub some : 0 < r.capacity
  pub size_is : size ≡ size_of s
  pub count : length r.controls.now ≡ control_count r.capacity
  pub room : r.capacity * size ≤ r.target
  pub within : r.target + length r.controls.now ≤ length bytes

pub read_room : {s : Shape} {knows : Names → Type 0} {bytes : List ℕ} {pos size : ℕ} {r : BucketsAt}
    → HasValue (table s) knows bytes pos → ReadsBuckets s bytes pos (Some r)
    → length bytes < 2 ^ 64 → size ≡ min (size_of s) (2 ^ 64 - 1) → HasRoom s bytes r size
read_room {s = s} {bytes = bytes} {pos = pos} {size = size} {r = r} has reads small least =
    let t = places_of_value has in
    let is = reads t.buckets t.table in
    let p : HasPlaces bytes s pos (held r) = subst (HasPlaces bytes s pos) is.0 (table_some is.1 t.table) in
    let one : 1 * size_of s ≤ r.capacity * size_of s = mul-le-mul_right (size_of s) (omega (arith, p.fewer)) in
    let whole : size ≡ size_of s = omega (arith, least, one, p.room, p.within, small) in
    let count = p.controls.count in
    record { some = omega (arith, p.fewer); size_is = whole; count = count; room = rw whole p.room; within = omega (arith, count, p.within) }

-- the region that is written is the one that a map lists
pub room_listed : {s : Shape} {bytes : List ℕ} {r : BucketsAt} {size : ℕ} {b : Buckets}
    → HasRoom s bytes r size → b ≡ held r → (path : List Step)
    → listed_table s b path ≡ listed_region (r.target - r.capacity * size) (r.capacity * size + length r.controls.now) (named kind.Table path)
room_listed {s = s} {r = r} {size = size} there is path =
    ap (λ c. listed_table s c path) is
    ∙ table_region s (held r) path there.some
    ∙ ap (λ n. listed_region (r.target - r.capacity * n) (r.capacity * n + control_count r.capacity) (named kind.Table path)) (sym there.size_is)
    ∙ ap (λ n. listed_region (r.target - r.capacity * size) (r.capacity * size + n) (named kind.Table path)) (sym there.count)
