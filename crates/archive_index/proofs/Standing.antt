-- Where the entries of an index map are read to stand.
use Rattle.std.proofs.Common.{◌≡◌, ◌∙◌, ℕ, ◌+◌, ◌*◌, ◌-◌, ◌^◌, ◌<◌, ◌≤◌, ◌==◌, min, Bool, true, false, List, length, Some, All, refl, ap, sym, subst, arith, eqb-true, eq-eqb, mul-le-mul_right}
use Rattle.std.specs.Prelude.{slice_index_or}
use Rattle.archive_forms_laws.specs.SpellingLaws.{KnowsAll}
use Rattle.archive_shape_layout.specs.Bytes.{word_at}
use Rattle.archive_shape_layout.specs.Shape.{Shape, size_of}
use Rattle.archive_shape_layout.specs.Shape.Shape.{table, index_map}
use Rattle.archive_shape_layout.specs.Value.{Value}
use Rattle.archive_shape_layout.specs.Content.{Names}
use Rattle.archive_shape.specs.Key.{HeldAt}
use Rattle.archive_forms_values.specs.Tuples.{tuple2}
use Rattle.archive_forms_values.specs.Parts.{HasValue, PointsTo, AreElements, both}
use Rattle.archive_hash_maps.specs.Tables.{item_positions}
use Rattle.archive_hash_maps.proofs.Entries.{entry_parts}
use Rattle.archive_hash_maps.proofs.Lookups.{items_there}
use Rattle.archive_hash_maps.proofs.Roots.{table_count}
use Rattle.archive_forms_laws.specs.Sample.{number_shape}
use Rattle.archive_index.specs.Maps.{IndexMap, count_of, IsMapAt, IsMapOf, entry_position, entry_positions, adjacent}
use Rattle.archive_index.proofs.Walk.{all_side, side_same}
use Rattle.archive_index.proofs.Read.{map_is_read, table_there, one_map}

module _ (k v : Shape) (knows others : Names → Type 0) (bytes : List ℕ) (pos : ℕ) where
  pub map_of : (h : HasValue (index_map k v) (both knows others) bytes pos) → IsMapOf k v knows others bytes pos h.value
  map_of h = map_is_read k v knows others bytes pos h.value h.held

  pub has_table : HasValue (index_map k v) (both knows others) bytes pos → HasValue (table number_shape) KnowsAll bytes pos
  has_table h = let t = table_there k v knows others bytes pos h.value h.held in record { value = t.0; held = t.1 }

  pub start_is : (m : IndexMap) (to n : ℕ) → IsMapAt bytes k v pos m → n ≡ word_at bytes (pos + 4) → (n ≡ 0 → to ≡ 0) → ((n ≡ 0 → ⊥) → PointsTo bytes (pos + 12) to) → to ≡ m.start
  start_is m to n at is none points = by_count (n == 0) refl
    where
      count : n ≡ count_of m
      count = is ∙ table_count at.table

      by_count : (b : Bool) → (n == 0) ≡ b → to ≡ m.start
      by_count true e = let zero = eqb-true n 0 e in none zero ∙ sym (at.none (sym count ∙ zero))
      by_count false e =
          let some : n ≡ 0 → ⊥ = λ f. let t = eq-eqb n 0 f in absurd cc in
          let x = points some in
          let y = at.leads (λ f. some (count ∙ f)) in
          let same : Some to ≡ Some m.start = sym x ∙ y in
          cc

  -- the entries by what is read
  pub entries_read : (to n : ℕ) → n ≡ word_at bytes (pos + 4) → (n ≡ 0 → to ≡ 0) → ((n ≡ 0 → ⊥) → PointsTo bytes (pos + 12) to)
      → (value : Value) → HeldAt (index_map k v) (both knows others) bytes pos value → AreElements (tuple2 k v) (both knows others) bytes to n value
  entries_read to n is none points value h =
      let r = map_is_read k v knows others bytes pos value h in
      let start = start_is r.map to n r.stands is none points in
      let count : n ≡ count_of r.map = is ∙ table_count r.stands.table in
      subst (λ a. AreElements (tuple2 k v) (both knows others) bytes a n value) (sym start) (subst (λ m. AreElements (tuple2 k v) (both knows others) bytes r.map.start m value) (sym count) r.entries)

  -- they end before the map
  pub entries_before : HasValue (index_map k v) (both knows others) bytes pos → (to n : ℕ) → ((m : IndexMap) → IsMapAt bytes k v pos m → (to ≡ m.start) × (n ≡ count_of m)) → to + n * size_of (tuple2 k v) ≤ pos
  entries_before h to n are =
      let r = map_of h in
      let e = are r.map r.stands in
      subst (λ a. a + n * size_of (tuple2 k v) ≤ pos) (sym e.0) (subst (λ m. r.map.start + m * size_of (tuple2 k v) ≤ pos) (sym e.1) r.before)

  -- the pointer to them
  pub leads_on : HasValue (index_map k v) (both knows others) bytes pos → (word_at bytes (pos + 4) ≡ 0 → ⊥) → (to : ℕ) × PointsTo bytes (pos + 12) to
  leads_on h some = let r = map_of h in (r.map.start, r.stands.leads (λ e. some (table_count r.stands.table ∙ e)))

  -- what the table has at a position is the number of an entry, and both lie in the bytes
  pub record NamesEntry (m : IndexMap) (p : ℕ) : Type 0 where
    pub room : p + 4 ≤ length bytes
    pub less : word_at bytes p < count_of m
    pub fits : m.start + word_at bytes p * size_of (tuple2 k v) + size_of (tuple2 k v) ≤ length bytes

  pub numbers_name : HasValue (index_map k v) (both knows others) bytes pos → (m : IndexMap) → IsMapAt bytes k v pos m → All (NamesEntry m) (item_positions number_shape m.buckets)
  numbers_name h m at i d below =
      let there = (items_there number_shape KnowsAll bytes pos (has_table h) m.buckets at.table i d below).held.own_within in
      let less = at.numbers i d below in
      let p = slice_index_or (item_positions number_shape m.buckets) i d in
      let up : (word_at bytes p + 1) * size_of (tuple2 k v) ≤ count_of m * size_of (tuple2 k v) = mul-le-mul_right (size_of (tuple2 k v)) (omega (arith, less)) in
      let next : (word_at bytes p + 1) * size_of (tuple2 k v) ≡ word_at bytes p * size_of (tuple2 k v) + size_of (tuple2 k v) = omega arith in
      let within = at.within in
      record { room = there; less = less; fits = omega (arith, up, next, within) }

  pub entry_fits : (m : IndexMap) → IsMapAt bytes k v pos m → (i : ℕ) → i < count_of m → m.start + i * size_of (tuple2 k v) + size_of (tuple2 k v) ≤ length bytes
  entry_fits m at i less =
      let up : (i + 1) * size_of (tuple2 k v) ≤ count_of m * size_of (tuple2 k v) = mul-le-mul_right (size_of (tuple2 k v)) (omega (arith, less)) in
      let next : (i + 1) * size_of (tuple2 k v) ≡ i * size_of (tuple2 k v) + size_of (tuple2 k v) = omega arith in
      let within = at.within in
      omega (arith, up, next, within)

  -- each entry is there
  pub entry_there : HasValue (index_map k v) (both knows others) bytes pos → (m : IndexMap) → IsMapAt bytes k v pos m → (i : ℕ) → i < count_of m → HasValue (tuple2 k v) (both knows others) bytes (entry_position k v m i)
  entry_there h m at i less =
      let r = map_of h in
      let same = one_map bytes k v pos r.map m r.stands at in
      let one = r.entries.each i (subst (λ x. i < count_of x) (sym same) less) in
      subst (λ x. HasValue (tuple2 k v) (both knows others) bytes (entry_position k v x i)) same (record { value = one.0; held = one.2 })

  pub entry_key : HasValue (index_map k v) (both knows others) bytes pos → (m : IndexMap) → IsMapAt bytes k v pos m → (i : ℕ) → i < count_of m → HasValue k knows bytes (entry_position k v m i)
  entry_key h m at i less = (entry_parts k v knows others bytes (entry_position k v m i) (entry_there h m at i less)).key

  -- the size that a type says is that of an entry, where there is one
  pub sized_entry : (m : IndexMap) → IsMapAt bytes k v pos m → (i size : ℕ) → i < count_of m → size ≡ min (size_of (tuple2 k v)) (2 ^ 64 - 1) → length bytes < 2 ^ 63 → size ≡ size_of (tuple2 k v)
  sized_entry m at i size less is short = let fits = entry_fits m at i less in omega (arith, is, fits, short)

  pub all_entries : HasValue (index_map k v) (both knows others) bytes pos → (m : IndexMap) → IsMapAt bytes k v pos m → All (HasValue (tuple2 k v) (both knows others) bytes) (entry_positions k v m)
  all_entries h m at = all_side (HasValue (tuple2 k v) (both knows others) bytes) (size_of (tuple2 k v)) m.start (count_of m) (λ i less. entry_there h m at i less)

  -- a walk over entries, by what is read
  pub walk_fits : HasValue (index_map k v) (both knows others) bytes pos → (m : IndexMap) → IsMapAt bytes k v pos m → (to n size : ℕ) → to ≡ m.start → n ≡ count_of m → size ≡ min (size_of (tuple2 k v)) (2 ^ 64 - 1) → length bytes < 2 ^ 63
      → (to + n * size ≤ m.start + count_of m * size_of (tuple2 k v)) × (m.start + count_of m * size_of (tuple2 k v) < 2 ^ 63) × (adjacent size to n ≡ entry_positions k v m)
  walk_fits h m at to n size start count is short =
      let up : n * size ≤ n * size_of (tuple2 k v) = times n size (size_of (tuple2 k v)) (omega (arith, is)) in
      let same : n * size_of (tuple2 k v) ≡ count_of m * size_of (tuple2 k v) = ap (λ x. x * size_of (tuple2 k v)) count in
      let within = at.within in (
        omega (arith, up, same, start),
        omega (arith, within, short),
        side_same size (size_of (tuple2 k v)) to n (λ some. sized_entry m at 0 size (omega (arith, some, count)) is short)
            ∙ ap (λ a. adjacent (size_of (tuple2 k v)) a n) start ∙ ap (adjacent (size_of (tuple2 k v)) m.start) count,
      )
    where
      times : (n a b : ℕ) → a ≤ b → n * a ≤ n * b
      times n a b less = grind (arith, less)
