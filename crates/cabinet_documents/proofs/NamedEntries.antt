-- In the walk of what holds, each full place of a kept map names an entry.
use Rattle.std.proofs.Common.{◌≡◌, ℕ, ◌+◌, ◌<◌, List, [], ◌∷◌, length, Some, refl, sym, ap, subst, ◌∙◌, arith}
use Rattle.std.specs.List.{Contains}
use Rattle.archive_shape_layout.specs.Bytes.{word_at}
use Rattle.archive_shape_layout.specs.Shape.{Shape}
use Rattle.archive_shape_layout.specs.Shape.Shape.{index_map}
use Rattle.archive_shape_layout.specs.Shape.Pointee.{slice}
use Rattle.archive_shape_layout.specs.Value.{Value, Values}
use Rattle.archive_shape_layout.specs.Content.{Names, Part, Label, content_of, made, members, place}
use Rattle.archive_shape_layout.specs.Content.Part.{at, behind}
use Rattle.archive_shape_layout.specs.Content.Label.{second}
use Rattle.archive_forms_values.specs.Tuples.{tuple2}
use Rattle.cabinet_documents.specs.Table.{Slot, Table, empty_table, numbered, kept_at, kept_slot, table_of, entry_of, item_keys}
use Rattle.cabinet_documents.specs.Walk.{Stop}
use Rattle.cabinet_documents.proofs.EntryNumbers.{index_held}
use Rattle.cabinet_documents.proofs.FoundKeys.{from_map}
use Rattle.cabinet_documents.proofs.Stops.{Each}
use Rattle.cabinet_documents.proofs.Tables.{full_places, number_at, entry_there}
use Rattle.cabinet_documents.proofs.TableSound.{NamesEntries, BucketsRead, IndexRead, reads_none, reads_buckets, index_direct, index_read, no_table, led_table, keys_count}
use Rattle.cabinet_documents.proofs.Walkable.{Knowledge, IsDirect, PartsHold, IsKnownStop, plain_stop}

-- of a table
abbrev IsNaming : Table → Type 0
IsNaming t = (x : Slot) → Contains t.slots x → Contains t.entries (entry_of x)

empty_naming : IsNaming empty_table
empty_naming x c = let a = c.1 in absurd (omega (arith, a))

-- where each number is below the number of keys
kept_naming : (bytes : List ℕ) (cap target : ℕ) (ks : List (List ℕ)) → ((p : ℕ) → Contains (full_places bytes target cap) p → number_at bytes target p < length ks) → IsNaming (kept_at bytes cap ks target)
kept_naming bytes cap target ks low x c =
    let f = from_map (kept_slot bytes target ks) (full_places bytes target cap) x c in
    let n = number_at bytes target f.it in
    subst (λ y. Contains (numbered 0 ks) (entry_of y)) f.is (entry_there ks 0 n n (omega arith) (low f.it f.among))

named_where : (bytes : List ℕ) (p : Part) (w : Value) → ((pos : ℕ) (k v : Shape) → p ≡ at pos (index_map k v) → IsNaming (table_of kept_at bytes pos w)) → NamesEntries bytes p w
named_where bytes (at pos s) w on = by_shape s on
  where
    by_shape : (r : Shape) → ((to : ℕ) (k v : Shape) → at pos r ≡ at to (index_map k v) → IsNaming (table_of kept_at bytes to w)) → NamesEntries bytes (at pos r) w
    by_shape (index_map k v) on = on pos k v refl
    by_shape r on = tt
named_where bytes p w on = tt

module _ (names : Names) (bytes : List ℕ) where
  index_naming : (pos : ℕ) (k v : Shape) {l : Label} {ps : List Part} {vs : Values} {w : Value} → IndexRead bytes pos l ps k v → PartsHold names bytes ps vs → made l vs ≡ Some w → IsNaming (table_of kept_at bytes pos w)
  index_naming pos k v {l = l} {ps = ps} {vs = vs} {w = w} r h m = by_case r.read
    where
      by_case : BucketsRead bytes pos second (place (word_at bytes (pos + 4))) (behind r.start (slice (tuple2 k v)) (word_at bytes (pos + 4)) ∷ []) l ps → IsNaming (table_of kept_at bytes pos w)
      by_case (reads_none e f none) = subst IsNaming (sym (no_table bytes kept_at pos w none)) empty_naming
      by_case (reads_buckets {target = target} {len = len} e f some leads) =
          let cap = word_at bytes (pos + 8) in
          let n = word_at bytes (pos + 4) in
          let i = index_held names bytes target len cap n r.start (tuple2 k v) f h (subst (λ x. made x vs ≡ Some w) e m) in
          let many : n ≡ length (item_keys (members w)) = sym (keys_count (members w) ∙ i.counted) in
          subst IsNaming (sym (led_table bytes kept_at pos w some leads)) (kept_naming bytes cap target (item_keys (members w)) (λ p c. subst (λ x. number_at bytes target p < x) many (i.low p c)))

  module _ (Known : Knowledge) where
    names_entries : (s : Stop) → IsKnownStop Known names bytes s → NamesEntries bytes s.part s.value
    names_entries s known =
        named_where bytes s.part s.value
        (λ pos k v e.
        let d = plain_stop Known names bytes s (subst (λ p. IsDirect (content_of names bytes p)) (sym e) (index_direct bytes names pos k v)) known in
        index_naming pos k v (index_read bytes names pos k v (ap (content_of names bytes) (sym e) ∙ d.says)) d.parts d.is_made)

    pub all_named : (walk : List Stop) → Each (IsKnownStop Known names bytes) walk → Each (λ (s : Stop). NamesEntries bytes s.part s.value) walk
    all_named [] h = tt
    all_named (s ∷ rest) h = (names_entries s h.0, all_named rest h.1)
