-- Where what was written of entries can be read, their map has them at the written places, however its table is filled.
use Rattle.std.proofs.Common.{◌≡◌, ◌∙◌, ℕ, suc, ◌+◌, ◌^◌, ◌<◌, ◌≤◌, List, ◌∷◌, Option, length, refl, ap, sym, subst, arith, length-append}
use Rattle.std.specs.Int.{w32, to_le_bytes}
use Rattle.std.specs.List.{All, range_with_len}
use Rattle.std.proofs.lemmas.List.FromFn.{length-range_with_len}
use Rattle.archive_shape_layout.specs.Content.{Names}
use Rattle.archive_shape_layout.specs.Shape.{Shape}
use Rattle.archive_shape_layout.specs.Shape.Shape.{index_map, table}
use Rattle.archive_shape_layout.specs.Value.Value.{natural}
use Rattle.archive_shape_canonical.specs.Settled.{Fit, free}
use Rattle.archive_shape.specs.Key.{HeldAt}
use Rattle.archive_shape.proofs.Pieces.{stands_left}
use Rattle.archive_forms_laws.specs.Regions.{region_piece, values}
use Rattle.archive_forms_laws.specs.Sample.{number_shape, number_spelling}
use Rattle.archive_forms_laws.specs.Spelling.{Spelling}
use Rattle.archive_forms_laws.specs.SpellingLaws.{KnowsAll}
use Rattle.archive_forms_laws.specs.Spells.{Spells, SpellsAt}
use Rattle.archive_forms_laws.specs.State.{Keys}
use Rattle.archive_forms_laws.specs.WrittenAt.{IsReadableAt, IsWrittenAt}
use Rattle.archive_forms_laws.proofs.Leaves.{leaf_spells}
use Rattle.archive_forms_laws.proofs.Views.{each_spells}
use Rattle.archive_forms_values.specs.Parts.{both}
use Rattle.archive_forms_values.specs.Tuples.{tuple2}
use Rattle.archive_hash_maps.specs.Tables.{AreItemsAt, Buckets, item_positions}
use Rattle.archive_hash_maps.proofs.Read.{one_table, table_is_read}
use Rattle.archive_hash_writing.specs.Fitted.{by_place}
use Rattle.archive_hash_writing.specs.IndexMaps.{map_spelling, numbers, numbers_spelling, state_behind}
use Rattle.archive_hash_writing.proofs.IndexMaps.{map_spells_of}
use Rattle.archive_hash_writing.proofs.SpellingTables.{hashed_spells_of}
use Rattle.archive_hash_writing.proofs.WrittenPlaces.{written_places}
use Rattle.archive_hash.proofs.WrittenAt.{written_held}
use Rattle.archive_index.specs.Maps.{IndexMap, IsMapAt, count_of}
use Rattle.archive_index.proofs.Filled.{IsAsWritten, IsFilledMap, filled_of}

module _ {A R : Type 0} (most places : ℕ) (k v : Shape) (w : Spelling A R) (hashes : List ℕ) where
  abbrev pair : Shape
  pair = tuple2 k v

  abbrev spelled : Spelling (List A) (Option ℕ × Option ℕ)
  spelled = map_spelling most places pair w hashes

  abbrev table_spelled : Spelling (List ℕ) (Option ℕ)
  table_spelled = numbers_spelling most places pair w hashes

  -- where a map is written, so is the table of the numbers of its entries
  unfoldable pub numbers_written : (given : Keys) (bytes : List ℕ) (pos : ℕ) (x : A) (xs : List A) → IsWrittenAt given spelled bytes pos (x ∷ xs) → IsWrittenAt given table_spelled bytes pos (numbers (x ∷ xs))
  numbers_written given bytes pos x xs h = record {
    state = h.state;
    consistent = h.consistent;
    keyed = h.keyed;
    piece_fits = h.piece_fits.0;
    own_fits = h.own_fits.0;
    piece = stands_left bytes h.state.pos (table_spelled.piece (numbers (x ∷ xs)) h.state) _ h.piece;
    own = stands_left bytes pos (table_spelled.own (numbers (x ∷ xs)) (table_spelled.resolver (numbers (x ∷ xs)) h.state) pos) _ h.own;
  }

  module _ (x : A) (xs : List A) (even : length hashes ≡ suc (length xs)) (tags : All (λ h. h < 2 ^ 64) hashes) where
    pub numbers_law : (knows : Names → Type 0) → SpellsAt free (table number_shape) knows table_spelled (numbers (x ∷ xs))
    numbers_law knows =
        let long = length-range_with_len 0 (suc (length xs)) in
        hashed_spells_of free number_shape knows number_spelling most places hashes (numbers (x ∷ xs)) (even ∙ sym long) tags
        (each_spells free number_shape knows number_spelling (leaf_spells free number_shape knows (to_le_bytes w32) natural tt) (numbers (x ∷ xs)))

    module _ (fit : Fit) (knows others : Names → Type 0) (spells : Spells fit (tuple2 k v) (both knows others) w) (names : Names) (given : Keys) (bytes : List ℕ) (pos : ℕ) (known : both knows others names)
        (suits : spelled.suits fit given (x ∷ xs)) (r : IsReadableAt names given (index_map k v) spelled bytes pos (x ∷ xs)) where
      map_held : HeldAt (index_map k v) (both knows others) bytes pos (spelled.value (x ∷ xs) r.written.state)
      map_held =
          written_held fit (index_map k v) (both knows others) spelled (x ∷ xs) names given bytes pos
          (map_spells_of fit k v (both knows others) w most places hashes (x ∷ xs) even tags (each_spells fit (tuple2 k v) (both knows others) w spells (x ∷ xs)))
          known suits r.written r.within r.stand r.behind

      table_held : HeldAt (table number_shape) KnowsAll bytes pos (table_spelled.value (numbers (x ∷ xs)) r.written.state)
      unfolding numbers_written
      table_held =
          let st = r.written.state in
          let all = length-append (table_spelled.piece (numbers (x ∷ xs)) st) (region_piece w pair (x ∷ xs) (state_behind most places pair w hashes (x ∷ xs) st)) in
          let below = r.behind in
          let within = r.within in
          written_held free (table number_shape) KnowsAll table_spelled (numbers (x ∷ xs)) names given bytes pos (numbers_law KnowsAll) tt ((numbers_law KnowsAll).unshared refl given)
          (numbers_written given bytes pos x xs r.written) (omega (arith, within)) r.stand (omega (arith, all, below))

      as_placed : (m : IndexMap) → IsMapAt bytes k v pos m → count_of m ≡ length (x ∷ xs)
          → IsAsWritten k v knows others bytes w most places hashes x xs even tags pos (state_behind most places pair w hashes (x ∷ xs) r.written.state) map_held m.buckets
      unfolding numbers_written
      as_placed m stands count =
          let st = r.written.state in
          let ns = by_place most places hashes (numbers (x ∷ xs)) in
          let t = table_is_read number_shape KnowsAll bytes pos (table_spelled.value (numbers (x ∷ xs)) st) table_held in
          let items : AreItemsAt number_shape KnowsAll bytes (item_positions number_shape m.buckets) (values number_spelling ns st) =
          subst (λ (c : Buckets). AreItemsAt number_shape KnowsAll bytes (item_positions number_shape c) (values number_spelling ns st)) (one_table bytes number_shape pos t.buckets m.buckets t.table stands.table) t.items in
          let long = length-range_with_len 1 (length xs) in
          let placed =
          written_places free number_shape KnowsAll bytes number_spelling most places hashes 0 (range_with_len 1 (length xs)) (even ∙ ap suc (sym long)) tags
          (each_spells free number_shape KnowsAll number_spelling (leaf_spells free number_shape KnowsAll (to_le_bytes w32) natural tt) ns) given pos
          (numbers_written given bytes pos x xs r.written) m.buckets stands.table items in
          record { cap_is = placed.0; controls_are = placed.1; state = st; items = items }

      pub filled_as_written : IsFilledMap k v knows others bytes w most places hashes pos (x ∷ xs)
      filled_as_written = filled_of k v knows others bytes w most places hashes x xs even tags pos (state_behind most places pair w hashes (x ∷ xs) r.written.state) map_held as_placed
