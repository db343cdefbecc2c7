-- The keys and values of the entries of maps.
use Rattle.std.proofs.Common.{ℕ, List, [], ◌∷◌, All}
use Rattle.archive_shape_layout.specs.Shape.{Shape}
use Rattle.archive_shape_layout.specs.Shape.Shape.{table}
use Rattle.archive_shape_layout.specs.Shape.Shapes.{no_shapes}
use Rattle.archive_shape_layout.specs.Content.{Names}
use Rattle.archive_forms_values.specs.Tuples.{tuple2}
use Rattle.archive_forms_values.specs.Parts.{HasValue, both}
use Rattle.archive_forms_values.specs.Fields.{field, field_position}
use Rattle.archive_forms_values.proofs.Held.{fields_at}
use Rattle.archive_hash_maps.specs.Tables.{Buckets, IsTableAt, item_positions}
use Rattle.archive_hash_maps.proofs.Lookups.{items_there}

-- where the layout has an entry it has its key and its value
pub record HasParts (k v : Shape) (knows others : Names → Type 0) (bytes : List ℕ) (at : ℕ) : Type 0 where
  pub key : HasValue k knows bytes at
  pub value : HasValue v others bytes (field_position k no_shapes v at)

module _ (k v : Shape) (knows others : Names → Type 0) (bytes : List ℕ) where
  pub entry_parts : (at : ℕ) → HasValue (tuple2 k v) (both knows others) bytes at → HasParts k v knows others bytes at
  entry_parts at h =
      let f = fields_at (field k knows ∷ field v others ∷ []) (both knows others) (λ names known. (known.0, (known.1, tt))) bytes at h.value h.held in
      let second = f.each.rest in
      record { key = record { value = f.each.first; held = f.each.held }; value = record { value = second.first; held = second.held } }

  -- so has each entry of a map
  pub entries_there : (pos : ℕ) → HasValue (table (tuple2 k v)) (both knows others) bytes pos → (b : Buckets) → IsTableAt bytes (tuple2 k v) pos b → All (HasParts k v knows others bytes) (item_positions (tuple2 k v) b)
  entries_there pos h b is i d less = entry_parts _ (items_there (tuple2 k v) (both knows others) bytes pos h b is i d less)
