-- Entries that are read back as their pairs, or by their keys.
use Rattle.std.proofs.Common.{◌≡◌, ℕ, ◌+◌, ◌≤◌, List, [], ◌∷◌, Ok, Err, Result, refl, sym, subst}
use Rattle.std.specs.Prelude.{⊤}
use Rattle.archive_shape_layout.specs.Shape.{Shape, size_of}
use Rattle.archive_shape_layout.specs.Shape.Shapes.{no_shapes, more_shapes}
use Rattle.archive_shape_layout.specs.Value.{Value}
use Rattle.archive_shape_layout.specs.Content.{Names}
use Rattle.archive_shape_layout.specs.declared.error.Error.{Error}
use Rattle.archive_forms_values.specs.Tuples.{tuple2}
use Rattle.archive_forms_values.specs.Parts.{HasValue, both}
use Rattle.archive_forms_values.specs.Fields.{Field, field, field_position}
use Rattle.archive_forms_values.proofs.Held.{fields_at}
use Rattle.archive_forms.specs.Deserializing.{IsReadAt, DeserializesBy}
use Rattle.archive_forms.specs.Reading.{reads_tuple2, reads_key}
use Rattle.archive_forms.proofs.Fields.{first_ends, field_ends, field_read, none_read, tuple_read, key_read}
use Rattle.archive_hash_maps.proofs.Entries.{entry_parts}
use Rattle.archive_index.specs.Sets.{unit_shape}

-- there is a value at a position, which ends at or before another
pub record EndsBy (s : Shape) (knows : Names → Type 0) (bytes : List ℕ) (pos limit : ℕ) : Type 0 where
  pub has : HasValue s knows bytes pos
  pub ends : pos + size_of s ≤ limit

module _ (k v : Shape) (knows others : Names → Type 0) (bytes : List ℕ) (at : ℕ) where
  -- the key of an entry and its value
  pub key_there : HasValue (tuple2 k v) (both knows others) bytes at → EndsBy k knows bytes at (at + size_of (tuple2 k v))
  key_there h = record { has = (entry_parts k v knows others bytes at h).key; ends = first_ends k (more_shapes v no_shapes) at at refl }

  pub value_there : (pos : ℕ) → pos ≡ field_position k no_shapes v at → HasValue (tuple2 k v) (both knows others) bytes at → EndsBy v others bytes pos (at + size_of (tuple2 k v))
  value_there pos is h = record { has = subst (HasValue v others bytes) (sym is) (entry_parts k v knows others bytes at h).value; ends = field_ends k no_shapes v no_shapes at pos is }

  -- an entry is read as the key and the value that are read of it
  pub pair_read : {A B : Type 0} (keys : Value → A → Type 0) (vals : Value → B → Type 0) (pos : ℕ) (x : A × B) → pos ≡ field_position k no_shapes v at
      → IsReadAt keys k knows bytes at x.0 → IsReadAt vals v others bytes pos x.1 → IsReadAt (reads_tuple2 keys vals) (tuple2 k v) (both knows others) bytes at x
  pair_read keys vals pos x is first second =
      let fs : List Field = field k knows ∷ field v others ∷ [] in
      tuple_read fs (both knows others) bytes at _ (fields_at fs (both knows others) (λ names known. (known.0, (known.1, tt))) bytes at)
      (field_read keys (field k knows) bytes at at x.0 _ _ refl first (field_read vals (field v others) bytes (field_position k no_shapes v at) pos x.1 _ _ is second none_read))

-- an entry of a set is read by its key
pub key_deserialized : {A Q : Type 0} (reads : Value → A → Type 0) (k : Shape) (knows : Names → Type 0) (bytes : List ℕ) (pos : ℕ) (kept : Q → A) (result : Result Q Error)
    → DeserializesBy reads k knows bytes pos kept result → DeserializesBy (reads_key reads) (tuple2 k unit_shape) (both knows (λ _. ⊤)) bytes pos kept result
key_deserialized reads k knows bytes pos kept (Ok q) h = key_read reads k knows bytes pos (kept q) h
key_deserialized reads k knows bytes pos kept (Err e) h = h
