-- What the bytes of a set represent: a map of its keys to `()`.
use Rattle.std.specs.Prelude.{ℕ, List, ⊤}
use Rattle.archive_shape_layout.specs.Shape.{Shape}
use Rattle.archive_shape_layout.specs.Shape.Shape.{table, tuple}
use Rattle.archive_shape_layout.specs.Shape.Shapes.{no_shapes}
use Rattle.archive_shape_layout.specs.Content.{Names}
use Rattle.archive_forms_values.specs.Tuples.{tuple2}
use Rattle.archive_forms_values.specs.Parts.{HasValue, both}
use Rattle.archive_hash_maps.specs.Tables.{Buckets, IsTableAt, IsTable, item_positions}
use Rattle.archive_shape.specs.declared.references.refs.Ref.{Ref}

-- the layout of a key and a unit, which has the key's own bytes
abbrev pub kept_key : Shape → Shape
kept_key k = tuple2 k (tuple no_shapes)

-- the layout of a set
abbrev pub set_shape : Shape → Shape
set_shape k = table (kept_key k)

-- what knows the names of a set is what knows those of its keys
abbrev pub set_knows : (Names → Type 0) → Names → Type 0
set_knows knows = both knows (λ _. ⊤)

-- the bytes have some set at a position
abbrev pub HasSet : Shape → (Names → Type 0) → List ℕ → ℕ → Type 0
HasSet k knows bytes pos = HasValue (set_shape k) (set_knows knows) bytes pos

-- the set at a position has these places
abbrev pub IsSetAt : List ℕ → Shape → ℕ → Buckets → Type 0
IsSetAt bytes k pos b = IsTableAt bytes (kept_key k) pos b

-- the set that a reference leads to has these places
abbrev pub IsSet : {S : Type 0} → Shape → Ref S → Buckets → Type 0
IsSet k this b = IsTable (kept_key k) this b

-- the positions of its keys, by ascending place
abbrev pub key_positions : Shape → Buckets → List ℕ
key_positions k b = item_positions (kept_key k) b
