-- Archived index sets: index maps of their keys to `()`.
use Rattle.std.specs.Prelude.{ℕ, List, ⊤}
use Rattle.archive_shape_layout.specs.Shape.{Shape}
use Rattle.archive_shape_layout.specs.Shape.Shape.{index_map, tuple}
use Rattle.archive_shape_layout.specs.Shape.Shapes.{no_shapes}
use Rattle.archive_shape_layout.specs.Content.{Names}
use Rattle.archive_shape.specs.declared.references.refs.Ref.{Ref}
use Rattle.archive_index.specs.Maps.{IndexMap, IsMap, HasMap, entry_positions}

-- the layout of the value beside a key
abbrev pub unit_shape : Shape
unit_shape = tuple no_shapes

-- the layout of a set
abbrev pub set_shape : Shape → Shape
set_shape k = index_map k unit_shape

-- a reference leads to a set
abbrev pub HasSet : {S : Type 0} → Shape → (Names → Type 0) → Ref S → Type 0
HasSet k knows this = HasMap k unit_shape knows (λ _. ⊤) this

-- the set that a reference leads to is this one
abbrev pub IsSet : {S : Type 0} → Shape → Ref S → IndexMap → Type 0
IsSet k this m = IsMap k unit_shape this m

-- the positions of its keys, in order
abbrev pub key_positions : Shape → IndexMap → List ℕ
key_positions k m = entry_positions k unit_shape m
