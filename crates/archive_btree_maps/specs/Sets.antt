-- What the bytes of a set lead to: those of a map of its keys to `()`.
use Rattle.std.specs.Prelude.{ℕ, List, ⊤}
use Rattle.archive_shape_layout.specs.Shape.{Shape}
use Rattle.archive_shape_layout.specs.Shape.Shape.{tree, tuple}
use Rattle.archive_shape_layout.specs.Shape.Shapes.{no_shapes}
use Rattle.archive_shape_layout.specs.Content.{Names}
use Rattle.archive_btree_layout.specs.Reading.{Place}
use Rattle.archive_btree_layout.specs.Tree.{Tree}
use Rattle.archive_forms_values.specs.Parts.{HasValue, both}
use Rattle.archive_btree_maps.specs.Maps.{IsMapAt}
use Rattle.archive_shape.specs.declared.references.refs.Ref.{Ref}

-- the layout of the values of the map that a set is: those of `()`
abbrev pub unit_shape : Shape
unit_shape = tuple no_shapes

-- the layout of a set with at most `most` keys in a node
abbrev pub set_shape : ℕ → Shape → Shape
set_shape most k = tree most k unit_shape

-- what knows the names of a set is what knows those of its keys
abbrev pub set_knows : (Names → Type 0) → Names → Type 0
set_knows knows = both knows (λ _. ⊤)

-- the bytes have some set at a position
abbrev pub HasSet : ℕ → Shape → (Names → Type 0) → List ℕ → ℕ → Type 0
HasSet most k knows bytes pos = HasValue (set_shape most k) (set_knows knows) bytes pos

-- the set at a position has this tree, whose items lie where its keys do, in order
abbrev pub IsSetAt : List ℕ → ℕ → Shape → ℕ → Tree Place → Type 0
IsSetAt bytes most k pos t = IsMapAt bytes most k unit_shape pos t

-- the set that a reference leads to has this tree
abbrev pub IsSet : {S : Type 0} → ℕ → Shape → Ref S → Tree Place → Type 0
IsSet most k this t = IsSetAt this.bytes.now most k this.pos t
