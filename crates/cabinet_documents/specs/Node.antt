-- The layout of a document's node: 24 bytes, aligned to 8; a tag byte, then the payload of the tag at its alignment.
use Rattle.std.specs.Prelude.{◌≡◌, Some, true, false, List, [], ◌∷◌, ℕ, Bool}
use Rattle.std.specs.Int.{w64, to_le_bytes, cast_unsigned}
use Rattle.archive_shape_layout.specs.Shape.{Shape, Shapes}
use Rattle.archive_shape_layout.specs.Shape.Alignment.{eight}
use Rattle.archive_shape_layout.specs.Shape.Shape.{number, truth, text, option, choice, box, vector, shared, tree, table, index_map, named, tuple}
use Rattle.archive_shape_layout.specs.Shape.Shapes.{no_shapes, more_shapes}
use Rattle.archive_shape_layout.specs.Shape.Pointee.{sized, str}
use Rattle.archive_shape_layout.specs.Content.{Names, shape_named}
use Rattle.cabinet_text_grammar.specs.Tree as document

-- a node contains nodes, so its shape is recursive and has a name, 0
abbrev pub node_shape : Shape
node_shape = named 0 24 eight

-- a pair of a hashed or a kept map: the key, then the node
abbrev pub pair_shape : Shape
pair_shape = tuple (more_shapes text (more_shapes node_shape no_shapes))

-- a whole: several pointers may point to one node, and none lies inside what it points to
abbrev pub whole_shape : Shape
whole_shape = shared false (sized node_shape)

-- in the order of the tags, from 0: a truth value, a number, a text, a shared text, an option, a list, an ordered map,
-- a hashed map, a map that keeps its order, and a whole; several pointers may point to one shared text
abbrev pub payloads : Shapes
payloads =
    more_shapes truth
    (more_shapes (number w64 true)
    (more_shapes text
    (more_shapes (shared false str)
    (more_shapes (option (box (sized node_shape)))
    (more_shapes (vector node_shape)
    (more_shapes (tree 5 text node_shape)
    (more_shapes (table pair_shape)
    (more_shapes (index_map text node_shape)
    (more_shapes whole_shape no_shapes)))))))))

abbrev pub node_names : Names
node_names = (0, choice payloads) ∷ []

-- the lists of named types in which the name 0 denotes a node
abbrev pub KnowsNode : Names → Type 0
KnowsNode names = shape_named names 0 ≡ Some (choice payloads)

abbrev pub truth_byte : Bool → ℕ
truth_byte true = 1
truth_byte false = 0

-- the bytes that encode a leaf, which an edit of it writes
abbrev pub own_bytes : document.Leaf → List ℕ
own_bytes (document.truth b) = truth_byte b ∷ []
own_bytes (document.number n) = to_le_bytes w64 (cast_unsigned w64 n)
own_bytes (document.text t) = t
