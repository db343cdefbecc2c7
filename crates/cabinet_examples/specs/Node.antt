-- The layout of a document's node with all ten kinds, shared texts, maps and wholes included: 24 bytes, aligned to 8; a tag
-- byte, then the payload of the tag at its alignment.
use Rattle.std.specs.Prelude.{true, false, [], ◌∷◌}
use Rattle.std.specs.Int.{w64}
use Rattle.archive_shape_layout.specs.Shape.{Shape, Shapes}
use Rattle.archive_shape_layout.specs.Shape.Alignment.{eight}
use Rattle.archive_shape_layout.specs.Shape.Shape.{number, truth, text, option, choice, box, vector, shared, tree, table, index_map, named, tuple}
use Rattle.archive_shape_layout.specs.Shape.Shapes.{no_shapes, more_shapes}
use Rattle.archive_shape_layout.specs.Shape.Pointee.{sized, str}
use Rattle.archive_shape_layout.specs.Content.{Names}

-- a node contains nodes, so its shape is recursive and has a name, 0
abbrev pub node_shape : Shape
node_shape = named 0 24 eight

-- the item of a map: a key and a node
abbrev pub pair : Shape
pair = tuple (more_shapes text (more_shapes node_shape no_shapes))

-- in the order of the tags, from 0: a truth value, a number, a text, a shared text, an option, a list, an ordered map
-- with five entries in each of its nodes, a hashed map, a map that keeps its order, and a whole
abbrev pub payloads : Shapes
payloads =
    more_shapes truth
    (more_shapes (number w64 true)
    (more_shapes text
    (more_shapes (shared false str)
    (more_shapes (option (box (sized node_shape)))
    (more_shapes (vector node_shape)
    (more_shapes (tree 5 text node_shape)
    (more_shapes (table pair)
    (more_shapes (index_map text node_shape)
    (more_shapes (shared false (sized node_shape)) no_shapes)))))))))

abbrev pub node_names : Names
node_names = (0, choice payloads) ∷ []
