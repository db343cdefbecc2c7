-- Which shapes may hold shared pointers, counted or weak, by their parts. A type that holds itself is not looked into: it
-- counts as one that does.
use Rattle.std.specs.Prelude.{Bool, true, false, ◌||◌}
use Rattle.archive_shape_layout.specs.Shape.{Shape, Shapes, Pointee}
use Rattle.archive_shape_layout.specs.Shape.Shape.{number, nonzero, truth, character, text, tuple, array, option, result, choice, box, vector, shared, weak, tree, table, index_map, named}
use Rattle.archive_shape_layout.specs.Shape.Shapes.{no_shapes, more_shapes}
use Rattle.archive_shape_layout.specs.Shape.Pointee.{sized, slice, str}

abbrev mutual
  pub holds_shared : Shape → Bool
  holds_shared (number w signed) = false
  holds_shared (nonzero w signed) = false
  holds_shared truth = false
  holds_shared character = false
  holds_shared text = false
  holds_shared (tuple ss) = any_holds_shared ss
  holds_shared (array n s) = holds_shared s
  holds_shared (option s) = holds_shared s
  holds_shared (result s t) = holds_shared s || holds_shared t
  holds_shared (choice ss) = any_holds_shared ss
  holds_shared (box p) = leads_to_shared p
  holds_shared (vector s) = holds_shared s
  holds_shared (shared cyclic p) = true
  holds_shared (weak cyclic p) = true
  holds_shared (tree most k v) = holds_shared k || holds_shared v
  holds_shared (table s) = holds_shared s
  holds_shared (index_map k v) = holds_shared k || holds_shared v
  holds_shared (named name size align) = true

  pub any_holds_shared : Shapes → Bool
  any_holds_shared no_shapes = false
  any_holds_shared (more_shapes s ss) = holds_shared s || any_holds_shared ss

  pub leads_to_shared : Pointee → Bool
  leads_to_shared (sized s) = holds_shared s
  leads_to_shared (slice s) = holds_shared s
  leads_to_shared str = false
