-- What is known of a node before it is claimed.
use Rattle.std.specs.Prelude.{◌≡◌, ℕ, ◌%◌, max, List, slice_index}
use Rattle.archive_shape_layout.specs.Shape.{Shape, align_of}
use Rattle.archive_shape_layout.specs.Content.{node_size}
use Rattle.archive_shape.specs.Range.{Range, InRange}

-- the part that leaves and inner nodes begin with lies in the range and is aligned, and the node has a kind
pub record BeginsNode (range : Range) (bytes : List ℕ) (most : ℕ) (k v : Shape) (pos kind : ℕ) : Type 0 where
  pub within : InRange range pos (node_size most k v)
  pub aligned : pos % max (align_of k) (align_of v) ≡ 0
  pub tag : slice_index bytes pos ≡ kind
