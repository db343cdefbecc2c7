-- The hashed map of nodes, and the pair of a key in its table.
use Rattle.std.specs.Prelude.{ℕ, List}
use Rattle.archive_shape_layout.specs.Shape.{Shape}
use Rattle.archive_shape_layout.specs.Shape.Shape.{table}
use Rattle.archive_hash_maps.specs.Tables.{Buckets, item_positions, IsTableAt}
use Rattle.cabinet_documents.specs.Node.{pair_shape}
use Rattle.cabinet_archives.specs.Keyed.{HasPair}

abbrev pub table_shape : Shape
table_shape = table pair_shape

-- the node of the first pair with this key, by ascending place, in the table of the map at `pos` is at `to`
pub record HasBucket (bytes : List ℕ) (pos : ℕ) (key : List ℕ) (to : ℕ) : Type 0 where
  pub buckets : Buckets
  pub map : IsTableAt bytes pair_shape pos buckets
  pub pair : HasPair bytes (item_positions pair_shape buckets) key to
