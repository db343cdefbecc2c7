-- The kept map of nodes, and the entry of a key in it.
use Rattle.std.specs.Prelude.{ℕ, List}
use Rattle.std.specs.List.{flat_map}
use Rattle.archive_shape_layout.specs.Shape.{Shape}
use Rattle.archive_shape_layout.specs.Shape.Shape.{text, index_map}
use Rattle.cabinet_documents.specs.Audit.{Unsound, search_faults, tag_faults}
use Rattle.cabinet_documents.specs.Node.{node_shape}
use Rattle.cabinet_documents.specs.Table.{Table}
use Rattle.archive_index.specs.Maps.{IndexMap, IsMapAt, entry_positions}
use Rattle.cabinet_archives.specs.Keyed.{HasPair}

abbrev pub index_shape : Shape
index_shape = index_map text node_shape

-- the node of the first entry with this key in the index map at `pos` is at `to`: the entries begin where the pointer at
-- `pos + 12` leads, side by side in their order
pub record HasNumbered (bytes : List ℕ) (pos : ℕ) (key : List ℕ) (to : ℕ) : Type 0 where
  pub entries : IndexMap
  pub map : IsMapAt bytes text node_shape pos entries
  pub pair : HasPair bytes (entry_positions text node_shape entries) key to

-- `is` is true of the index map at `pos`
abbrev pub OfKept : List ℕ → ℕ → (IndexMap → Type 0) → Type 0
OfKept bytes pos is = (m : IndexMap) → IsMapAt bytes text node_shape pos m → is m

-- the faults of a kept map's table: those of its controls, and after them those of its look-ups
abbrev pub kept_tag_faults : Table → List Unsound
kept_tag_faults t = flat_map (tag_faults t) t.slots

abbrev pub kept_search_faults : Table → List Unsound
kept_search_faults t = flat_map (search_faults t) t.entries
