-- The entries that a walk over a map has left, regardless of what is written over the map's values.
use Rattle.std.specs.Prelude.{◌≡◌, ℕ, ◌+◌, List}
use Rattle.archive_shape_layout.specs.Bytes.{word_at}
use Rattle.archive_shape_layout.specs.Shape.{Shape}
use Rattle.archive_shape_layout.specs.Shape.Shape.{tree}
use Rattle.archive_shape_layout.specs.Content.{Names}
use Rattle.archive_btree_layout.specs.Reading.{Place}
use Rattle.archive_btree_layout.specs.Tree.{Tree, items}
use Rattle.archive_btree_layout.specs.Changing.{DiffersInValues}
use Rattle.archive_btree_maps.specs.Layout.{IsLayout}
use Rattle.archive_btree_maps.specs.declared.nodes.layout.NodeLayout.{NodeLayout}
use Rattle.archive_btree_maps.specs.Ranges.{IsRun}
use Rattle.archive_btree_maps.specs.Stepping.{HasLeft}
use Rattle.archive_btree_maps.specs.declared.nodes.searching.stepping.EntryWalk.{EntryWalk}
use Rattle.archive_forms_values.specs.Parts.{HasValue, PointsTo, both}
use Rattle.archive_btree_maps.specs.Maps.{IsMapAt}

-- in bytes that have a map at a position, a walk over its tree has these entries left
pub record WalksIn (bytes : List ℕ) (most : ℕ) (k v : Shape) (pos : ℕ) (w : EntryWalk) (es : List Place) : Type 0 where
  pub layout : NodeLayout
  pub root : ℕ
  pub leads : (word_at bytes (pos + 4) ≡ 0 → ⊥) → PointsTo bytes pos root × IsLayout most k v layout
  pub left : HasLeft bytes layout root w es

-- a map, by the bytes that it had before anything was written over its values
pub record BegunMap (most : ℕ) (k v : Shape) (knows others : Names → Type 0) : Type 0 where
  pub bytes : List ℕ
  pub pos : ℕ
  pub search_tree : Tree Place
  pub has : HasValue (tree most k v) (both knows others) bytes pos
  pub map : IsMapAt bytes most k v pos search_tree

module _ {most : ℕ} {k v : Shape} {knows others : Names → Type 0} (m : BegunMap most k v knows others) where
  -- these bytes differ from those at most in the values of the map's items
  abbrev pub IsWritten : List ℕ → Type 0
  IsWritten bytes = DiffersInValues v (items m.search_tree) m.bytes bytes

  -- regardless of what is written over the values, a walk has these entries left, which lie side by side among the
  -- map's items
  pub record GoesOn (w : EntryWalk) (es : List Place) : Type 0 where
    pub among : IsRun es (items m.search_tree)
    pub left : (bytes : List ℕ) → IsWritten bytes → WalksIn bytes most k v m.pos w es
