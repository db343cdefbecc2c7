-- The search trees of maps in canonical archives.
use Rattle.std.specs.Prelude.{◌≡◌, ℕ, ◌+◌, List, length, Some}
use Rattle.archive_shape_layout.specs.Bytes.{word_at, target_from}
use Rattle.archive_shape_layout.specs.Shape.{Shape}
use Rattle.archive_shape_layout.specs.Shape.Shape.{tree}
use Rattle.archive_shape_layout.specs.Shape.Pointee.{sized}
use Rattle.archive_shape_layout.specs.Value.{Value}
use Rattle.archive_shape_layout.specs.Content.{Names, members}
use Rattle.archive_shape_layout.specs.Content.Part.{at, behind}
use Rattle.archive_shape_layout.specs.Holds.{Region, Visit, root_position}
use Rattle.archive_shape_canonical.specs.Settled.{Fit}
use Rattle.archive_shape_canonical.specs.Sharing.{erased}
use Rattle.archive_shape_canonical.specs.Canonical.{CanonicalArchive}
use Rattle.archive_shape_canonical.specs.Everywhere.{Reaches}
use Rattle.archive_btree_layout.specs.Tree.{Tree, items}
use Rattle.archive_btree_layout.specs.Packed.{IsPacked}
use Rattle.archive_btree_layout.specs.Reading.{Place, HasNode}
use Rattle.archive_btree_layout.specs.Items.{ArePairs}
use Rattle.archive_forms_laws.specs.State.{initial}
use Rattle.archive_forms_laws.specs.Spelling.{Spelling}
use Rattle.archive_btree_spelling.specs.Maps.{btree_spelling}

-- at a position lies a map that is not empty, and the bytes have a tree where its pointer leads
pub record HasTree (bytes : List ℕ) (most : ℕ) (k v : Shape) (pos : ℕ) (t : Tree Place) : Type 0 where
  pub root : ℕ
  pub some : word_at bytes (pos + 4) ≡ 0 → ⊥
  pub leads : target_from pos (word_at bytes pos) ≡ Some root
  pub node : HasNode bytes most k v 1 root t

-- bytes are a canonical archive, and its root is a map or reaches one, at a position
pub record HasWrittenMap (fit : Fit) (names : Names) (bytes : List ℕ) (most : ℕ) (k v : Shape) (pos : ℕ) : Type 0 where
  pub start : ℕ
  pub root : ℕ
  pub shape : Shape
  pub value : Value
  pub regions : List Region
  pub visits : List Visit
  pub archive : CanonicalArchive fit names bytes start root shape value regions visits
  pub reached : Reaches names bytes (at pos (tree most k v)) (behind root (sized shape) 1)

-- bytes whose root is what was written of pairs: its length is their number, and its tree is packed and has as items
-- what was written for them
pub record IsPackedMap {A B R Q : Type 0} (most : ℕ) (k v : Shape) (keys : Spelling A R) (vals : Spelling B Q) (names : Names) (pairs : List (A × B)) (bytes : List ℕ) : Type 0 where
  pub tree : Tree Place
  pub has : HasTree bytes most k v (root_position (length bytes) (Shape.tree most k v)) tree
  pub count : length (items tree) ≡ length pairs
  pub len : word_at bytes (root_position (length bytes) (Shape.tree most k v) + 4) ≡ length pairs
  pub items_are : ArePairs names bytes k v (items tree) (members ((btree_spelling most k v keys vals).value pairs initial))
  pub plain : erased ((btree_spelling most k v keys vals).value pairs initial) ≡ (btree_spelling most k v keys vals).plain pairs
  pub packed : IsPacked most tree
