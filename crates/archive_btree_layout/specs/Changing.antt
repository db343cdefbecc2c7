-- What remains of a search tree where its values are written over.
use Rattle.std.specs.Prelude.{◌≡◌, ℕ, suc, ◌+◌, ◌*◌, ◌<◌, ◌≤◌, List, length, take, slice_index, Some, All}
use Rattle.archive_shape_layout.specs.Bytes.{word_at, target_from, IsOutside}
use Rattle.archive_shape_layout.specs.Shape.{Shape, size_of}
use Rattle.archive_shape_layout.specs.Value.{Value}
use Rattle.archive_shape_layout.specs.Value.Value.{group}
use Rattle.archive_shape_layout.specs.Value.Values.{no_values, more_values}
use Rattle.archive_shape_layout.specs.Content.{Names, links_offset}
use Rattle.archive_btree_layout.specs.Reading.{Place, HasNode}
use Rattle.archive_btree_layout.specs.Tree.{Tree}
use Rattle.archive_btree_layout.specs.Items.{IsHeld, IsPair}
use Rattle.archive_shape_layout.specs.Laws.{AgreesOn}

-- the index lies in the value of no entry
abbrev pub IsInNoValue : Shape → List Place → ℕ → Type 0
IsInNoValue v es i = All (λ e. IsOutside e.value (e.value + size_of v) i) es

-- the own bytes of two entries' values have no index in common
abbrev pub AreApart : Shape → Place → Place → Type 0
AreApart v a b = (i : ℕ) → a.value ≤ i → i < a.value + size_of v → IsOutside b.value (b.value + size_of v) i

-- other bytes have the same length, and differ from bytes at most in the entries' values
pub record DiffersInValues (v : Shape) (es : List Place) (bytes others : List ℕ) : Type 0 where
  pub same_length : length others ≡ length bytes
  pub elsewhere : (i : ℕ) → IsInNoValue v es i → slice_index others i ≡ slice_index bytes i

-- in other bytes a map at a position has the same pointer and length, and its root the same tree
pub record HasTree (bytes others : List ℕ) (most : ℕ) (k v : Shape) (pos root : ℕ) (t : Tree Place) : Type 0 where
  pub pointer : word_at others pos ≡ word_at bytes pos
  pub len : word_at others (pos + 4) ≡ word_at bytes (pos + 4)
  pub node : HasNode others most k v 1 root t

-- a node of the tree at a level and a position: the one that lies there, or one of those below a child
pub data IsNodeOf (bytes : List ℕ) (most : ℕ) (k v : Shape) (node_level node_pos : ℕ) (t : Tree Place) : ℕ → ℕ → Type 0 where
  is_top : {level pos : ℕ} → level ≡ node_level → pos ≡ node_pos → HasNode bytes most k v node_level node_pos t → IsNodeOf bytes most k v node_level node_pos t level pos
  is_below :
      {level pos i child : ℕ}
      → slice_index bytes pos ≡ 1
      → i ≤ most
      → (word_at bytes (pos + links_offset most k v + i * 4) ≡ 1 → ⊥)
      → target_from (pos + links_offset most k v + i * 4) (word_at bytes (pos + links_offset most k v + i * 4)) ≡ Some child
      → IsNodeOf bytes most k v node_level node_pos t (suc level) child
      → IsNodeOf bytes most k v node_level node_pos t level pos

-- a pair's key lies at a place, and it is read from the bytes before the pair's value
pub record IsKey (names : Names) (bytes : List ℕ) (k : Shape) (p : Place) (pair : Value) : Type 0 where
  pub key : Value
  pub value : Value
  pub held : IsHeld names bytes k p.key key
  pub held_before : IsHeld names (take p.value bytes) k p.key key
  pub is : pair ≡ group (more_values key (more_values value no_values))

-- in other bytes a pair has its key, and where its own value has the same bytes, it is the pair
pub record IsKept (names : Names) (bytes others : List ℕ) (k v : Shape) (p : Place) (pair : Value) : Type 0 where
  pub key : IsKey names others k p pair
  pub whole : AgreesOn bytes others p.value (size_of v) → IsPair names others k v p pair
