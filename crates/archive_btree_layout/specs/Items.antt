-- The keys and values that a tree's items lead to.
use Rattle.std.specs.Prelude.{◌≡◌, ℕ, ◌+◌, ◌≤◌, List, [], ◌∷◌, length, Some, ⊤}
use Rattle.archive_shape_layout.specs.Bytes.{word_at, target_from}
use Rattle.archive_shape_layout.specs.Shape.{Shape, size_of}
use Rattle.archive_shape_layout.specs.Value.{Value, Values}
use Rattle.archive_shape_layout.specs.Value.Value.{group}
use Rattle.archive_shape_layout.specs.Value.Values.{no_values, more_values}
use Rattle.archive_shape_layout.specs.Content.{Names, members}
use Rattle.archive_shape_layout.specs.Content.Part.{at}
use Rattle.archive_shape_layout.specs.Holds.{Region, Visit, OpenShared, Holds}
use Rattle.archive_shape_layout.specs.Visited.{ClaimedAfter}
use Rattle.archive_btree_layout.specs.Reading.{Place, HasNode}
use Rattle.archive_btree_layout.specs.Tree.{Tree, items}

-- in a buffer the layout holds a value at a position: its own bytes lie in the buffer, and the regions that it claims
-- ascend before them, after visits of values that lie where they were visited
pub record IsHeld (names : Names) (bytes : List ℕ) (s : Shape) (pos : ℕ) (value : Value) : Type 0 where
  pub depth : ℕ
  pub inside : List OpenShared
  pub regions : List Region
  pub before : List Visit
  pub after : List Visit
  pub own_within : pos + size_of s ≤ length bytes
  pub low : ℕ
  pub claimed : ClaimedAfter names bytes before low pos regions
  pub holds : Holds names bytes depth inside (at pos s) value regions before after

-- a pair of a key and a value lies at a place
pub record IsPair (names : Names) (bytes : List ℕ) (k v : Shape) (p : Place) (pair : Value) : Type 0 where
  pub key : Value
  pub value : Value
  pub key_held : IsHeld names bytes k p.key key
  pub value_held : IsHeld names bytes v p.value value
  pub is : pair ≡ group (more_values key (more_values value no_values))

-- values lie at places, one at each
abbrev pub AreAt : (Place → Value → Type 0) → List Place → Values → Type 0
AreAt IsAt [] no_values = ⊤
AreAt IsAt (p ∷ ps) (more_values w ws) = IsAt p w × AreAt IsAt ps ws
AreAt IsAt [] (more_values w ws) = ⊥
AreAt IsAt (p ∷ ps) no_values = ⊥

-- pairs lie at places, one at each
abbrev pub ArePairs : Names → List ℕ → Shape → Shape → List Place → Values → Type 0
ArePairs names bytes k v ps ws = AreAt (IsPair names bytes k v) ps ws

-- what a map's own bytes lead to: nothing where its length is 0, else a tree with as many items as the length says,
-- which are the pairs of its value
pub data IsTreeRead (names : Names) (bytes : List ℕ) (most : ℕ) (k v : Shape) (pos : ℕ) (value : Value) : Type 0 where
  reads_none : word_at bytes (pos + 4) ≡ 0 → value ≡ group no_values → IsTreeRead names bytes most k v pos value
  reads_tree :
      {root : ℕ} {t : Tree Place}
      → (word_at bytes (pos + 4) ≡ 0 → ⊥)
      → target_from pos (word_at bytes pos) ≡ Some root
      → HasNode bytes most k v 1 root t
      → length (items t) ≡ word_at bytes (pos + 4)
      → ArePairs names bytes k v (items t) (members value)
      → IsTreeRead names bytes most k v pos value
