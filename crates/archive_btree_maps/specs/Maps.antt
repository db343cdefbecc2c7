-- What the bytes of a map lead to: the search tree of its entries.
use Rattle.std.specs.Prelude.{◌≡◌, ℕ, ◌+◌, List, [], ◌∷◌, length, Some, ⊤}
use Rattle.archive_shape_layout.specs.Bytes.{word_at, target_from}
use Rattle.archive_shape_layout.specs.Shape.{Shape}
use Rattle.archive_shape_layout.specs.Shape.Shape.{tree}
use Rattle.archive_shape_layout.specs.Value.{Value, Values}
use Rattle.archive_shape_layout.specs.Value.Value.{group}
use Rattle.archive_shape_layout.specs.Value.Values.{no_values, more_values}
use Rattle.archive_shape_layout.specs.Content.{Names, members}
use Rattle.archive_btree_layout.specs.Reading.{Place, HasNode}
use Rattle.archive_btree_layout.specs.Tree.{Tree, items}
use Rattle.archive_btree_layout.specs.Tree.Tree.{absent}
use Rattle.archive_shape.specs.Key.{HeldAt}
use Rattle.archive_shape.specs.declared.references.refs.Ref.{Ref}
use Rattle.archive_forms_values.specs.Parts.{HasValue, both}

-- the map at a position has this tree: none where its length is 0, else the one that its pointer leads to, with as many
-- items as the length says
pub data IsMapAt (bytes : List ℕ) (most : ℕ) (k v : Shape) (pos : ℕ) (t : Tree Place) : Type 0 where
  has_none : word_at bytes (pos + 4) ≡ 0 → t ≡ absent → IsMapAt bytes most k v pos t
  has_root :
      {root : ℕ}
      → (word_at bytes (pos + 4) ≡ 0 → ⊥)
      → target_from pos (word_at bytes pos) ≡ Some root
      → HasNode bytes most k v 1 root t
      → length (items t) ≡ word_at bytes (pos + 4)
      → IsMapAt bytes most k v pos t

-- the map that a reference leads to has this tree
abbrev pub IsMap : {M : Type 0} → ℕ → Shape → Shape → Ref M → Tree Place → Type 0
IsMap most k v this t = IsMapAt this.bytes.now most k v this.pos t

-- a reference leads to a map
abbrev pub HasMap : {M : Type 0} → ℕ → Shape → Shape → (Names → Type 0) → (Names → Type 0) → Ref M → Type 0
HasMap most k v knows others this = HasValue (tree most k v) (both knows others) this.bytes.now this.pos

module _ (k v : Shape) (knows others : Names → Type 0) (bytes : List ℕ) where
  -- a pair of a key and a value lies at a place
  pub record IsEntryAt (p : Place) (pair : Value) : Type 0 where
    pub key : Value
    pub value : Value
    pub key_held : HeldAt k knows bytes p.key key
    pub value_held : HeldAt v others bytes p.value value
    pub is : pair ≡ group (more_values key (more_values value no_values))

  -- pairs lie at places, one at each
  abbrev pub AreEntriesAt : List Place → Values → Type 0
  AreEntriesAt [] no_values = ⊤
  AreEntriesAt (p ∷ ps) (more_values w ws) = IsEntryAt p w × AreEntriesAt ps ws
  AreEntriesAt [] (more_values w ws) = ⊥
  AreEntriesAt (p ∷ ps) no_values = ⊥

  -- the map at a position has this tree, and its items are the pairs of a value
  pub record IsMapOf (most pos : ℕ) (value : Value) : Type 0 where
    pub search_tree : Tree Place
    pub map : IsMapAt bytes most k v pos search_tree
    pub entries : AreEntriesAt (items search_tree) (members value)

  -- where the layout has a map, its bytes have a tree, whose items are the pairs of the map's value
  abbrev pub MapIsRead : ℕ → Type 0
  MapIsRead most = (pos : ℕ) (value : Value) → HeldAt (tree most k v) (both knows others) bytes pos value → IsMapOf most pos value

-- the bytes of a map have one tree
abbrev pub OneMap : Type 0
OneMap =
    (bytes : List ℕ) (most : ℕ) (k v : Shape) (pos : ℕ) (t u : Tree Place)
    → IsMapAt bytes most k v pos t
    → IsMapAt bytes most k v pos u
    → t ≡ u
