-- The value of a set: its keys, each beside a unit.
use Rattle.std.specs.Prelude.{◌≡◌, ℕ, List, [], ◌∷◌, map}
use Rattle.std.specs.List.{AllZip}
use Rattle.archive_shape_layout.specs.Shape.{Shape}
use Rattle.archive_shape_layout.specs.Value.{Value, Values}
use Rattle.archive_shape_layout.specs.Value.Value.{group}
use Rattle.archive_shape_layout.specs.Value.Values.{no_values, more_values}
use Rattle.archive_shape_layout.specs.Content.{Names}
use Rattle.archive_btree_layout.specs.Reading.{Place}
use Rattle.archive_btree_layout.specs.Tree.{Tree, items}
use Rattle.archive_shape.specs.Key.{HeldAt}
use Rattle.archive_forms_laws.specs.Views.{elements_of, head_of}
use Rattle.archive_btree_maps.specs.Sets.{set_shape, set_knows, IsSetAt}

-- the key of a pair, which is a tuple of a key and a unit
abbrev pub key_in : Value → Value
key_in pair = head_of (elements_of pair)

-- the keys of a set's value, in order
abbrev pub keys_of : Value → List Value
keys_of v = map key_in (elements_of v)

-- each key beside a unit
abbrev pub pairs_of : List Value → Values
pairs_of [] = no_values
pairs_of (k ∷ ks) = more_values (group (more_values k (more_values (group no_values) no_values))) (pairs_of ks)

-- the value of the set that has these keys
abbrev pub set_of : List Value → Value
set_of keys = group (pairs_of keys)

module _ (k : Shape) (knows : Names → Type 0) (bytes : List ℕ) where
  -- the set at a position has this tree, at whose items the keys of a value lie one by one, and the value is that of
  -- its keys
  pub record IsSetOf (most pos : ℕ) (value : Value) : Type 0 where
    pub search_tree : Tree Place
    pub set : IsSetAt bytes most k pos search_tree
    pub keys : AllZip (λ e key. HeldAt k knows bytes e.key key) (items search_tree) (keys_of value)
    pub is : value ≡ set_of (keys_of value)

  -- where the layout has a set, its bytes have a tree, at whose items the keys of the set's value lie
  abbrev pub SetIsRead : ℕ → Type 0
  SetIsRead most = (pos : ℕ) (value : Value) → HeldAt (set_shape most k) (set_knows knows) bytes pos value → IsSetOf most pos value
