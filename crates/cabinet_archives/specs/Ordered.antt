-- The ordered map of nodes, what a walk over its entries finds, and the entry of a key in it.
use Rattle.std.specs.Prelude.{◌≡◌, ℕ, ◌<◌, nat_le, Bool, true, false, ◌&&◌, List, Some}
use Rattle.std.specs.List.{slice_get}
use Rattle.archive_shape_layout.specs.Shape.{Shape}
use Rattle.archive_shape_layout.specs.Shape.Shape.{text, tree}
use Rattle.archive_shape_layout.specs.Value.{Value, Values}
use Rattle.archive_shape_layout.specs.Value.Value.{group, chosen}
use Rattle.archive_shape_layout.specs.Value.Values.{no_values, more_values}
use Rattle.archive_forms_laws.specs.Text.{IsText}
use Rattle.archive_btree_layout.specs.Reading.{Place}
use Rattle.archive_btree_layout.specs.Tree.{Tree, items}
use Rattle.archive_btree_maps.specs.Maps.{IsMapAt}
use Rattle.cabinet_documents.specs.Node.{node_shape}
use Rattle.cabinet_documents.specs.Order.{ascend}
use Rattle.cabinet_documents.specs.Table.{item_keys}
use Rattle.cabinet_archives.specs.declared.maps.ordered.OrderedEntries.{OrderedEntries}
use Rattle.cabinet_archives.specs.declared.maps.ordered.OrderedEntries.TheVariants.{NotAscending, Leaves, Containers}

abbrev pub map_shape : Shape
map_shape = tree 5 text node_shape

-- the node of an item is no container: it has the tag of a truth value, a number, a text or a shared text
abbrev pub leads_to_leaf : Value → Bool
leads_to_leaf (group (more_values k (more_values (chosen tag payload) vs))) = nat_le tag 3
leads_to_leaf v = false

abbrev pub lead_to_leaves : Values → Bool
lead_to_leaves no_values = true
lead_to_leaves (more_values v vs) = leads_to_leaf v && lead_to_leaves vs

-- a walk over the entries of a map finds this of the map's items
abbrev pub AreEntries : OrderedEntries → Values → Type 0
AreEntries NotAscending items = ascend (item_keys items) ≡ false
AreEntries Leaves items = (ascend (item_keys items) ≡ true) × (lead_to_leaves items ≡ true)
AreEntries Containers items = (ascend (item_keys items) ≡ true) × (lead_to_leaves items ≡ false)

-- the node of the first entry with this key in the search tree of the map at `pos` is at `to`
pub record HasEntry (bytes : List ℕ) (pos : ℕ) (key : List ℕ) (to : ℕ) : Type 0 where
  pub search_tree : Tree Place
  pub index : ℕ
  pub entry : Place
  pub map : IsMapAt bytes 5 text node_shape pos search_tree
  pub among : slice_get (items search_tree) index ≡ Some entry
  pub is_key : IsText bytes entry.key key
  pub first : (i : ℕ) (other : Place) → i < index → slice_get (items search_tree) i ≡ Some other → IsText bytes other.key key → ⊥
  pub node : to ≡ entry.value
