-- What a key leads to in a map, by its value and by the positions of its pairs.
use Rattle.std.specs.Prelude.{◌≡◌, ℕ, ◌<◌, Bool, List, Some, ⊤}
use Rattle.std.specs.List.{slice_get}
use Rattle.archive_shape_layout.specs.Shape.{Shape}
use Rattle.archive_shape_layout.specs.Shape.Shape.{text}
use Rattle.archive_shape_layout.specs.Shape.Shapes.{no_shapes}
use Rattle.archive_shape_layout.specs.Value.{Value}
use Rattle.archive_shape_layout.specs.Content.{Names, members}
use Rattle.archive_shape_layout.specs.Path.{value_in}
use Rattle.archive_forms_values.specs.Fields.{field_position}
use Rattle.archive_forms_laws.specs.Text.{IsText}
use Rattle.archive_forms_values.specs.Parts.{both}
use Rattle.archive_shape.specs.Key.{HeldAt}
use Rattle.cabinet_documents.specs.Denotes.{pair_value}
use Rattle.cabinet_documents.specs.Node.{node_shape, KnowsNode}
use Rattle.cabinet_documents.specs.Order.{is_same}

-- what the layout of texts and nodes knows of the names in it
abbrev pub knows_pairs : Names → Type 0
knows_pairs = both (λ _. ⊤) KnowsNode

-- `is` is true of every value of the map of the shape `s` at `pos`
abbrev pub OfMap : Shape → List ℕ → ℕ → (Value → Type 0) → Type 0
OfMap s bytes pos is = (v : Value) → HeldAt s knows_pairs bytes pos v → is v

-- the node of the first item of the map with this key is at `to`
pub record KeyLeads (bytes : List ℕ) (map : Value) (key : List ℕ) (to : ℕ) : Type 0 where
  pub index : ℕ
  pub node : Value
  pub item : value_in index (members map) ≡ Some (pair_value key node)
  pub first : (i : ℕ) (other : Value) → i < index → value_in i (members map) ≡ Some (pair_value key other) → ⊥
  pub held : HeldAt node_shape KnowsNode bytes to node

-- no item of the map has this key
abbrev pub KeyLeadsNowhere : Value → List ℕ → Type 0
KeyLeadsNowhere map key = (i : ℕ) (node : Value) → value_in i (members map) ≡ Some (pair_value key node) → ⊥

-- of the pairs at these positions, the node of the first with this key is at `to`
pub record HasPair (bytes : List ℕ) (pairs : List ℕ) (key : List ℕ) (to : ℕ) : Type 0 where
  pub index : ℕ
  pub pair : ℕ
  pub among : slice_get pairs index ≡ Some pair
  pub is_key : IsText bytes pair key
  pub first : (i other : ℕ) → i < index → slice_get pairs i ≡ Some other → IsText bytes other key → ⊥
  pub node : to ≡ field_position text no_shapes node_shape pair

-- the Boolean is whether the text at a position is this key
abbrev pub SaysKey : List ℕ → List ℕ → ℕ → Bool → Type 0
SaysKey bytes key at x = (t : List ℕ) × IsText bytes at t × (x ≡ is_same t key)
