-- How maps are compared: pair by pair, with the same number of pairs.
use Rattle.std.specs.Prelude.{◌≡◌, List}
use Rattle.std.specs.Cmp.{IsEquivalence}
use Rattle.std.specs.List.{AllZip}
use Rattle.archive_shape_layout.specs.Shape.{Shape}
use Rattle.archive_shape_layout.specs.Value.{Value}
use Rattle.archive_shape_layout.specs.Value.Value.{group}
use Rattle.archive_shape_layout.specs.Value.Values.{no_values, more_values}
use Rattle.archive_shape_layout.specs.Content.{Names}
use Rattle.archive_shape.specs.declared.references.refs.Ref.{Ref}
use Rattle.archive_shape.specs.Key.{HeldAt}
use Rattle.archive_forms_laws.specs.Orders.{Equality, vector_equality, no_fields_equality, more_fields_equality, tuple_equality}

-- a pair of a key and a value is a tuple of two
abbrev pub pair_equality : Equality → Equality → Equality
pair_equality E F = tuple_equality (more_fields_equality E (more_fields_equality F no_fields_equality))

abbrev pub map_equality : Equality → Equality → Equality
map_equality E F = vector_equality (pair_equality E F)

-- equality of maps is an equivalence where those of the keys and the values are
abbrev pub MapsAreEquivalences : Type 0
MapsAreEquivalences = (E F : Equality) → IsEquivalence E → IsEquivalence F → IsEquivalence (map_equality E F)

module _ {K V : Type 0} (k v : Shape) (knows others : Names → Type 0) where
  -- a value is a pair, and its key and its value lie where two references lead
  pub record IsPairAt (entry : Ref K × Ref V) (pair : Value) : Type 0 where
    pub key : Value
    pub value : Value
    pub is : pair ≡ group (more_values key (more_values value no_values))
    pub key_held : HeldAt k knows entry.0.bytes.now entry.0.pos key
    pub value_held : HeldAt v others entry.1.bytes.now entry.1.pos value

  -- values are pairs that lie so, one by one
  abbrev pub ArePairsAt : List (Ref K × Ref V) → List Value → Type 0
  ArePairsAt = AllZip IsPairAt

  -- some pairs lie so
  pub record HasPairs (entries : List (Ref K × Ref V)) : Type 0 where
    pub pairs : List Value
    pub stand : ArePairsAt entries pairs
