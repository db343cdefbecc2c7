-- When an entry of one archived map has an equal entry in another.
use Rattle.std.specs.Prelude.{◌≡◌, ℕ, Bool, false, List, Option, MatchOption}
use Rattle.std.specs.List.{fold}
use Rattle.archive_shape_layout.specs.Shape.{Shape}
use Rattle.archive_shape_layout.specs.Shape.Shapes.{no_shapes}
use Rattle.archive_shape_layout.specs.Content.{Names}
use Rattle.archive_shape.specs.declared.references.refs.Ref.{Ref}
use Rattle.archive_forms_laws.specs.Orders.{Equality, Hashed}
use Rattle.archive_forms_comparing.specs.Compared.{OfValue, OfBoth}
use Rattle.archive_forms_values.specs.Fields.{field_position}
use Rattle.archive_hash_maps.specs.Tables.{Buckets}
use Rattle.archive_hash_maps.specs.Maps.{LooksUpKey}

-- an archived key hashes to this, by a hasher that starts as its default: the input is that of the key's value
abbrev pub KeyHashesTo : {H K : Type 0} → (H → Type 0) → (H → List ℕ → H) → (H → ℕ) → Shape → (Names → Type 0) → Hashed → Ref K → ℕ → Type 0
KeyHashesTo {H} is_default write finish k knows hashed key hash = (first : H) × is_default first × OfValue k knows key.bytes.now key.pos (λ value. finish (fold write first (hashed value))) hash

-- the Boolean is whether the key at a position of other bytes is equal to an archived key
abbrev pub EqualSays : {K : Type 0} → Shape → (Names → Type 0) → Equality → List ℕ → Ref K → ℕ → Bool → Type 0
EqualSays k knows equal others key at x = OfBoth k knows others at key.bytes.now key.pos equal x

-- the Boolean is whether another map has an equal entry: false where the look-up of the key finds nothing, and
-- otherwise whether the values are equal
pub record HasEqual {K V : Type 0} (hashes : Ref K → ℕ → Type 0) (k v : Shape) (knows others : Names → Type 0) (equal_keys equal_values : Equality) (bytes : List ℕ) (b : Buckets) (entry : Ref K × Ref V) (x : Bool) : Type 0 where
  pub found : Option ℕ
  pub looks_up : LooksUpKey (hashes entry.0) (EqualSays k knows equal_keys bytes entry.0) (λ at. at) k v b found
  pub says : MatchOption found (x ≡ false) (λ at. OfBoth v others entry.1.bytes.now entry.1.pos bytes (field_position k no_shapes v at) equal_values x)
