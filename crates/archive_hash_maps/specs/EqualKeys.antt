-- When a key of one archived set has an equal key in another.
use Rattle.std.specs.Prelude.{◌≡◌, ℕ, Bool, List, Option}
use Rattle.std.specs.Option.{is_some}
use Rattle.archive_shape_layout.specs.Shape.{Shape}
use Rattle.archive_shape_layout.specs.Shape.Shape.{tuple}
use Rattle.archive_shape_layout.specs.Shape.Shapes.{no_shapes}
use Rattle.archive_shape_layout.specs.Content.{Names}
use Rattle.archive_shape.specs.declared.references.refs.Ref.{Ref}
use Rattle.archive_forms_laws.specs.Orders.{Equality}
use Rattle.archive_hash_maps.specs.Tables.{Buckets}
use Rattle.archive_hash_maps.specs.Maps.{LooksUpKey}
use Rattle.archive_hash_maps.specs.Equal.{EqualSays}

-- the Boolean is whether another set has an equal key, which is whether its look-up finds one
pub record HasEqualKey {K : Type 0} (hashes : Ref K → ℕ → Type 0) (k : Shape) (knows : Names → Type 0) (equal : Equality) (bytes : List ℕ) (b : Buckets) (key : Ref K) (x : Bool) : Type 0 where
  pub found : Option ℕ
  pub looks_up : LooksUpKey (hashes key) (EqualSays k knows equal bytes key) (λ at. at) k (tuple no_shapes) b found
  pub says : x ≡ is_some found
