-- What archived hash maps and sets have in common with those of std.
use Rattle.std.specs.Prelude.{◌≡◌, ℕ, Bool, false, List, Option, MatchOption}
use Rattle.std.specs.Option.{is_some}
use Rattle.std.specs.declared.cmp.Ordering.{Ordering}
use Rattle.archive_shape_layout.specs.Shape.{Shape}
use Rattle.archive_shape_layout.specs.Shape.Shape.{tuple}
use Rattle.archive_shape_layout.specs.Shape.Shapes.{no_shapes}
use Rattle.archive_forms_values.specs.Fields.{field_position}
use Rattle.archive_hash_maps.specs.Tables.{Buckets}
use Rattle.archive_hash_maps.specs.Maps.{KeySays, LooksUpKey}

-- the Boolean is whether the key of a pair has the pair's value: false where the key's look-up finds nothing, and
-- otherwise whether the value that is found is the same
pub record LeadsTo {Q W : Type 0} (key_of : List ℕ → ℕ → Q → Type 0) (key_order : Q → Q → Ordering) (value_of : List ℕ → ℕ → W → Type 0) (value_order : W → W → Ordering) (hashes : Q → ℕ → Type 0)
    (bytes : List ℕ) (k v : Shape) (b : Buckets) (pair : Q × W) (x : Bool) : Type 0 where
  pub found : Option ℕ
  pub looks_up : LooksUpKey (hashes pair.0) (KeySays key_of key_order bytes pair.0) (field_position k no_shapes v) k v b found
  pub says : MatchOption found (x ≡ false) (λ at. KeySays value_of value_order bytes pair.1 at x)

-- the Boolean is whether a set has a key, which is whether its look-up finds one
pub record IsSaid {Q : Type 0} (key_of : List ℕ → ℕ → Q → Type 0) (key_order : Q → Q → Ordering) (hashes : Q → ℕ → Type 0) (bytes : List ℕ) (k : Shape) (b : Buckets) (query : Q) (x : Bool) : Type 0 where
  pub found : Option ℕ
  pub says : x ≡ is_some found
  pub looks_up : LooksUpKey (hashes query) (KeySays key_of key_order bytes query) (λ at. at) k (tuple no_shapes) b found
