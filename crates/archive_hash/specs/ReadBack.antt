-- The values that archived maps are read back as.
use Rattle.std.specs.Prelude.{◌≡◌, Bool, List, Some, None, All}
use Rattle.std.specs.List.{find, IsDistinct}
use Rattle.std.specs.Map.{keys_of, lookup, update_all}
use Rattle.archive_shape_layout.specs.Value.{Value}
use Rattle.archive_forms.specs.Reading.{reads_all, reads_tuple2}

-- pairs that are inserted one after the other become these entries, in some order: each key occurs once, and is the
-- first of those that are equal to it; a key has the value of the last pair with that key
pub record AreInserted {A B : Type 0} (eq : A → A → Bool) (xs es : List (A × B)) : Type 0 where
  pub once : IsDistinct eq (keys_of es)
  pub first : All (λ k. find (eq k) (keys_of xs) ≡ Some k) (keys_of es)
  pub values : (q : A) → lookup (eq q) es ≡ update_all eq (λ _. None) xs q

-- a map is read back as the entries that are read in the order of their places and inserted one after the other
abbrev pub reads_map : {A B M : Type 0} → (A → A → Bool) → (M → List (A × B)) → (Value → A → Type 0) → (Value → B → Type 0) → Value → M → Type 0
reads_map {A = A} {B = B} eq entries keys vals v m = (xs : List (A × B)) × reads_all (reads_tuple2 keys vals) v xs × AreInserted eq xs (entries m)
