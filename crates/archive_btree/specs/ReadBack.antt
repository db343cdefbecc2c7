-- Which values archived maps are read back as.
use Rattle.std.specs.Prelude.{◌≡◌, List, [], ◌∷◌, Result, MatchResult}
use Rattle.std.specs.declared.cmp.Ordering.{Ordering}
use Rattle.std.specs.BTreeMap.{insert_entry}
use Rattle.archive_shape_layout.specs.Value.{Value}
use Rattle.archive_shape_layout.specs.declared.error.Error.{Error}
use Rattle.archive_shape_layout.specs.declared.error.Error.TheVariants.{OutOfMemory}
use Rattle.archive_forms.specs.Reading.{reads_all, reads_tuple2}

-- entries in order, with pairs inserted in turn: of equal keys the first one remains, with the value of the last one
abbrev pub inserted : {A B : Type 0} → (A → A → Ordering) → List (A × B) → List (A × B) → List (A × B)
inserted cmp es [] = es
inserted cmp es (x ∷ xs) = inserted cmp (insert_entry cmp es x.0 x.1) xs

-- a map is read back as its entries are, in order, and inserted in turn, regardless of whether their keys ascend there
abbrev pub reads_map : {A B M : Type 0} → (A → A → Ordering) → (M → List (A × B)) → (Value → A → Type 0) → (Value → B → Type 0) → Value → M → Type 0
reads_map {A = A} {B = B} cmp entries keys vals v m = (xs : List (A × B)) × reads_all (reads_tuple2 keys vals) v xs × (entries m ≡ inserted cmp [] xs)

-- a call inserts a pair whose key and value were read, and its only error is `OutOfMemory`
abbrev pub InsertsRead : {A B : Type 0} → (A → A → Ordering) → (A → Type 0) → (B → Type 0) → List (A × B) → List (A × B) → Result (Unit {0}) Error → Type 0
InsertsRead {A = A} {B = B} cmp is_key is_value old new result =
    MatchResult result (λ _. (x : A × B) × is_key x.0 × is_value x.1 × (new ≡ insert_entry cmp old x.0 x.1)) (λ e. e ≡ OutOfMemory)
