-- What maps and sets of numbers answer.
use Rattle.std.specs.Prelude.{ℕ, Bool, List, Option, ⊤}
use Rattle.std.specs.BTreeMap.Range.{entries_between}
use Rattle.std.specs.List.{find, slice_get}
use Rattle.std.specs.Option.{is_some, option_map}
use Rattle.std.specs.Ordering.{is_eq, nat_cmp}
use Rattle.std.specs.declared.ops.Bound.TheVariants.{Included, Unbounded}
use Rattle.archive_shape_layout.specs.Bytes.{window}
use Rattle.archive_shape_layout.specs.Content.{Names}
use Rattle.archive_shape_layout.specs.Numbers.{Reads}
use Rattle.archive_shape_layout.specs.Shape.{Shape, size_of}
use Rattle.archive_shape_layout.specs.Value.Value.{natural}
use Rattle.archive_forms_laws.specs.Sample.{number_shape, number_spelling}
use Rattle.archive_forms_laws.specs.Spelling.{Spelling}
use Rattle.archive_btree.specs.Answering.{AnswersKeys}

-- the number of a key
abbrev pub number_with : (key : ℕ) → List (ℕ × ℕ) → Option ℕ
number_with key es = option_map (λ e. e.1) (find (λ e. is_eq (nat_cmp e.0 key)) es)

-- the number of the least key that is not less than another one
abbrev pub number_from : (start : ℕ) → List (ℕ × ℕ) → Option ℕ
number_from start es = option_map (λ e. e.1) (slice_get (entries_between nat_cmp (Included start) Unbounded es) 0)

-- whether there is a key
abbrev pub has_key : (key : ℕ) → List (ℕ × Unit {0}) → Bool
has_key key es = is_some (find (λ e. is_eq (nat_cmp e.0 key)) es)

abbrev pub any : Names → Type 0
any _ = ⊤

-- at a position lies the number of a key
abbrev pub is_number : List ℕ → ℕ → ℕ → Type 0
is_number bytes pos key = Reads number_shape (window bytes pos (size_of number_shape)) (natural key)

-- the map at a position answers the keys of these entries, whose keys are numbers
abbrev pub IsAnswered : {B P : Type 0} → Shape → Spelling B P → List ℕ → ℕ → List (ℕ × B) → Type 0
IsAnswered v vals bytes pos es = AnswersKeys 5 number_shape v any any number_spelling vals bytes (λ n. n) nat_cmp is_number pos es
