-- How arrays are archived: the data of the elements in order, and their contiguous own bytes.
use Rattle.std.specs.Prelude.{◌≡◌, ℕ, ◌+◌, List, [], ◌∷◌, ◌++◌, length, ⊤, ◌⊎◌}
use Rattle.archive_shape_layout.specs.Shape.{Shape, size_of}
use Rattle.archive_shape_layout.specs.Value.Value.{group}
use Rattle.archive_shape_layout.specs.declared.error.Error.{Error}
use Rattle.archive_forms_laws.specs.Spelling.{Spelling}
use Rattle.archive_forms_laws.specs.Regions.{state_after_all, values, plain_values, all_suit, pieces, resolvers, pieces_fit, pieces_refused}

-- ---- own bytes by resolvers, one for each element

module _ {A R : Type 0} (s : Shape) (w : Spelling A R) where
  abbrev pub array_own : List A → List R → ℕ → List ℕ
  array_own (x ∷ xs) (r ∷ rs) pos = w.own x r pos ++ array_own xs rs (pos + size_of s)
  array_own _ _ pos = []

  abbrev pub array_own_fits : List A → List R → ℕ → Type 0
  array_own_fits (x ∷ xs) (r ∷ rs) pos = w.own_fits x r pos × array_own_fits xs rs (pos + size_of s)
  array_own_fits _ _ pos = ⊤

  abbrev pub array_own_refused : List A → List R → ℕ → Error → Type 0
  array_own_refused (x ∷ xs) (r ∷ rs) pos e = w.own_refused x r pos e ⊎ array_own_refused xs rs (pos + size_of s) e
  array_own_refused _ _ pos e = ⊥

-- an array of n elements
abbrev pub array_spelling : {A R : Type 0} → ℕ → Shape → Spelling A R → Spelling (List A) (List R)
array_spelling n s w = record {
  value = λ xs st. group (values w xs st);
  plain = λ xs. group (plain_values w xs);
  piece = λ xs st. pieces w xs st;
  resolver = λ xs st. resolvers w xs st;
  met = λ xs st. (state_after_all w xs st).met;
  own = λ xs rs pos. array_own s w xs rs pos;
  piece_fits = λ xs st. (length xs ≡ n) × pieces_fit w xs st;
  piece_refused = λ xs st e. pieces_refused w xs st e;
  own_fits = λ xs rs pos. (length xs ≡ n) × (length rs ≡ n) × array_own_fits s w xs rs pos;
  own_refused = λ xs rs pos e. array_own_refused s w xs rs pos e;
  suits = λ fit keys xs. all_suit w fit keys xs;
}
