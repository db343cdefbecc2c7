-- The elements of a list that was written.
use Rattle.std.specs.Option.{option_and_then}
use Rattle.std.proofs.Common.{◌≡◌, ◌∙◌, ℕ, ◌<◌, ◌≤◌, List, length, slice_get, get_or, Option, Some, None, ◌⊎◌, inl, inr, sym, ap, arith}
use Rattle.std.proofs.lemmas.Option.{slice_get_cases}
use Rattle.archive_shape_layout.specs.Value.{Values, count_values}
use Rattle.archive_shape_layout.specs.Value.Value.{group}
use Rattle.archive_forms_laws.specs.State.{State}
use Rattle.archive_forms_laws.specs.Spelling.{Spelling}
use Rattle.archive_forms_laws.specs.Regions.{values}
use Rattle.archive_hash_writing.proofs.SpellingTables.{count_of}

module _ {A R : Type 0} (w : Spelling A R) where
  -- there are as many values as elements
  pub counted : (xs : List A) (st : State) (elements : Values) (len : ℕ) → group (values w xs st) ≡ group elements → count_values elements ≡ len → len ≡ length xs
  counted xs st elements len is count =
      let same : values w xs st ≡ elements = cc in
      sym count ∙ ap count_values (sym same) ∙ count_of w xs st

module _ {M B : Type 0} (ms : List M) (i len : ℕ) (count : len ≡ length ms) (f : M → Option B) where
  abbrev Cases : Type 0
  Cases = ((x : M) × (i < length ms) × (slice_get ms i ≡ Some x) × (get_or ms i x ≡ x)) ⊎ ((length ms ≤ i) × (slice_get ms i ≡ None))

  -- what is told of the element at an index is told of the list
  pub told_of_element : (r : Option B) → i < len → ((m : M) → slice_get ms i ≡ Some m → r ≡ f m) → r ≡ option_and_then f (slice_get ms i)
  told_of_element r within says = among (slice_get_cases ms i).1 where
    among : Cases → r ≡ option_and_then f (slice_get ms i)
    among (inl found) = says found.0 found.2 ∙ sym (ap (option_and_then f) found.2)
    among (inr none) = absurd (let past = none.0 in omega (arith, within, count, past))

  -- behind the list there is none
  pub none_behind : len ≤ i → None ≡ option_and_then f (slice_get ms i)
  none_behind past = among (slice_get_cases ms i).1 where
    among : Cases → None ≡ option_and_then f (slice_get ms i)
    among (inl found) = absurd (let within = found.1 in omega (arith, past, count, within))
    among (inr none) = sym (ap (option_and_then f) none.1)
