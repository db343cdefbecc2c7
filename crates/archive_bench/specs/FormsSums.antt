-- What is summed of archived values.
use Rattle.std.specs.Prelude.{◌≡◌, ℕ, ◌+◌, ◌-◌, ◌%◌, ◌^◌, List, length, slice_get, unwrap_or, Option, Some, None, ⊤}
use Rattle.std.specs.List.{sum_by}
use Rattle.archive_shape_layout.specs.Shape.{Shape}
use Rattle.archive_shape_layout.specs.Value.{Value}
use Rattle.archive_shape.specs.Key.{HeldAt}
use Rattle.archive_forms_laws.specs.Views.{natural_of, text_of, option_of, elements_of}

-- a number is the result of a function for each value that lies at a position
abbrev pub IsOf : (Value → ℕ) → Shape → List ℕ → ℕ → ℕ → Type 0
IsOf f s bytes pos n = (v : Value) → HeldAt s (λ _. ⊤) bytes pos v → n ≡ f v

abbrev pub natural_or_zero : Option Value → ℕ
natural_or_zero None = 0
natural_or_zero (Some v) = natural_of v

-- the number of an option, or 0 where there is none
abbrev pub number_or_zero : Value → ℕ
number_or_zero v = natural_or_zero (option_of v)

-- a text's length and its last byte
abbrev pub length_and_last : List ℕ → ℕ
length_and_last bytes = (length bytes + unwrap_or (slice_get bytes (length bytes - 1)) 0) % 2 ^ 64

abbrev pub weight : Value → ℕ
weight v = length_and_last (text_of v)

-- the sum of a function over all elements
abbrev pub sum_of : (Value → ℕ) → Value → ℕ
sum_of f v = sum_by f (elements_of v) % 2 ^ 64
