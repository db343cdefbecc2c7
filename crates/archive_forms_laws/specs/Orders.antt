-- How the values of each form are compared and what is hashed of them, given the same of their parts.
use Rattle.std.specs.Prelude.{ℕ, Bool, true, List, [], ◌++◌, nat_eq}
use Rattle.std.specs.Bool.{beq}
use Rattle.std.specs.declared.cmp.Ordering.{Ordering}
use Rattle.std.specs.declared.cmp.Ordering.TheVariants.{Equal}
use Rattle.std.specs.Ordering.{nat_cmp, int_cmp, bool_cmp, int_eq, on, then_cmp, eq_of_both}
use Rattle.std.specs.Cmp.Lexicographic.{pointwise, slice_cmp}
use Rattle.std.specs.Option.{option_eq, option_cmp}
use Rattle.std.specs.Result.{result_eq, result_cmp}
use Rattle.std.specs.Hash as fed
use Rattle.archive_shape_layout.specs.Value.{Value}
use Rattle.archive_forms_laws.specs.Views.{natural_of, integer_of, truth_of, text_of, option_of, result_of, elements_of, head_of, rest_of}

-- whether two values are equal, how they are ordered, and what is written to a hasher
abbrev pub Equality : Type 0
Equality = Value → Value → Bool

abbrev pub Order : Type 0
Order = Value → Value → Ordering

abbrev pub Hashed : Type 0
Hashed = Value → List (List ℕ)

-- both, for values that have an order
pub record Comparison : Type 0 where
  pub equal : Equality
  pub order : Order

-- ---- numbers, truth values and texts

abbrev pub natural_equality : Equality
natural_equality = on natural_of nat_eq

abbrev pub natural_order : Order
natural_order = on natural_of nat_cmp

abbrev pub integer_equality : Equality
integer_equality = on integer_of int_eq

abbrev pub integer_order : Order
integer_order = on integer_of int_cmp

abbrev pub truth_equality : Equality
truth_equality = on truth_of beq

-- false before true
abbrev pub truth_order : Order
truth_order = on truth_of bool_cmp

-- numbers of unsigned types, and chars
abbrev pub by_natural : Comparison
by_natural = record { equal = natural_equality; order = natural_order }

-- numbers of signed types
abbrev pub by_integer : Comparison
by_integer = record { equal = integer_equality; order = integer_order }

abbrev pub text_equality : Equality
text_equality = on text_of (pointwise nat_eq)

-- by bytes
abbrev pub text_order : Order
text_order = on text_of (slice_cmp nat_cmp)

abbrev pub text_hashed : Hashed
text_hashed v = fed.str (text_of v)

-- ---- options: none before some

abbrev pub option_equality : Equality → Equality
option_equality E = on option_of (option_eq E)

abbrev pub option_order : Order → Order
option_order R = on option_of (option_cmp R)

abbrev pub option_hashed : Hashed → Hashed
option_hashed F v = fed.option F (option_of v)

-- ---- results: a value before an error

abbrev pub result_equality : Equality → Equality → Equality
result_equality E F = on result_of (result_eq E F)

abbrev pub result_order : Order → Order → Order
result_order R S = on result_of (result_cmp R S)

abbrev pub result_hashed : Hashed → Hashed → Hashed
result_hashed F G v = fed.result F G (result_of v)

-- ---- vectors: the first elements that are not equal decide, and else the lengths do

abbrev pub vector_equality : Equality → Equality
vector_equality E = on elements_of (pointwise E)

abbrev pub vector_order : Order → Order
vector_order R = on elements_of (slice_cmp R)

-- the length, and then each element
abbrev pub vector_hashed : Hashed → Hashed
vector_hashed F v = fed.slice F (elements_of v)

-- ---- fields in order: the first that are not equal decide

abbrev pub no_fields_equality : List Value → List Value → Bool
no_fields_equality vs ws = true

abbrev pub no_fields_order : List Value → List Value → Ordering
no_fields_order vs ws = Equal

abbrev pub no_fields_hashed : List Value → List (List ℕ)
no_fields_hashed vs = []

-- a field before others
abbrev pub more_fields_equality : Equality → (List Value → List Value → Bool) → List Value → List Value → Bool
more_fields_equality E F = eq_of_both (on head_of E) (on rest_of F)

abbrev pub more_fields_order : Order → (List Value → List Value → Ordering) → List Value → List Value → Ordering
more_fields_order R S = then_cmp (on head_of R) (on rest_of S)

abbrev pub more_fields_hashed : Hashed → (List Value → List (List ℕ)) → List Value → List (List ℕ)
more_fields_hashed F G vs = F (head_of vs) ++ G (rest_of vs)

-- a tuple, by how its fields are
abbrev pub tuple_equality : (List Value → List Value → Bool) → Equality
tuple_equality F = on elements_of F

abbrev pub tuple_order : (List Value → List Value → Ordering) → Order
tuple_order R = on elements_of R

abbrev pub tuple_hashed : (List Value → List (List ℕ)) → Hashed
tuple_hashed F v = F (elements_of v)

-- ---- units, which are all equal

abbrev pub unit_equality : Equality
unit_equality v w = true

abbrev pub unit_order : Order
unit_order v w = Equal

abbrev pub unit_hashed : Hashed
unit_hashed v = []
