-- What a value is seen as where it is compared. A value of another form is seen as 0, as no parts, or as its own part.
use Rattle.std.specs.Prelude.{ℕ, zero, suc, ℤ, pos, Bool, false, List, [], ◌∷◌, Option, Some, None, Result, Ok, Err}
use Rattle.archive_shape_layout.specs.Value.{Value, Values}
use Rattle.archive_shape_layout.specs.Value.Value.{natural, integer, boolean, string, group, chosen}
use Rattle.archive_shape_layout.specs.Value.Values.{no_values, more_values}

-- the number of an unsigned type, or the char's code
abbrev pub natural_of : Value → ℕ
natural_of (natural n) = n
natural_of _ = 0

-- the number of a signed type
abbrev pub integer_of : Value → ℤ
integer_of (integer n) = n
integer_of _ = pos 0

abbrev pub truth_of : Value → Bool
truth_of (boolean b) = b
truth_of _ = false

-- the text's bytes
abbrev pub text_of : Value → List ℕ
text_of (string bytes) = bytes
text_of _ = []

-- the value of an option, if there is one
abbrev pub option_of : Value → Option Value
option_of (chosen t (more_values v vs)) = Some v
option_of _ = None

-- the value or the error of a result: tag 0 is a value
abbrev pub result_of : Value → Result Value Value
result_of (chosen zero (more_values v vs)) = Ok v
result_of (chosen (suc t) (more_values v vs)) = Err v
result_of v = Ok v

abbrev pub listed : Values → List Value
listed no_values = []
listed (more_values v vs) = v ∷ listed vs

-- the elements of a vector or an array, and the fields of a tuple, in order
abbrev pub elements_of : Value → List Value
elements_of (group vs) = listed vs
elements_of _ = []

-- the first of some values, and the others
abbrev pub head_of : List Value → Value
head_of [] = group no_values
head_of (v ∷ vs) = v

abbrev pub rest_of : List Value → List Value
rest_of [] = []
rest_of (v ∷ vs) = vs
