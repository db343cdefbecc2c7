-- Samples: lists of shared numbers, lists of boxes that may be absent, pairs, and texts.
use Rattle.std.specs.Prelude.{ℕ, false, List, [], ◌∷◌, Option, Some, None}
use Rattle.std.specs.Int.{Width, w8, w32, w64, to_le_bytes}
use Rattle.archive_shape_layout.specs.Shape.{Shape}
use Rattle.archive_shape_layout.specs.Shape.Shape.{number, shared, vector, box, option, tuple}
use Rattle.archive_shape_layout.specs.Shape.Shapes.{no_shapes, more_shapes}
use Rattle.archive_shape_layout.specs.Shape.Pointee.{sized}
use Rattle.archive_shape_layout.specs.Value.Value.{natural}
use Rattle.archive_forms_laws.specs.Spelling.{Spelling}
use Rattle.archive_forms_laws.specs.Forms.{leaf_spelling, seen_as}
use Rattle.archive_forms_laws.specs.Pointers.{slice_spelling, box_spelling}
use Rattle.archive_forms_laws.specs.Shared.{shared_value_spelling}
use Rattle.archive_forms_laws.specs.Options.{option_spelling}
use Rattle.archive_forms_laws.specs.Fields.{tuple2_spelling}

abbrev pub number_shape : Shape
number_shape = number w32 false

abbrev pub number_spelling : Spelling ℕ (Unit {0})
number_spelling = leaf_spelling number_shape (to_le_bytes w32) natural

-- ---- lists of keys, each with the number that is shared under it

abbrev pub keyed_list_shape : Shape
keyed_list_shape = vector (shared false (sized number_shape))

abbrev pub keyed_spelling : Spelling (ℕ × ℕ) ℕ
keyed_spelling = shared_value_spelling number_shape (λ x. x.0) (seen_as (λ x. x.1) number_spelling)

abbrev pub keyed_list : Spelling (List (ℕ × ℕ)) ℕ
keyed_list = slice_spelling (shared false (sized number_shape)) keyed_spelling

abbrev pub two : List (ℕ × ℕ)
two = (7, 5) ∷ (7, 5) ∷ []

abbrev pub two_bytes : List ℕ
two_bytes = 5 ∷ 0 ∷ 0 ∷ 0 ∷ 252 ∷ 255 ∷ 255 ∷ 255 ∷ 248 ∷ 255 ∷ 255 ∷ 255 ∷ 248 ∷ 255 ∷ 255 ∷ 255 ∷ 2 ∷ 0 ∷ 0 ∷ 0 ∷ []

-- ---- lists of numbers in boxes, some of them absent

abbrev pub optional_list_shape : Shape
optional_list_shape = vector (option (box (sized number_shape)))

abbrev pub optional_list : Spelling (List (Option ℕ)) ℕ
optional_list = slice_spelling (option (box (sized number_shape))) (option_spelling (box (sized number_shape)) (box_spelling number_shape number_spelling))

abbrev pub one_present : List (Option ℕ)
one_present = Some 5 ∷ None ∷ []

abbrev pub one_present_bytes : List ℕ
one_present_bytes =
    5 ∷ 0 ∷ 0 ∷ 0 ∷ 1 ∷ 0 ∷ 0 ∷ 0 ∷ 248 ∷ 255 ∷ 255 ∷ 255 ∷ 0 ∷ 0 ∷ 0 ∷ 0 ∷ 0 ∷ 0 ∷ 0 ∷ 0 ∷ 240 ∷ 255 ∷ 255 ∷ 255 ∷ 2 ∷ 0 ∷ 0 ∷ 0 ∷ []

-- ---- pairs of a number of one byte and one of eight

abbrev pub unsigned_spelling : Width → Spelling ℕ (Unit {0})
unsigned_spelling w = leaf_spelling (number w false) (to_le_bytes w) natural

abbrev pub pair_shape : Shape
pair_shape = tuple (more_shapes (number w8 false) (more_shapes (number w64 false) no_shapes))

abbrev pub pair_spelling : Spelling (ℕ × ℕ) (Unit {0} × Unit {0})
pair_spelling = tuple2_spelling (number w8 false) (unsigned_spelling w8) (number w64 false) (unsigned_spelling w64)

abbrev pub zero_pair_bytes : List ℕ
zero_pair_bytes = 0 ∷ 0 ∷ 0 ∷ 0 ∷ 0 ∷ 0 ∷ 0 ∷ 0 ∷ 0 ∷ 0 ∷ 0 ∷ 0 ∷ 0 ∷ 0 ∷ 0 ∷ 0 ∷ []

-- of 7 and 5
abbrev pub other_pair_bytes : List ℕ
other_pair_bytes = 7 ∷ 0 ∷ 0 ∷ 0 ∷ 0 ∷ 0 ∷ 0 ∷ 0 ∷ 5 ∷ 0 ∷ 0 ∷ 0 ∷ 0 ∷ 0 ∷ 0 ∷ 0 ∷ []

-- ---- texts of three, eight and nine bytes

abbrev pub filled_text_bytes : List ℕ
filled_text_bytes = 97 ∷ 98 ∷ 99 ∷ 255 ∷ 255 ∷ 255 ∷ 255 ∷ 255 ∷ []

abbrev pub eight_text_bytes : List ℕ
eight_text_bytes = 97 ∷ 98 ∷ 99 ∷ 100 ∷ 101 ∷ 102 ∷ 103 ∷ 104 ∷ []

abbrev pub nine_text_bytes : List ℕ
nine_text_bytes = 97 ∷ 98 ∷ 99 ∷ 100 ∷ 101 ∷ 102 ∷ 103 ∷ 104 ∷ 105 ∷ 0 ∷ 0 ∷ 0 ∷ 137 ∷ 0 ∷ 0 ∷ 0 ∷ 244 ∷ 255 ∷ 255 ∷ 255 ∷ []
