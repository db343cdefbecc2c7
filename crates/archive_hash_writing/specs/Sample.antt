-- Samples: tables of numbers of four bytes, of which seven of eight places may be full.
use Rattle.std.specs.Prelude.{ℕ, ◌+◌, ◌*◌, ◌%◌, ◌^◌, false, List, [], ◌∷◌, ◌++◌, replicate, Option}
use Rattle.std.specs.Int.{w32}
use Rattle.archive_shape_layout.specs.Shape.{Shape}
use Rattle.archive_shape_layout.specs.Shape.Shape.{number, table}
use Rattle.archive_shape.specs.Bytes.{zeros}
use Rattle.archive_forms_laws.specs.Spelling.{Spelling}
use Rattle.archive_hash_writing.specs.Tables.{table_spelling}
use Rattle.archive_forms_laws.specs.Sample.{number_spelling}

abbrev pub number_shape : Shape
number_shape = number w32 false

-- a hash of numbers whose tag is 55, and whose other bits are the number
abbrev pub sample_hash : ℕ → ℕ
sample_hash n = (85 * 2 ^ 57 + n) % 2 ^ 64

abbrev pub sample_shape : Shape
sample_shape = table number_shape

abbrev pub sample_spelling : Spelling (List ℕ) (Option ℕ)
sample_spelling = table_spelling 7 8 number_shape number_spelling sample_hash

-- a table without items: the offset 1, and 0 twice
abbrev pub empty_bytes : List ℕ
empty_bytes = 1 ∷ zeros 11

-- 7 in a table of two places: at place 1, whose bucket is the first; the bucket of place 0 is zero, and its control is
-- empty
abbrev pub one_item : List ℕ
one_item = 7 ∷ []

abbrev pub one_item_bytes : List ℕ
one_item_bytes =
    7 ∷ zeros 7 ++ 255 ∷ 85 ∷ 255 ∷ 85 ∷ replicate 27 255 ++ zeros 1 ++ 224 ∷ 255 ∷ 255 ∷ 255 ∷ 1 ∷ zeros 3 ++ 2 ∷ zeros 3

-- 6, 4 and 8 in a table of four places: 6 at place 2 and 4 at place 0, the first places of their hashes; 8, whose hash
-- leads to place 0 as well, at place 1
abbrev pub three_items : List ℕ
three_items = 6 ∷ 4 ∷ 8 ∷ []

abbrev pub three_items_bytes : List ℕ
three_items_bytes =
    zeros 4 ++ 6 ∷ zeros 3 ++ 8 ∷ zeros 3 ++ 4 ∷ zeros 3
    ++ 85 ∷ 85 ∷ 85 ∷ 255 ∷ 85 ∷ 85 ∷ 85 ∷ replicate 24 255
    ++ zeros 1 ++ 224 ∷ 255 ∷ 255 ∷ 255 ∷ 3 ∷ zeros 3 ++ 4 ∷ zeros 3
