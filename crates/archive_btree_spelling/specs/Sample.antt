-- Samples: maps of numbers with at most five entries in a node.
use Rattle.std.specs.Prelude.{ℕ, false, List, [], ◌∷◌, ◌++◌, Option}
use Rattle.std.specs.Int.{w32, to_le_bytes}
use Rattle.archive_shape_layout.specs.Shape.{Shape}
use Rattle.archive_shape_layout.specs.Shape.Shape.{number, tree}
use Rattle.archive_shape_layout.specs.Value.Value.{natural}
use Rattle.archive_shape.specs.Bytes.{zeros}
use Rattle.archive_forms_laws.specs.Spelling.{Spelling}
use Rattle.archive_forms_laws.specs.Forms.{leaf_spelling}
use Rattle.archive_btree_spelling.specs.Maps.{btree_spelling}
use Rattle.archive_forms_laws.specs.Sample.{number_spelling}

abbrev pub number_shape : Shape
number_shape = number w32 false

abbrev pub map_shape : Shape
map_shape = tree 5 number_shape number_shape

abbrev pub map_spelling : Spelling (List (ℕ × ℕ)) (Option ℕ)
map_spelling = btree_spelling 5 number_shape number_shape number_spelling number_spelling

-- a map without entries: the offset 1, and the length 0
abbrev pub empty_bytes : List ℕ
empty_bytes = 1 ∷ zeros 7

-- the map of 7 to 11: a leaf of 48 bytes, with its length at 44, and the map
abbrev pub one_pair : List (ℕ × ℕ)
one_pair = (7, 11) ∷ []

abbrev pub one_pair_bytes : List ℕ
one_pair_bytes = zeros 4 ++ 7 ∷ zeros 19 ++ 11 ∷ zeros 19 ++ 1 ∷ zeros 3 ++ 208 ∷ 255 ∷ 255 ∷ 255 ∷ 1 ∷ zeros 3

-- the map of 1 to 11 .. 6 to 16: first a leaf with the entry of 1, then an inner node of 68 bytes with the other
-- entries and six pointers, of which five lead to nothing
abbrev pub six_pairs : List (ℕ × ℕ)
six_pairs = (1, 11) ∷ (2, 12) ∷ (3, 13) ∷ (4, 14) ∷ (5, 15) ∷ (6, 16) ∷ []

abbrev pub six_pairs_bytes : List ℕ
six_pairs_bytes =
    zeros 4 ++ 1 ∷ zeros 19 ++ 11 ∷ zeros 19 ++ 1 ∷ zeros 3
    ++ 1 ∷ zeros 3
    ++ 2 ∷ zeros 3 ++ 3 ∷ zeros 3 ++ 4 ∷ zeros 3 ++ 5 ∷ zeros 3 ++ 6 ∷ zeros 3
    ++ 12 ∷ zeros 3 ++ 13 ∷ zeros 3 ++ 14 ∷ zeros 3 ++ 15 ∷ zeros 3 ++ 16 ∷ zeros 3
    ++ 164 ∷ 255 ∷ 255 ∷ 255 ∷ 1 ∷ zeros 3 ++ 1 ∷ zeros 3 ++ 1 ∷ zeros 3 ++ 1 ∷ zeros 3 ++ 1 ∷ zeros 3
    ++ 188 ∷ 255 ∷ 255 ∷ 255 ∷ 6 ∷ zeros 3
