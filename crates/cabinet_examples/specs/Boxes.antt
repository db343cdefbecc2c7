-- Small archives of other types: boxes, counted pointers, a list type and a map of numbers.
use Rattle.std.specs.Prelude.{ℕ, false, List, [], ◌∷◌, ◌++◌, map, codes}
use Rattle.std.specs.Int.{w8, w32}
use Rattle.archive_shape_layout.specs.Shape.{Shape}
use Rattle.archive_shape_layout.specs.Shape.Alignment.{four}
use Rattle.archive_shape_layout.specs.Shape.Shape.{number, nonzero, tuple, array, option, choice, box, shared, tree, named}
use Rattle.archive_shape_layout.specs.Shape.Shapes.{no_shapes, more_shapes}
use Rattle.archive_shape_layout.specs.Shape.Pointee.{sized, slice}
use Rattle.archive_shape_layout.specs.Value.{Value}
use Rattle.archive_shape_layout.specs.Value.Value.{natural, chosen}
use Rattle.archive_shape_layout.specs.Content.{Names}
use Rattle.cabinet_examples.specs.Pieces.{zeros, values, group_of, region}
use Rattle.cabinet_examples.specs.Root.{HoldsAtRoot, HoldsNothing}

abbrev pub byte : Shape
byte = number w8 false

abbrev pub byte_values : List ℕ → Value
byte_values bytes = group_of (map natural bytes)

-- ---- eleven bytes in a box in an option

abbrev pub boxed_bytes : List ℕ
boxed_bytes = codes "Hello world" ++ 0x00 ∷ 0x01 ∷ zeros 3 ++ 0xf0 ∷ 0xff ∷ 0xff ∷ 0xff ∷ 0x0b ∷ zeros 3

abbrev pub BoxedBytesInAnOption : Type 0
BoxedBytesInAnOption =
    HoldsAtRoot [] (option (box (slice byte))) boxed_bytes 24 12
    (chosen 1 (values (byte_values (codes "Hello world") ∷ [])))
    (region 0 11 1 1 ∷ region 12 12 4 0 ∷ [])

-- ---- two boxes whose offsets lead before the buffer, and two that lead to the same bytes

abbrev pub two_boxes : Shape
two_boxes = array 2 (box (slice byte))

abbrev pub boxes_before_bytes : List ℕ
boxes_before_bytes =
    codes "Hello world" ++ 0x00 ∷ 0xf0 ∷ 0xff ∷ 0xff ∷ 0xff ∷ 0x0b ∷ zeros 3
    ++ 0xe8 ∷ 0xff ∷ 0xff ∷ 0xff ∷ 0x0b ∷ zeros 3

abbrev pub BoxesThatLeadBeforeTheBuffer : Type 0
BoxesThatLeadBeforeTheBuffer = HoldsNothing [] two_boxes boxes_before_bytes 28 12

abbrev pub boxes_of_the_same_bytes : List ℕ
boxes_of_the_same_bytes =
    codes "Hello world" ++ 0x00 ∷ 0xf4 ∷ 0xff ∷ 0xff ∷ 0xff ∷ 0x0b ∷ zeros 3
    ++ 0xec ∷ 0xff ∷ 0xff ∷ 0xff ∷ 0x0b ∷ zeros 3

abbrev pub BoxesThatOverlap : Type 0
BoxesThatOverlap = HoldsNothing [] two_boxes boxes_of_the_same_bytes 28 12

-- ---- a list type, an end or a box of the rest, whose two boxes lead to one another

abbrev pub chain : Shape
chain = named 0 8 four

abbrev pub chain_names : Names
chain_names = (0, choice (more_shapes (tuple no_shapes) (more_shapes (box (sized chain)) no_shapes))) ∷ []

abbrev pub circle_bytes : List ℕ
circle_bytes = 0x01 ∷ zeros 3 ++ 0x04 ∷ zeros 3 ++ 0x01 ∷ zeros 3 ++ 0xf4 ∷ 0xff ∷ 0xff ∷ 0xff ∷ []

abbrev pub BoxesInACircle : Type 0
BoxesInACircle = HoldsNothing chain_names chain circle_bytes 16 8

-- ---- two counted pointers to one position, once with one length and once with two

abbrev pub two_counted : Shape
two_counted = array 2 (shared false (slice byte))

abbrev pub two_lengths_bytes : List ℕ
two_lengths_bytes =
    0x01 ∷ 0x02 ∷ 0x03 ∷ 0x04 ∷ 0xfc ∷ 0xff ∷ 0xff ∷ 0xff ∷ 0x04 ∷ zeros 3
    ++ 0xf4 ∷ 0xff ∷ 0xff ∷ 0xff ∷ 0x02 ∷ zeros 3

abbrev pub OnePositionWithTwoLengths : Type 0
OnePositionWithTwoLengths = HoldsNothing [] two_counted two_lengths_bytes 20 4

-- ---- a map of one pair of numbers, of which the key is not 0: a leaf of 48 bytes, with its length at 44

abbrev pub number_map : Shape
number_map = tree 5 (nonzero w32 false) (number w32 false)

abbrev pub number_map_bytes : List ℕ
number_map_bytes =
    zeros 4 ++ 0x07 ∷ zeros 19 ++ 0x0b ∷ zeros 19 ++ 0x01 ∷ zeros 3
    ++ 0xd0 ∷ 0xff ∷ 0xff ∷ 0xff ∷ 0x01 ∷ zeros 3

abbrev pub MapOfANonzeroNumber : Type 0
MapOfANonzeroNumber =
    HoldsAtRoot [] number_map number_map_bytes 56 48
    (group_of (group_of (natural 7 ∷ natural 11 ∷ []) ∷ []))
    (region 0 48 4 1 ∷ region 48 8 4 0 ∷ [])

-- the same with a leaf of length 0 below a map of length 1, and with a key of 0
abbrev pub short_leaf_bytes : List ℕ
short_leaf_bytes =
    zeros 4 ++ 0x00 ∷ zeros 19 ++ 0x0b ∷ zeros 19 ++ 0x00 ∷ zeros 3
    ++ 0xd0 ∷ 0xff ∷ 0xff ∷ 0xff ∷ 0x01 ∷ zeros 3

abbrev pub LeafShorterThanItsMap : Type 0
LeafShorterThanItsMap = HoldsNothing [] number_map short_leaf_bytes 56 48

abbrev pub zero_key_bytes : List ℕ
zero_key_bytes =
    zeros 4 ++ 0x00 ∷ zeros 19 ++ 0x0b ∷ zeros 19 ++ 0x01 ∷ zeros 3
    ++ 0xd0 ∷ 0xff ∷ 0xff ∷ 0xff ∷ 0x01 ∷ zeros 3

abbrev pub MapWithAKeyOfZero : Type 0
MapWithAKeyOfZero = HoldsNothing [] number_map zero_key_bytes 56 48
