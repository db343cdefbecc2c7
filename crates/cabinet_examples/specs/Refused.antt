-- One buffer for each rule that refuses, which breaks only that rule; and at the limits, what is still accepted.
use Rattle.std.specs.Prelude.{ℕ, zero, suc, ◌+◌, true, false, Bool, List, [], ◌∷◌, ◌++◌, codes}
use Rattle.std.specs.Int.{w8, w32}
use Rattle.archive_shape_layout.specs.Shape.{Shape}
use Rattle.archive_shape_layout.specs.Shape.Alignment.{four}
use Rattle.archive_shape_layout.specs.Shape.Shape.{number, character, tuple, shared, tree, named}
use Rattle.archive_shape_layout.specs.Shape.Shapes.{no_shapes, more_shapes}
use Rattle.archive_shape_layout.specs.Shape.Pointee.{sized, slice}
use Rattle.archive_shape_layout.specs.Value.{Value}
use Rattle.archive_shape_layout.specs.Value.Value.{counted, back}
use Rattle.archive_shape_layout.specs.Content.{Names}
use Rattle.archive_shape_layout.specs.Holds.{Region}
use Rattle.cabinet_examples.specs.Node.{node_shape, node_names}
use Rattle.cabinet_examples.specs.Pieces.{zeros, filler, inline, number_node, group_of, region}
use Rattle.cabinet_examples.specs.Root.{HoldsAtRoot, HoldsNothing}

abbrev pub NoDocument : List ℕ → ℕ → ℕ → Type 0
NoDocument = HoldsNothing node_names node_shape

-- ---- an option's pointer leads to 1, where no node can begin

abbrev pub unaligned_bytes : List ℕ
unaligned_bytes = zeros 32 ++ 0x04 ∷ zeros 3 ++ 0x01 ∷ zeros 3 ++ 0xd9 ∷ 0xff ∷ 0xff ∷ 0xff ∷ zeros 12

abbrev pub BoxThatIsNotAligned : Type 0
BoxThatIsNotAligned = NoDocument unaligned_bytes 56 32

-- ---- tags, truth values and chars

abbrev pub UnknownTag : Type 0
UnknownTag = NoDocument (0x0a ∷ zeros 23) 24 0

abbrev pub UnknownTagOfAnOption : Type 0
UnknownTagOfAnOption = NoDocument (number_node 5 ++ 0x04 ∷ zeros 3 ++ 0x02 ∷ zeros 3 ++ 0xe0 ∷ 0xff ∷ 0xff ∷ 0xff ∷ zeros 12) 48 24

abbrev pub TruthValueOfTwo : Type 0
TruthValueOfTwo = NoDocument (0x00 ∷ 0x02 ∷ zeros 22) 24 0

abbrev pub SurrogateChar : Type 0
SurrogateChar = HoldsNothing [] character (0x00 ∷ 0xd8 ∷ zeros 2) 4 0

-- ---- texts: a byte c3 requires another after it, and eight bytes are inline

abbrev pub BrokenInlineText : Type 0
BrokenInlineText = NoDocument (0x02 ∷ zeros 3 ++ 0x61 ∷ 0xc3 ∷ filler 6 ++ zeros 12) 24 0

abbrev pub BrokenLongText : Type 0
BrokenLongText =
    NoDocument
    (codes "hello worl" ++ 0xc3 ∷ 0x21 ∷ zeros 4
    ++ 0x02 ∷ zeros 3 ++ 0x8c ∷ 0x00 ∷ 0x00 ∷ 0x00 ∷ 0xec ∷ 0xff ∷ 0xff ∷ 0xff ∷ zeros 12)
    40 16

abbrev pub LongTextOfEight : Type 0
LongTextOfEight =
    NoDocument (codes "hello wo" ++ 0x02 ∷ zeros 3 ++ 0x88 ∷ 0x00 ∷ 0x00 ∷ 0x00 ∷ 0xf4 ∷ 0xff ∷ 0xff ∷ 0xff ∷ zeros 12) 32 8

-- ---- a hashed map of one number in bucket 1 of two, except for its controls and its capacity

abbrev pub hashed_bytes : List ℕ → ℕ → List ℕ
hashed_bytes controls cap =
    inline "a" ++ number_node 1 ++ zeros 32
    ++ controls ++ zeros 1
    ++ 0x07 ∷ zeros 3 ++ 0xdc ∷ 0xff ∷ 0xff ∷ 0xff ∷ 0x01 ∷ zeros 3 ++ cap ∷ zeros 3 ++ zeros 8

abbrev pub TableWithoutRoom : Type 0
TableWithoutRoom = NoDocument (hashed_bytes (0x55 ∷ 0x55 ∷ filler 29) 1) 120 96

abbrev pub ControlThatDoesNotRepeat : Type 0
ControlThatDoesNotRepeat = NoDocument (hashed_bytes (0xff ∷ 0x55 ∷ 0xff ∷ 0x54 ∷ filler 27) 2) 120 96

abbrev pub EmptyControlThatDoesNotRepeat : Type 0
EmptyControlThatDoesNotRepeat = NoDocument (hashed_bytes (0xff ∷ 0x55 ∷ 0x80 ∷ 0x55 ∷ filler 27) 2) 120 96

abbrev pub TagBeyondTwiceTheCapacity : Type 0
TagBeyondTwiceTheCapacity = NoDocument (hashed_bytes (0xff ∷ 0x55 ∷ 0xff ∷ 0x55 ∷ 0x55 ∷ filler 26) 2) 120 96

abbrev pub MoreTagsThanItems : Type 0
MoreTagsThanItems = NoDocument (hashed_bytes (0x55 ∷ 0x55 ∷ 0x55 ∷ 0x55 ∷ filler 27) 2) 120 96

-- ---- a kept map of one number whose place names entry 1

abbrev pub outside_bytes : List ℕ
outside_bytes =
    0x01 ∷ zeros 3 ++ zeros 4
    ++ 0xff ∷ 0x55 ∷ 0xff ∷ 0x55 ∷ filler 27 ++ zeros 1
    ++ inline "a" ++ number_node 1
    ++ 0x08 ∷ zeros 3 ++ 0xbc ∷ 0xff ∷ 0xff ∷ 0xff ∷ 0x01 ∷ zeros 3 ++ 0x02 ∷ zeros 3 ++ 0xd0 ∷ 0xff ∷ 0xff ∷ 0xff ∷ zeros 4

abbrev pub PlaceOutsideTheMap : Type 0
PlaceOutsideTheMap = NoDocument outside_bytes 96 72

-- ---- an ordered map in a leaf, except for the leaf's kind and length

abbrev pub leaf_bytes : ℕ → ℕ → List ℕ
leaf_bytes kind len =
    kind ∷ zeros 3 ++ zeros 164 ++ len ∷ zeros 7
    ++ 0x06 ∷ zeros 3 ++ 0x4c ∷ 0xff ∷ 0xff ∷ 0xff ∷ len ∷ zeros 15

abbrev pub LeafOfSix : Type 0
LeafOfSix = NoDocument (leaf_bytes 0 6) 200 176

abbrev pub UnknownKindOfNode : Type 0
UnknownKindOfNode = NoDocument (leaf_bytes 2 1) 200 176

-- ---- a search tree that grows by one node per level: inner nodes of twelve bytes, each with one entry of no bytes and
-- a lesser child, above a leaf of eight without entries

abbrev pub unit : Shape
unit = tuple no_shapes

abbrev pub inner_nodes : ℕ → List ℕ
inner_nodes zero = []
inner_nodes (suc n) = 0x01 ∷ zeros 3 ++ 0xf0 ∷ 0xff ∷ 0xff ∷ 0xff ∷ 0x01 ∷ zeros 3 ++ inner_nodes n

-- the lowest inner node, and n above it
abbrev pub levels_bytes : ℕ → List ℕ
levels_bytes more =
    zeros 8
    ++ 0x01 ∷ zeros 3 ++ 0xf4 ∷ 0xff ∷ 0xff ∷ 0xff ∷ 0x01 ∷ zeros 3
    ++ inner_nodes more
    ++ 0xf4 ∷ 0xff ∷ 0xff ∷ 0xff ∷ suc more ∷ zeros 3

abbrev pub unit_entries : ℕ → List Value
unit_entries zero = []
unit_entries (suc n) = group_of (group_of [] ∷ group_of [] ∷ []) ∷ unit_entries n

abbrev pub level_regions : ℕ → ℕ → List Region
level_regions zero start = []
level_regions (suc n) start = region start 12 4 (suc n) ∷ level_regions n (start + 12)

abbrev pub ThirtyTwoLevels : Type 0
ThirtyTwoLevels =
    HoldsAtRoot [] (tree 1 unit unit) (levels_bytes 30) 388 380
    (group_of (unit_entries 31))
    (region 0 8 4 32 ∷ (level_regions 31 8 ++ region 380 8 4 0 ∷ []))

abbrev pub ThirtyThreeLevels : Type 0
ThirtyThreeLevels = HoldsNothing [] (tree 1 unit unit) (levels_bytes 31) 400 392

-- ---- counted pointers: two to one position with two shapes, and one that leads to itself

abbrev pub two_shapes : Shape
two_shapes = tuple (more_shapes (shared false (slice (number w8 false))) (more_shapes (shared false (sized (number w32 false))) no_shapes))

abbrev pub OnePositionWithTwoShapes : Type 0
OnePositionWithTwoShapes =
    HoldsNothing [] two_shapes (zeros 4 ++ 0xfc ∷ 0xff ∷ 0xff ∷ 0xff ∷ 0x04 ∷ zeros 3 ++ 0xf4 ∷ 0xff ∷ 0xff ∷ 0xff ∷ []) 16 4

abbrev pub ring : Shape
ring = named 0 4 four

abbrev pub ring_names : Bool → Names
ring_names cyclic = (0, shared cyclic (sized ring)) ∷ []

abbrev pub ring_bytes : List ℕ
ring_bytes = zeros 4 ++ 0xfc ∷ 0xff ∷ 0xff ∷ 0xff ∷ []

abbrev pub LoopOfAFlavorWithCycles : Type 0
LoopOfAFlavorWithCycles = HoldsAtRoot (ring_names true) ring ring_bytes 8 4 (counted 0 (back 0)) (region 0 4 4 1 ∷ region 4 4 4 0 ∷ [])

abbrev pub LoopOfAFlavorWithoutCycles : Type 0
LoopOfAFlavorWithoutCycles = HoldsNothing (ring_names false) ring ring_bytes 8 4
