-- Documents that the layout accepts, and that writing makes of no value.
use Rattle.std.specs.Prelude.{ℕ, List, [], ◌∷◌, ◌++◌, codes}
use Rattle.archive_shape_layout.specs.Value.{Value}
use Rattle.archive_shape_layout.specs.Holds.{Region, Visit}
use Rattle.cabinet_examples.specs.Pieces.{zeros, filler, inline, number_node, item_of, region}
use Rattle.cabinet_examples.specs.Documents.{HoldsDocument, number_value, text_value, shared_value, some_value, list_value, ordered_value, hashed_value, kept_value, number_bytes, empty_leaf_bytes}
use Rattle.cabinet_examples.specs.Canonical.{IsArchive, five_ordered_value, six_ordered_value}

-- a buffer of a size has a document node at a position, and is the one archive of no node there
pub record IsSpoilt (bytes : List ℕ) (size pos : ℕ) (v : Value) (regions : List Region) : Type 0 where
  pub accepted : HoldsDocument bytes size pos v regions
  pub not_canonical : (w : Value) (rs : List Region) (visits : List Visit) → IsArchive bytes pos w rs visits → ⊥

-- ---- bytes without a meaning

-- the byte after the tag of a number is not zero

abbrev pub marked_padding_bytes : List ℕ
marked_padding_bytes = 0x01 ∷ 0xaa ∷ zeros 6 ++ 0x05 ∷ zeros 7 ++ zeros 8

abbrev pub MarkedPadding : Type 0
MarkedPadding = IsSpoilt marked_padding_bytes 24 0 (number_value 5) (region 0 24 8 0 ∷ [])

-- the third key of a leaf of two is not zero

abbrev pub marked_slot_bytes : List ℕ
marked_slot_bytes =
    zeros 4 ++ inline "coffee" ++ inline "tea" ++ 0xaa ∷ zeros 27
    ++ 0x01 ∷ zeros 7 ++ 0x2c ∷ 0x01 ∷ zeros 14
    ++ number_node 0xfa
    ++ zeros 72 ++ 0x02 ∷ zeros 7
    ++ 0x06 ∷ zeros 3 ++ 0x4c ∷ 0xff ∷ 0xff ∷ 0xff ∷ 0x02 ∷ zeros 15

abbrev pub MarkedSlot : Type 0
MarkedSlot =
    IsSpoilt marked_slot_bytes 200 176
    (ordered_value (item_of "coffee" (number_value 300) ∷ item_of "tea" (number_value 250) ∷ []))
    (region 0 176 8 1 ∷ region 176 24 8 0 ∷ [])

-- the first place of a hashed map of one is empty, and is not zero

abbrev pub marked_bucket_bytes : List ℕ
marked_bucket_bytes =
    inline "a" ++ 0x02 ∷ zeros 3 ++ inline "world" ++ zeros 12
    ++ 0xaa ∷ zeros 31
    ++ 0xff ∷ 0x55 ∷ 0xff ∷ 0x55 ∷ filler 27 ++ zeros 1
    ++ 0x07 ∷ zeros 3 ++ 0xdc ∷ 0xff ∷ 0xff ∷ 0xff ∷ 0x01 ∷ zeros 3 ++ 0x02 ∷ zeros 3 ++ zeros 8

abbrev pub MarkedBucket : Type 0
MarkedBucket = IsSpoilt marked_bucket_bytes 120 96 (hashed_value (item_of "a" (text_value "world") ∷ [])) (region 0 95 8 1 ∷ region 96 24 8 0 ∷ [])

-- ---- bytes that have the same meaning with other values

-- the filler after the end of an inline text

abbrev pub other_filler_bytes : List ℕ
other_filler_bytes = 0x02 ∷ zeros 3 ++ codes "world" ++ 0xff ∷ 0xfe ∷ 0xff ∷ zeros 12

abbrev pub OtherFiller : Type 0
OtherFiller = IsSpoilt other_filler_bytes 24 0 (text_value "world") (region 0 24 8 0 ∷ [])

-- the control of an empty place

abbrev pub other_control_bytes : List ℕ
other_control_bytes =
    inline "a" ++ 0x02 ∷ zeros 3 ++ inline "world" ++ zeros 12
    ++ zeros 32
    ++ 0xfe ∷ 0x55 ∷ 0xfe ∷ 0x55 ∷ filler 27 ++ zeros 1
    ++ 0x07 ∷ zeros 3 ++ 0xdc ∷ 0xff ∷ 0xff ∷ 0xff ∷ 0x01 ∷ zeros 3 ++ 0x02 ∷ zeros 3 ++ zeros 8

abbrev pub OtherControl : Type 0
OtherControl = IsSpoilt other_control_bytes 120 96 (hashed_value (item_of "a" (text_value "world") ∷ [])) (region 0 95 8 1 ∷ region 96 24 8 0 ∷ [])

-- the capacity of a map without entries

abbrev pub room_for_nothing_bytes : List ℕ
room_for_nothing_bytes = 0x08 ∷ zeros 3 ++ 0x01 ∷ zeros 3 ++ zeros 4 ++ 0x01 ∷ zeros 3 ++ 0x01 ∷ zeros 3 ++ zeros 4

abbrev pub RoomForNothing : Type 0
RoomForNothing = IsSpoilt room_for_nothing_bytes 24 0 (kept_value []) (region 0 24 8 0 ∷ [])

-- the offset of a tree without entries

abbrev pub offset_to_nothing_bytes : List ℕ
offset_to_nothing_bytes = 0x06 ∷ zeros 23

abbrev pub OffsetToNothing : Type 0
OffsetToNothing = IsSpoilt offset_to_nothing_bytes 24 0 (ordered_value []) (region 0 24 8 0 ∷ [])

-- ---- positions

-- eight zero bytes before the root, and before what it points to

abbrev pub gap_before_root_bytes : List ℕ
gap_before_root_bytes = number_node 5 ++ zeros 8 ++ 0x04 ∷ zeros 3 ++ 0x01 ∷ zeros 3 ++ 0xd8 ∷ 0xff ∷ 0xff ∷ 0xff ∷ zeros 12

abbrev pub GapBeforeRoot : Type 0
GapBeforeRoot = IsSpoilt gap_before_root_bytes 56 32 (some_value (number_value 5)) (region 0 24 8 1 ∷ region 32 24 8 0 ∷ [])

abbrev pub gap_before_box_bytes : List ℕ
gap_before_box_bytes = zeros 8 ++ number_node 5 ++ 0x04 ∷ zeros 3 ++ 0x01 ∷ zeros 3 ++ 0xe0 ∷ 0xff ∷ 0xff ∷ 0xff ∷ zeros 12

abbrev pub GapBeforeBox : Type 0
GapBeforeBox = IsSpoilt gap_before_box_bytes 56 32 (some_value (number_value 5)) (region 8 24 8 1 ∷ region 32 24 8 0 ∷ [])

-- a byte after the root

abbrev pub byte_behind_root_bytes : List ℕ
byte_behind_root_bytes = number_bytes ++ zeros 1

abbrev pub ByteBehindRoot : Type 0
ByteBehindRoot = IsSpoilt byte_behind_root_bytes 25 0 (number_value 5) (region 0 24 8 0 ∷ [])

-- a shared text is written twice, at 0 and at 12

abbrev pub text_standing_twice_bytes : List ℕ
text_standing_twice_bytes =
    codes "hello world!" ++ codes "hello world!"
    ++ 0x03 ∷ zeros 3 ++ 0xe4 ∷ 0xff ∷ 0xff ∷ 0xff ∷ 0x0c ∷ zeros 15
    ++ 0x03 ∷ zeros 3 ++ 0xd8 ∷ 0xff ∷ 0xff ∷ 0xff ∷ 0x0c ∷ zeros 15
    ++ 0x05 ∷ zeros 3 ++ 0xcc ∷ 0xff ∷ 0xff ∷ 0xff ∷ 0x02 ∷ zeros 15

abbrev pub TextStandingTwice : Type 0
TextStandingTwice =
    IsSpoilt text_standing_twice_bytes 96 72
    (list_value (shared_value 0 "hello world!" ∷ shared_value 12 "hello world!" ∷ []))
    (region 0 12 1 2 ∷ region 12 12 1 2 ∷ region 24 48 8 1 ∷ region 72 24 8 0 ∷ [])

-- ---- what the layout leaves open

-- of six entries the last is in the leaf that the greater pointer leads to: the first child should be filled first

abbrev pub leaf_on_the_right_bytes : List ℕ
leaf_on_the_right_bytes =
    zeros 4 ++ inline "f" ++ zeros 36
    ++ number_node 6 ++ zeros 96 ++ 0x01 ∷ zeros 7
    ++ 0x01 ∷ zeros 3 ++ inline "a" ++ inline "b" ++ inline "c" ++ inline "d" ++ inline "e" ++ zeros 4
    ++ number_node 1 ++ number_node 2 ++ number_node 3 ++ number_node 4 ++ number_node 5
    ++ 0x01 ∷ zeros 3 ++ 0x01 ∷ zeros 3 ++ 0x01 ∷ zeros 3 ++ 0x01 ∷ zeros 3 ++ 0x01 ∷ zeros 3
    ++ 0x94 ∷ 0xfe ∷ 0xff ∷ 0xff ∷ []
    ++ 0x06 ∷ zeros 3 ++ 0x3c ∷ 0xff ∷ 0xff ∷ 0xff ∷ 0x06 ∷ zeros 15

abbrev pub LeafOnTheRight : Type 0
LeafOnTheRight = IsSpoilt leaf_on_the_right_bytes 392 368 six_ordered_value (region 0 176 8 2 ∷ region 176 192 8 1 ∷ region 368 24 8 0 ∷ [])

-- five entries are in an inner node, above a leaf of none: they should be one leaf

abbrev pub LeafOfNone : Type 0
LeafOfNone = IsSpoilt empty_leaf_bytes 392 368 five_ordered_value (region 0 176 8 2 ∷ region 176 192 8 1 ∷ region 368 24 8 0 ∷ [])

-- the item of a hashed map of one is in the first place, which is not that of its hash

abbrev pub other_place_bytes : List ℕ
other_place_bytes =
    zeros 32
    ++ inline "a" ++ 0x02 ∷ zeros 3 ++ inline "world" ++ zeros 12
    ++ 0x55 ∷ 0xff ∷ 0x55 ∷ 0xff ∷ filler 27 ++ zeros 1
    ++ 0x07 ∷ zeros 3 ++ 0xdc ∷ 0xff ∷ 0xff ∷ 0xff ∷ 0x01 ∷ zeros 3 ++ 0x02 ∷ zeros 3 ++ zeros 8

abbrev pub OtherPlace : Type 0
OtherPlace = IsSpoilt other_place_bytes 120 96 (hashed_value (item_of "a" (text_value "world") ∷ [])) (region 0 95 8 1 ∷ region 96 24 8 0 ∷ [])

-- likewise in a map of two that keeps its order, where the first entry's number is in the first place

abbrev pub other_kept_place_bytes : List ℕ
other_kept_place_bytes =
    0x01 ∷ zeros 3 ++ zeros 4 ++ 0x00 ∷ zeros 3
    ++ 0x11 ∷ 0xff ∷ 0x55 ∷ 0x11 ∷ 0xff ∷ 0x55 ∷ filler 25 ++ zeros 5
    ++ inline "z" ++ number_node 1
    ++ inline "a" ++ number_node 2
    ++ 0x08 ∷ zeros 3 ++ 0x98 ∷ 0xff ∷ 0xff ∷ 0xff ∷ 0x02 ∷ zeros 3 ++ 0x03 ∷ zeros 3 ++ 0xb0 ∷ 0xff ∷ 0xff ∷ 0xff ∷ zeros 4

abbrev pub OtherKeptPlace : Type 0
OtherKeptPlace =
    IsSpoilt other_kept_place_bytes 136 112
    (kept_value (item_of "z" (number_value 1) ∷ item_of "a" (number_value 2) ∷ []))
    (region 0 43 4 1 ∷ region 48 64 8 1 ∷ region 112 24 8 0 ∷ [])

-- the tag of a hashed map of one is that of another hash

abbrev pub wrong_tag_bytes : List ℕ
wrong_tag_bytes =
    inline "a" ++ 0x02 ∷ zeros 3 ++ inline "world" ++ zeros 12
    ++ zeros 32
    ++ 0xff ∷ 0x54 ∷ 0xff ∷ 0x54 ∷ filler 27 ++ zeros 1
    ++ 0x07 ∷ zeros 3 ++ 0xdc ∷ 0xff ∷ 0xff ∷ 0xff ∷ 0x01 ∷ zeros 3 ++ 0x02 ∷ zeros 3 ++ zeros 8

abbrev pub WrongTag : Type 0
WrongTag = IsSpoilt wrong_tag_bytes 120 96 (hashed_value (item_of "a" (text_value "world") ∷ [])) (region 0 95 8 1 ∷ region 96 24 8 0 ∷ [])

-- a hashed map of one has three places, of which its key has the one of its hash

abbrev pub room_to_spare_bytes : List ℕ
room_to_spare_bytes =
    inline "a" ++ 0x02 ∷ zeros 3 ++ inline "world" ++ zeros 12
    ++ zeros 64
    ++ 0xff ∷ 0xff ∷ 0x55 ∷ 0xff ∷ 0xff ∷ 0x55 ∷ filler 25 ++ zeros 1
    ++ 0x07 ∷ zeros 3 ++ 0xdc ∷ 0xff ∷ 0xff ∷ 0xff ∷ 0x01 ∷ zeros 3 ++ 0x03 ∷ zeros 3 ++ zeros 8

abbrev pub RoomToSpare : Type 0
RoomToSpare = IsSpoilt room_to_spare_bytes 152 128 (hashed_value (item_of "a" (text_value "world") ∷ [])) (region 0 127 8 1 ∷ region 128 24 8 0 ∷ [])
