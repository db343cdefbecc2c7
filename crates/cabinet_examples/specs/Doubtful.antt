-- Documents that no writer makes, since the layout allows keys that repeat, tags of other keys and any padding; and the
-- empty buffer.
use Rattle.std.specs.Prelude.{ℕ, List, [], ◌∷◌, ◌++◌}
use Rattle.cabinet_examples.specs.Node.{node_shape, node_names}
use Rattle.cabinet_examples.specs.Pieces.{times, zeros, filler, inline, number_node, item_of, region}
use Rattle.cabinet_examples.specs.Root.{HoldsNothing}
use Rattle.cabinet_examples.specs.Documents.{HoldsDocument, number_value, ordered_value, hashed_value}

-- ---- one key twice

abbrev pub repeated_ordered_bytes : List ℕ
repeated_ordered_bytes =
    zeros 4 ++ inline "a" ++ inline "a" ++ zeros 28
    ++ number_node 1 ++ number_node 2
    ++ zeros 72 ++ 0x02 ∷ zeros 7
    ++ 0x06 ∷ zeros 3 ++ 0x4c ∷ 0xff ∷ 0xff ∷ 0xff ∷ 0x02 ∷ zeros 15

abbrev pub OrderedMapWithARepeatedKey : Type 0
OrderedMapWithARepeatedKey =
    HoldsDocument repeated_ordered_bytes 200 176
    (ordered_value (item_of "a" (number_value 1) ∷ item_of "a" (number_value 2) ∷ []))
    (region 0 176 8 1 ∷ region 176 24 8 0 ∷ [])

abbrev pub repeated_hashed_bytes : List ℕ
repeated_hashed_bytes =
    inline "a" ++ number_node 1
    ++ zeros 32
    ++ inline "a" ++ number_node 2
    ++ 0x55 ∷ 0xff ∷ 0x55 ∷ 0x55 ∷ 0xff ∷ 0x55 ∷ filler 25 ++ zeros 1
    ++ 0x07 ∷ zeros 3 ++ 0xdc ∷ 0xff ∷ 0xff ∷ 0xff ∷ 0x02 ∷ zeros 3 ++ 0x03 ∷ zeros 3 ++ zeros 8

-- the items are in the order of their places, bucket 0 last in the buffer
abbrev pub HashedMapWithARepeatedKey : Type 0
HashedMapWithARepeatedKey =
    HoldsDocument repeated_hashed_bytes 152 128
    (hashed_value (item_of "a" (number_value 2) ∷ item_of "a" (number_value 1) ∷ []))
    (region 0 127 8 1 ∷ region 128 24 8 0 ∷ [])

-- ---- a tag that is not the key's

abbrev pub other_tag_bytes : List ℕ
other_tag_bytes =
    inline "a" ++ number_node 1
    ++ zeros 32
    ++ 0xff ∷ 0x54 ∷ 0xff ∷ 0x54 ∷ filler 27 ++ zeros 1
    ++ 0x07 ∷ zeros 3 ++ 0xdc ∷ 0xff ∷ 0xff ∷ 0xff ∷ 0x01 ∷ zeros 3 ++ 0x02 ∷ zeros 3 ++ zeros 8

abbrev pub HashedMapWithAnotherTag : Type 0
HashedMapWithAnotherTag =
    HoldsDocument other_tag_bytes 120 96
    (hashed_value (item_of "a" (number_value 1) ∷ []))
    (region 0 95 8 1 ∷ region 96 24 8 0 ∷ [])

-- ---- bytes that belong to no field may have any value, and so may those after the root, which are fewer than its
-- alignment

abbrev pub padded_bytes : List ℕ
padded_bytes =
    zeros 4 ++ inline "coffee" ++ inline "tea" ++ zeros 28
    ++ 0x01 ∷ zeros 7 ++ 0x2c ∷ 0x01 ∷ zeros 14
    ++ number_node 0xfa
    ++ zeros 72 ++ 0x02 ∷ zeros 7
    ++ 0x06 ∷ zeros 3 ++ 0x4c ∷ 0xff ∷ 0xff ∷ 0xff ∷ 0x02 ∷ zeros 3 ++ times 12 0xaa ++ times 7 0xbb

abbrev pub OrderedMapWithPadding : Type 0
OrderedMapWithPadding =
    HoldsDocument padded_bytes 207 176
    (ordered_value (item_of "coffee" (number_value 300) ∷ item_of "tea" (number_value 250) ∷ []))
    (region 0 176 8 1 ∷ region 176 24 8 0 ∷ [])

-- ---- the empty buffer

abbrev pub EmptyBuffer : Type 0
EmptyBuffer = HoldsNothing node_names node_shape [] 0 0
