-- Documents that are written out, with the values that they hold and the regions that they claim.
use Rattle.std.specs.Prelude.{ℕ, zero, suc, ◌+◌, true, List, [], ◌∷◌, ◌++◌, codes, pos}
use Prim.Native.String.{String}
use Rattle.archive_shape_layout.specs.Value.{Value}
use Rattle.archive_shape_layout.specs.Value.Value.{integer, boolean, string, chosen, counted}
use Rattle.archive_shape_layout.specs.Holds.{Region}
use Rattle.cabinet_examples.specs.Node.{node_shape, node_names}
use Rattle.cabinet_examples.specs.Pieces.{zeros, filler, inline, number_node, values, group_of, item_of, region}
use Rattle.cabinet_examples.specs.Root.{HoldsAtRoot}

-- a buffer of a size has a document node at a position
abbrev pub HoldsDocument : List ℕ → ℕ → ℕ → Value → List Region → Type 0
HoldsDocument = HoldsAtRoot node_names node_shape

-- ---- the values of nodes, by their tags

abbrev pub truth_value : Value
truth_value = chosen 0 (values (boolean true ∷ []))

abbrev pub number_value : ℕ → Value
number_value n = chosen 1 (values (integer (pos n) ∷ []))

abbrev pub text_value : String → Value
text_value s = chosen 2 (values (string (codes s) ∷ []))

abbrev pub shared_value : ℕ → String → Value
shared_value at s = chosen 3 (values (counted at (string (codes s)) ∷ []))

abbrev pub no_value : Value
no_value = chosen 4 (values (chosen 0 (values []) ∷ []))

abbrev pub some_value : Value → Value
some_value v = chosen 4 (values (chosen 1 (values (v ∷ [])) ∷ []))

abbrev pub list_value : List Value → Value
list_value vs = chosen 5 (values (group_of vs ∷ []))

abbrev pub ordered_value : List Value → Value
ordered_value items = chosen 6 (values (group_of items ∷ []))

abbrev pub hashed_value : List Value → Value
hashed_value items = chosen 7 (values (group_of items ∷ []))

abbrev pub kept_value : List Value → Value
kept_value items = chosen 8 (values (group_of items ∷ []))

abbrev pub whole_value : ℕ → Value → Value
whole_value at v = chosen 9 (values (counted at v ∷ []))

-- ---- a number

abbrev pub number_bytes : List ℕ
number_bytes = 0x01 ∷ zeros 7 ++ 0x05 ∷ zeros 7 ++ zeros 8

abbrev pub NumberAtTheRoot : Type 0
NumberAtTheRoot = HoldsDocument number_bytes 24 0 (number_value 5) (region 0 24 8 0 ∷ [])

-- ---- a truth value

abbrev pub truth_bytes : List ℕ
truth_bytes = 0x00 ∷ 0x01 ∷ zeros 22

abbrev pub TruthAtTheRoot : Type 0
TruthAtTheRoot = HoldsDocument truth_bytes 24 0 truth_value (region 0 24 8 0 ∷ [])

-- ---- a long text: its bytes, its length and the offset from the text to them

abbrev pub long_text_bytes : List ℕ
long_text_bytes =
    codes "hello world!" ++ zeros 4
    ++ 0x02 ∷ zeros 3 ++ 0x8c ∷ 0x00 ∷ 0x00 ∷ 0x00 ∷ 0xec ∷ 0xff ∷ 0xff ∷ 0xff ∷ zeros 12

abbrev pub LongTextAtTheRoot : Type 0
LongTextAtTheRoot = HoldsDocument long_text_bytes 40 16 (text_value "hello world!") (region 0 12 1 1 ∷ region 16 24 8 0 ∷ [])

-- ---- an option of nothing, and one of a number

abbrev pub nothing_bytes : List ℕ
nothing_bytes = 0x04 ∷ zeros 23

abbrev pub NothingAtTheRoot : Type 0
NothingAtTheRoot = HoldsDocument nothing_bytes 24 0 no_value (region 0 24 8 0 ∷ [])

abbrev pub some_number_bytes : List ℕ
some_number_bytes =
    number_node 5
    ++ 0x04 ∷ zeros 3 ++ 0x01 ∷ zeros 3 ++ 0xe0 ∷ 0xff ∷ 0xff ∷ 0xff ∷ zeros 12

abbrev pub SomeNumber : Type 0
SomeNumber = HoldsDocument some_number_bytes 48 24 (some_value (number_value 5)) (region 0 24 8 1 ∷ region 24 24 8 0 ∷ [])

-- ---- sixty-four options round a number: each leads to the node before it

abbrev pub options : ℕ → List ℕ
options zero = number_node 1
options (suc n) = options n ++ 0x04 ∷ zeros 3 ++ 0x01 ∷ zeros 3 ++ 0xe0 ∷ 0xff ∷ 0xff ∷ 0xff ∷ zeros 12

abbrev pub options_value : ℕ → Value
options_value zero = number_value 1
options_value (suc n) = some_value (options_value n)

-- with n options round the node at a position
abbrev pub options_regions : ℕ → ℕ → List Region
options_regions at zero = region at 24 8 0 ∷ []
options_regions at (suc n) = region at 24 8 (suc n) ∷ options_regions (at + 24) n

abbrev pub SixtyFourOptions : Type 0
SixtyFourOptions = HoldsDocument (options 64) 1560 1536 (options_value 64) (options_regions 0 64)

-- ---- an empty list points at its own root, and claims no byte there

abbrev pub empty_list_bytes : List ℕ
empty_list_bytes = 0x05 ∷ zeros 3 ++ 0xfc ∷ 0xff ∷ 0xff ∷ 0xff ∷ zeros 16

abbrev pub EmptyList : Type 0
EmptyList = HoldsDocument empty_list_bytes 24 0 (list_value []) (region 0 0 8 1 ∷ region 0 24 8 0 ∷ [])

-- ---- a shared text that a list holds twice is written once, and is claimed at its first visit

abbrev pub shared_text_bytes : List ℕ
shared_text_bytes =
    codes "hello world!" ++ zeros 4
    ++ 0x03 ∷ zeros 3 ++ 0xec ∷ 0xff ∷ 0xff ∷ 0xff ∷ 0x0c ∷ zeros 15
    ++ 0x03 ∷ zeros 3 ++ 0xd4 ∷ 0xff ∷ 0xff ∷ 0xff ∷ 0x0c ∷ zeros 15
    ++ 0x05 ∷ zeros 3 ++ 0xcc ∷ 0xff ∷ 0xff ∷ 0xff ∷ 0x02 ∷ zeros 15

abbrev pub SharedTextTwice : Type 0
SharedTextTwice =
    HoldsDocument shared_text_bytes 88 64
    (list_value (shared_value 0 "hello world!" ∷ shared_value 0 "hello world!" ∷ []))
    (region 0 12 1 2 ∷ region 16 48 8 1 ∷ region 64 24 8 0 ∷ [])

-- the same with an empty text, and a zero byte after it

abbrev pub empty_shared_text_bytes : List ℕ
empty_shared_text_bytes =
    zeros 8
    ++ 0x03 ∷ zeros 3 ++ 0xf4 ∷ 0xff ∷ 0xff ∷ 0xff ∷ zeros 16
    ++ 0x03 ∷ zeros 3 ++ 0xdc ∷ 0xff ∷ 0xff ∷ 0xff ∷ zeros 16
    ++ 0x05 ∷ zeros 3 ++ 0xcc ∷ 0xff ∷ 0xff ∷ 0xff ∷ 0x02 ∷ zeros 15

abbrev pub EmptySharedTextTwice : Type 0
EmptySharedTextTwice =
    HoldsDocument empty_shared_text_bytes 80 56
    (list_value (shared_value 0 "" ∷ shared_value 0 "" ∷ []))
    (region 0 0 1 2 ∷ region 8 48 8 1 ∷ region 56 24 8 0 ∷ [])

-- ---- a whole that a list holds twice is written once too, and is claimed at its first visit

abbrev pub whole_bytes : List ℕ
whole_bytes =
    number_node 5
    ++ 0x09 ∷ zeros 3 ++ 0xe4 ∷ 0xff ∷ 0xff ∷ 0xff ∷ zeros 16
    ++ 0x09 ∷ zeros 3 ++ 0xcc ∷ 0xff ∷ 0xff ∷ 0xff ∷ zeros 16
    ++ 0x05 ∷ zeros 3 ++ 0xcc ∷ 0xff ∷ 0xff ∷ 0xff ∷ 0x02 ∷ zeros 15

abbrev pub WholeTwice : Type 0
WholeTwice =
    HoldsDocument whole_bytes 96 72
    (list_value (whole_value 0 (number_value 5) ∷ whole_value 0 (number_value 5) ∷ []))
    (region 0 24 8 2 ∷ region 24 48 8 1 ∷ region 72 24 8 0 ∷ [])

-- ---- an ordered map of two numbers: a leaf, with keys at 4, values at 48 and its length at 168

abbrev pub two_ordered_bytes : List ℕ
two_ordered_bytes =
    zeros 4 ++ inline "coffee" ++ inline "tea" ++ zeros 28
    ++ 0x01 ∷ zeros 7 ++ 0x2c ∷ 0x01 ∷ zeros 14
    ++ number_node 0xfa
    ++ zeros 72 ++ 0x02 ∷ zeros 7
    ++ 0x06 ∷ zeros 3 ++ 0x4c ∷ 0xff ∷ 0xff ∷ 0xff ∷ 0x02 ∷ zeros 15

abbrev pub OrderedMapOfTwo : Type 0
OrderedMapOfTwo =
    HoldsDocument two_ordered_bytes 200 176
    (ordered_value (item_of "coffee" (number_value 300) ∷ item_of "tea" (number_value 250) ∷ []))
    (region 0 176 8 1 ∷ region 176 24 8 0 ∷ [])

-- ---- an ordered map of six: a leaf of one entry, and an inner node of five entries that has it as its first child

abbrev pub six_ordered_bytes : List ℕ
six_ordered_bytes =
    zeros 4 ++ inline "a" ++ zeros 36
    ++ number_node 1 ++ zeros 96 ++ 0x01 ∷ zeros 7
    ++ 0x01 ∷ zeros 3 ++ inline "b" ++ inline "c" ++ inline "d" ++ inline "e" ++ inline "f" ++ zeros 4
    ++ number_node 2 ++ number_node 3 ++ number_node 4 ++ number_node 5 ++ number_node 6
    ++ 0xa8 ∷ 0xfe ∷ 0xff ∷ 0xff ∷ 0x01 ∷ zeros 3
    ++ 0x01 ∷ zeros 3 ++ 0x01 ∷ zeros 3 ++ 0x01 ∷ zeros 3 ++ 0x01 ∷ zeros 3
    ++ 0x06 ∷ zeros 3 ++ 0x3c ∷ 0xff ∷ 0xff ∷ 0xff ∷ 0x06 ∷ zeros 15

abbrev pub OrderedMapOfSix : Type 0
OrderedMapOfSix =
    HoldsDocument six_ordered_bytes 392 368
    (ordered_value
    (item_of "a" (number_value 1) ∷ item_of "b" (number_value 2) ∷ item_of "c" (number_value 3)
    ∷ item_of "d" (number_value 4) ∷ item_of "e" (number_value 5) ∷ item_of "f" (number_value 6) ∷ []))
    (region 0 176 8 2 ∷ region 176 192 8 1 ∷ region 368 24 8 0 ∷ [])

-- ---- an inner node whose one child, the greater one, is a leaf without entries

abbrev pub empty_leaf_bytes : List ℕ
empty_leaf_bytes =
    zeros 176
    ++ 0x01 ∷ zeros 3 ++ inline "a" ++ inline "b" ++ inline "c" ++ inline "d" ++ inline "e" ++ zeros 4
    ++ number_node 1 ++ number_node 2 ++ number_node 3 ++ number_node 4 ++ number_node 5
    ++ 0x01 ∷ zeros 3 ++ 0x01 ∷ zeros 3 ++ 0x01 ∷ zeros 3 ++ 0x01 ∷ zeros 3 ++ 0x01 ∷ zeros 3
    ++ 0x94 ∷ 0xfe ∷ 0xff ∷ 0xff ∷ []
    ++ 0x06 ∷ zeros 3 ++ 0x3c ∷ 0xff ∷ 0xff ∷ 0xff ∷ 0x05 ∷ zeros 15

abbrev pub OrderedMapWithAnEmptyLeaf : Type 0
OrderedMapWithAnEmptyLeaf =
    HoldsDocument empty_leaf_bytes 392 368
    (ordered_value
    (item_of "a" (number_value 1) ∷ item_of "b" (number_value 2) ∷ item_of "c" (number_value 3)
    ∷ item_of "d" (number_value 4) ∷ item_of "e" (number_value 5) ∷ []))
    (region 0 176 8 2 ∷ region 176 192 8 1 ∷ region 368 24 8 0 ∷ [])

-- ---- a hashed map of one text: bucket 1 at 0, bucket 0, the controls at 64, of which 1 and 3 show the tag

abbrev pub one_hashed_bytes : List ℕ
one_hashed_bytes =
    inline "a" ++ 0x02 ∷ zeros 3 ++ inline "world" ++ zeros 12
    ++ zeros 32
    ++ 0xff ∷ 0x55 ∷ 0xff ∷ 0x55 ∷ filler 27 ++ zeros 1
    ++ 0x07 ∷ zeros 3 ++ 0xdc ∷ 0xff ∷ 0xff ∷ 0xff ∷ 0x01 ∷ zeros 3 ++ 0x02 ∷ zeros 3 ++ zeros 8

abbrev pub HashedMapOfOne : Type 0
HashedMapOfOne =
    HoldsDocument one_hashed_bytes 120 96
    (hashed_value (item_of "a" (text_value "world") ∷ []))
    (region 0 95 8 1 ∷ region 96 24 8 0 ∷ [])

-- ---- a list in a hashed map in an ordered map: the elements at 0, the table at 48, the leaf at 144

abbrev pub nested_bytes : List ℕ
nested_bytes =
    number_node 7 ++ number_node 0x13
    ++ zeros 32
    ++ inline "vat" ++ 0x05 ∷ zeros 3 ++ 0xa4 ∷ 0xff ∷ 0xff ∷ 0xff ∷ 0x02 ∷ zeros 15
    ++ 0x1c ∷ 0xff ∷ 0x1c ∷ 0xff ∷ filler 27 ++ zeros 1
    ++ zeros 4 ++ inline "eu" ++ zeros 36
    ++ 0x07 ∷ zeros 3 ++ 0xac ∷ 0xff ∷ 0xff ∷ 0xff ∷ 0x01 ∷ zeros 3 ++ 0x02 ∷ zeros 3 ++ zeros 8
    ++ zeros 96 ++ 0x01 ∷ zeros 7
    ++ 0x06 ∷ zeros 3 ++ 0x4c ∷ 0xff ∷ 0xff ∷ 0xff ∷ 0x01 ∷ zeros 15

abbrev pub ListInAMapInAMap : Type 0
ListInAMapInAMap =
    HoldsDocument nested_bytes 344 320
    (ordered_value (item_of "eu" (hashed_value (item_of "vat" (list_value (number_value 7 ∷ number_value 19 ∷ [])) ∷ [])) ∷ []))
    (region 0 48 8 3 ∷ region 48 95 8 2 ∷ region 144 176 8 1 ∷ region 320 24 8 0 ∷ [])

-- ---- a map that keeps its order: three places of four bytes, the controls at 12, the entries at 48

abbrev pub two_kept_bytes : List ℕ
two_kept_bytes =
    0x01 ∷ zeros 3 ++ 0x00 ∷ zeros 3 ++ zeros 4
    ++ 0xff ∷ 0x11 ∷ 0x55 ∷ 0xff ∷ 0x11 ∷ 0x55 ∷ filler 25 ++ zeros 5
    ++ inline "z" ++ number_node 1
    ++ inline "a" ++ number_node 2
    ++ 0x08 ∷ zeros 3 ++ 0x98 ∷ 0xff ∷ 0xff ∷ 0xff ∷ 0x02 ∷ zeros 3 ++ 0x03 ∷ zeros 3 ++ 0xb0 ∷ 0xff ∷ 0xff ∷ 0xff ∷ zeros 4

abbrev pub KeptMapOfTwo : Type 0
KeptMapOfTwo =
    HoldsDocument two_kept_bytes 136 112
    (kept_value (item_of "z" (number_value 1) ∷ item_of "a" (number_value 2) ∷ []))
    (region 0 43 4 1 ∷ region 48 64 8 1 ∷ region 112 24 8 0 ∷ [])

-- an empty one has no pointers

abbrev pub empty_kept_bytes : List ℕ
empty_kept_bytes = 0x08 ∷ zeros 3 ++ 0x01 ∷ zeros 3 ++ zeros 8 ++ 0x01 ∷ zeros 3 ++ zeros 4

abbrev pub EmptyKeptMap : Type 0
EmptyKeptMap = HoldsDocument empty_kept_bytes 24 0 (kept_value []) (region 0 24 8 0 ∷ [])
