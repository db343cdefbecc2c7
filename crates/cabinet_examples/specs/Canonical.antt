-- Worked documents whose bytes are the one archive of their value, and the hashes that place their keys.
use Rattle.std.specs.Prelude.{◌≡◌, ℕ, List, [], ◌∷◌, ◌++◌, codes}
use Prim.Native.String.{String}
use Rattle.archive_shape_layout.specs.Shape.Pointee.{sized, str}
use Rattle.archive_shape_layout.specs.Value.{Value}
use Rattle.archive_shape_layout.specs.Value.Value.{string}
use Rattle.archive_shape_layout.specs.Holds.{Region, Visit}
use Rattle.archive_shape_canonical.specs.FirstFit.{first_fit}
use Rattle.archive_shape_canonical.specs.Canonical.{CanonicalArchive}
use Rattle.archive_shape_canonical.specs.Hash.{text_hash}
use Rattle.cabinet_examples.specs.Node.{node_shape, node_names}
use Rattle.cabinet_examples.specs.Pieces.{zeros, filler, inline, number_node, item_of, region}
use Rattle.cabinet_examples.specs.Documents.{number_value, truth_value, text_value, shared_value, no_value, some_value, list_value, ordered_value, hashed_value, kept_value, whole_value, number_bytes, truth_bytes, nothing_bytes, some_number_bytes, empty_list_bytes, long_text_bytes, shared_text_bytes, empty_shared_text_bytes, whole_bytes, two_ordered_bytes, six_ordered_bytes, one_hashed_bytes, nested_bytes, two_kept_bytes, empty_kept_bytes}

-- bytes are the one archive of the document node that they have at a position, with the regions that it claims and the
-- shared values that it leads to
abbrev pub IsArchive : List ℕ → ℕ → Value → List Region → List Visit → Type 0
IsArchive bytes pos v regions visits = CanonicalArchive (first_fit text_hash) node_names bytes 0 pos node_shape v regions visits

-- a shared text at a position
abbrev pub text_visit : ℕ → ℕ → String → Visit
text_visit at len s = record { pos = at; pointee = str; len = len; value = string (codes s) }

-- the node of a whole at a position
abbrev pub node_visit : ℕ → Value → Visit
node_visit at v = record { pos = at; pointee = sized node_shape; len = 1; value = v }

-- ---- hashes

abbrev pub HashOfA : Type 0
HashOfA = text_hash (codes "a") ≡ 0xaa44c3c5b8e22aff

abbrev pub HashOfNothing : Type 0
HashOfNothing = text_hash [] ≡ 0x2b44f56ffae88a6b

-- ---- leaves, options and lists

abbrev pub CanonicalNumber : Type 0
CanonicalNumber = IsArchive number_bytes 0 (number_value 5) (region 0 24 8 0 ∷ []) []

abbrev pub CanonicalTruth : Type 0
CanonicalTruth = IsArchive truth_bytes 0 truth_value (region 0 24 8 0 ∷ []) []

abbrev pub CanonicalNothing : Type 0
CanonicalNothing = IsArchive nothing_bytes 0 no_value (region 0 24 8 0 ∷ []) []

abbrev pub CanonicalSomeNumber : Type 0
CanonicalSomeNumber = IsArchive some_number_bytes 24 (some_value (number_value 5)) (region 0 24 8 1 ∷ region 24 24 8 0 ∷ []) []

abbrev pub CanonicalEmptyList : Type 0
CanonicalEmptyList = IsArchive empty_list_bytes 0 (list_value []) (region 0 0 8 1 ∷ region 0 24 8 0 ∷ []) []

abbrev pub CanonicalLongText : Type 0
CanonicalLongText = IsArchive long_text_bytes 16 (text_value "hello world!") (region 0 12 1 1 ∷ region 16 24 8 0 ∷ []) []

-- a text that is inline
abbrev pub short_text_bytes : List ℕ
short_text_bytes = 0x02 ∷ zeros 3 ++ inline "world" ++ zeros 12

abbrev pub CanonicalShortText : Type 0
CanonicalShortText = IsArchive short_text_bytes 0 (text_value "world") (region 0 24 8 0 ∷ []) []

-- ---- shared texts

abbrev pub CanonicalSharedText : Type 0
CanonicalSharedText =
    IsArchive shared_text_bytes 64
    (list_value (shared_value 0 "hello world!" ∷ shared_value 0 "hello world!" ∷ []))
    (region 0 12 1 2 ∷ region 16 48 8 1 ∷ region 64 24 8 0 ∷ [])
    (text_visit 0 12 "hello world!" ∷ [])

abbrev pub CanonicalEmptySharedText : Type 0
CanonicalEmptySharedText =
    IsArchive empty_shared_text_bytes 56
    (list_value (shared_value 0 "" ∷ shared_value 0 "" ∷ []))
    (region 0 0 1 2 ∷ region 8 48 8 1 ∷ region 56 24 8 0 ∷ [])
    (text_visit 0 0 "" ∷ [])

-- ---- wholes

abbrev pub CanonicalWhole : Type 0
CanonicalWhole =
    IsArchive whole_bytes 72
    (list_value (whole_value 0 (number_value 5) ∷ whole_value 0 (number_value 5) ∷ []))
    (region 0 24 8 2 ∷ region 24 48 8 1 ∷ region 72 24 8 0 ∷ [])
    (node_visit 0 (number_value 5) ∷ [])

-- ---- ordered maps

abbrev pub CanonicalOrderedMap : Type 0
CanonicalOrderedMap =
    IsArchive two_ordered_bytes 176
    (ordered_value (item_of "coffee" (number_value 300) ∷ item_of "tea" (number_value 250) ∷ []))
    (region 0 176 8 1 ∷ region 176 24 8 0 ∷ []) []

-- a leaf that is full

abbrev pub five_ordered_bytes : List ℕ
five_ordered_bytes =
    zeros 4 ++ inline "a" ++ inline "b" ++ inline "c" ++ inline "d" ++ inline "e" ++ zeros 4
    ++ number_node 1 ++ number_node 2 ++ number_node 3 ++ number_node 4 ++ number_node 5
    ++ 0x05 ∷ zeros 7
    ++ 0x06 ∷ zeros 3 ++ 0x4c ∷ 0xff ∷ 0xff ∷ 0xff ∷ 0x05 ∷ zeros 15

abbrev pub five_ordered_value : Value
five_ordered_value =
    ordered_value
    (item_of "a" (number_value 1) ∷ item_of "b" (number_value 2) ∷ item_of "c" (number_value 3)
    ∷ item_of "d" (number_value 4) ∷ item_of "e" (number_value 5) ∷ [])

abbrev pub CanonicalLeafOfFive : Type 0
CanonicalLeafOfFive = IsArchive five_ordered_bytes 176 five_ordered_value (region 0 176 8 1 ∷ region 176 24 8 0 ∷ []) []

abbrev pub six_ordered_value : Value
six_ordered_value =
    ordered_value
    (item_of "a" (number_value 1) ∷ item_of "b" (number_value 2) ∷ item_of "c" (number_value 3)
    ∷ item_of "d" (number_value 4) ∷ item_of "e" (number_value 5) ∷ item_of "f" (number_value 6) ∷ [])

-- a tree of two nodes
abbrev pub CanonicalTreeOfSix : Type 0
CanonicalTreeOfSix = IsArchive six_ordered_bytes 368 six_ordered_value (region 0 176 8 2 ∷ region 176 192 8 1 ∷ region 368 24 8 0 ∷ []) []

-- an empty one has no pointer

abbrev pub empty_ordered_bytes : List ℕ
empty_ordered_bytes = 0x06 ∷ zeros 3 ++ 0x01 ∷ zeros 3 ++ zeros 16

abbrev pub CanonicalEmptyOrderedMap : Type 0
CanonicalEmptyOrderedMap = IsArchive empty_ordered_bytes 0 (ordered_value []) (region 0 24 8 0 ∷ []) []

-- ---- hashed maps, and those that keep their order

abbrev pub CanonicalHashedMap : Type 0
CanonicalHashedMap = IsArchive one_hashed_bytes 96 (hashed_value (item_of "a" (text_value "world") ∷ [])) (region 0 95 8 1 ∷ region 96 24 8 0 ∷ []) []

-- the keys a and d both probe place 2 first; d finds it taken and continues with place 0

abbrev pub two_hashed_bytes : List ℕ
two_hashed_bytes =
    inline "a" ++ number_node 1
    ++ zeros 32
    ++ inline "d" ++ number_node 2
    ++ 0x23 ∷ 0xff ∷ 0x55 ∷ 0x23 ∷ 0xff ∷ 0x55 ∷ filler 25 ++ zeros 1
    ++ 0x07 ∷ zeros 3 ++ 0xdc ∷ 0xff ∷ 0xff ∷ 0xff ∷ 0x02 ∷ zeros 3 ++ 0x03 ∷ zeros 3 ++ zeros 8

abbrev pub CanonicalTakenPlace : Type 0
CanonicalTakenPlace =
    IsArchive two_hashed_bytes 128
    (hashed_value (item_of "d" (number_value 2) ∷ item_of "a" (number_value 1) ∷ []))
    (region 0 127 8 1 ∷ region 128 24 8 0 ∷ []) []

abbrev pub CanonicalNestedMaps : Type 0
CanonicalNestedMaps =
    IsArchive nested_bytes 320
    (ordered_value (item_of "eu" (hashed_value (item_of "vat" (list_value (number_value 7 ∷ number_value 19 ∷ [])) ∷ [])) ∷ []))
    (region 0 48 8 3 ∷ region 48 95 8 2 ∷ region 144 176 8 1 ∷ region 320 24 8 0 ∷ []) []

abbrev pub CanonicalKeptMap : Type 0
CanonicalKeptMap =
    IsArchive two_kept_bytes 112
    (kept_value (item_of "z" (number_value 1) ∷ item_of "a" (number_value 2) ∷ []))
    (region 0 43 4 1 ∷ region 48 64 8 1 ∷ region 112 24 8 0 ∷ []) []

abbrev pub CanonicalEmptyKeptMap : Type 0
CanonicalEmptyKeptMap = IsArchive empty_kept_bytes 0 (kept_value []) (region 0 24 8 0 ∷ []) []
