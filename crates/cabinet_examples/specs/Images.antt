-- Documents whose images are written out.
use Rattle.std.specs.Prelude.{ℕ, List, [], ◌∷◌, ◌++◌, codes, pos, true}
use Rattle.cabinet_text_grammar.specs.Keys.{ordered, hashed, kept}
use Rattle.cabinet_text_grammar.specs.Tree.{Tree, leaf, shared, nothing, just, list, map, whole, no_trees, more_trees, no_pairs, more_pairs, truth, number, text}
use Rattle.cabinet_documents.specs.Image.{Image}
use Rattle.cabinet_examples.specs.Pieces.{zeros, filler, number_node}
use Rattle.cabinet_examples.specs.Documents.{number_bytes, truth_bytes, long_text_bytes, nothing_bytes, some_number_bytes, empty_list_bytes, shared_text_bytes, empty_shared_text_bytes, whole_bytes, two_ordered_bytes, one_hashed_bytes, two_kept_bytes}

-- ---- leaves

abbrev pub FiveImage : Type 0
FiveImage = Image (leaf (number (pos 5))) number_bytes

abbrev pub TrueImage : Type 0
TrueImage = Image (leaf (truth true)) truth_bytes

abbrev pub WorldImage : Type 0
WorldImage = Image (leaf (text (codes "world"))) (0x02 ∷ zeros 3 ++ codes "world" ++ filler 3 ++ zeros 12)

-- the text begins at 0, and its node at 16
abbrev pub LongTextImage : Type 0
LongTextImage = Image (leaf (text (codes "hello world!"))) long_text_bytes

-- ---- options

abbrev pub NothingImage : Type 0
NothingImage = Image nothing nothing_bytes

abbrev pub SomeFiveImage : Type 0
SomeFiveImage = Image (just (leaf (number (pos 5)))) some_number_bytes

-- ---- a list of the numbers 7 and 19: its elements begin at 0 and 24, and its node at 48

abbrev pub seven_and_nineteen : Tree
seven_and_nineteen = list (more_trees (leaf (number (pos 7))) (more_trees (leaf (number (pos 19))) no_trees))

abbrev pub seven_and_nineteen_bytes : List ℕ
seven_and_nineteen_bytes =
    number_node 7 ++ number_node 19
    ++ 0x05 ∷ zeros 3 ++ 0xcc ∷ 0xff ∷ 0xff ∷ 0xff ∷ 0x02 ∷ zeros 15

abbrev pub SevenAndNineteenImage : Type 0
SevenAndNineteenImage = Image seven_and_nineteen seven_and_nineteen_bytes

-- ---- an empty list, and a list of it, whose element begins at 0 and its node at 24

abbrev pub EmptyListImage : Type 0
EmptyListImage = Image (list no_trees) empty_list_bytes

abbrev pub list_of_an_empty_list_bytes : List ℕ
list_of_an_empty_list_bytes = empty_list_bytes ++ 0x05 ∷ zeros 3 ++ 0xe4 ∷ 0xff ∷ 0xff ∷ 0xff ∷ 0x01 ∷ zeros 15

abbrev pub ListOfAnEmptyListImage : Type 0
ListOfAnEmptyListImage = Image (list (more_trees (list no_trees) no_trees)) list_of_an_empty_list_bytes

-- ---- a list of one shared text twice: the text is written once, before the elements, and both lead to it

abbrev pub shared_twice : List ℕ → Tree
shared_twice s = list (more_trees (shared s) (more_trees (shared s) no_trees))

abbrev pub SharedTextImage : Type 0
SharedTextImage = Image (shared_twice (codes "hello world!")) shared_text_bytes

-- an empty one is followed by a zero byte
abbrev pub EmptySharedTextImage : Type 0
EmptySharedTextImage = Image (shared_twice []) empty_shared_text_bytes

-- ---- a list of one whole twice: its node is written once, before the elements, and both lead to it

abbrev pub whole_twice : Tree → Tree
whole_twice t = list (more_trees (whole t) (more_trees (whole t) no_trees))

abbrev pub WholeImage : Type 0
WholeImage = Image (whole_twice (leaf (number (pos 5)))) whole_bytes

-- ---- maps of each kind

abbrev pub numeral : ℕ → Tree
numeral n = leaf (number (pos n))

-- a leaf of two entries
abbrev pub two_ordered : Tree
two_ordered = map ordered (more_pairs (codes "coffee") (numeral 300) (more_pairs (codes "tea") (numeral 250) no_pairs))

abbrev pub OrderedMapImage : Type 0
OrderedMapImage = Image two_ordered two_ordered_bytes

-- a table of two places
abbrev pub one_hashed : Tree
one_hashed = map hashed (more_pairs (codes "a") (leaf (text (codes "world"))) no_pairs)

abbrev pub HashedMapImage : Type 0
HashedMapImage = Image one_hashed one_hashed_bytes

-- a table of three places, and after it the entries in their order
abbrev pub two_kept : Tree
two_kept = map kept (more_pairs (codes "z") (numeral 1) (more_pairs (codes "a") (numeral 2) no_pairs))

abbrev pub KeptMapImage : Type 0
KeptMapImage = Image two_kept two_kept_bytes
