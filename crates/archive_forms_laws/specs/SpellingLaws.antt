-- The laws of what is written, as statements.
use Rattle.std.specs.Prelude.{◌≡◌, ℕ, true, List, [], ◌∷◌, Option, codes, ⊤}
use Rattle.archive_shape_layout.specs.Shape.{Shape}
use Rattle.archive_shape_layout.specs.Shape.Shape.{text}
use Rattle.archive_shape_layout.specs.Value.{Value}
use Rattle.archive_shape_layout.specs.Content.{Names}
use Rattle.archive_shape_layout.specs.Numbers.{IsLeafShape}
use Rattle.archive_shape_canonical.specs.Settled.{Fit}
use Rattle.archive_shape_canonical.specs.Sharing.{erased}
use Rattle.archive_forms_laws.specs.State.{Keys, AreOneToOne, initial}
use Rattle.archive_forms_laws.specs.Spells.{Spells}
use Rattle.archive_forms_laws.specs.Forms.{leaf_spelling}
use Rattle.archive_forms_laws.specs.Regions.{region_piece, region_fits, all_suit}
use Rattle.archive_forms_laws.specs.Texts.{text_spelling}
use Rattle.archive_forms_laws.specs.Written.{IsArchive, IsWritten}
use Rattle.archive_forms_laws.specs.Sample.{keyed_spelling, keyed_list_shape, keyed_list, two, two_bytes, optional_list_shape, optional_list, one_present, one_present_bytes, pair_shape, pair_spelling, zero_pair_bytes, other_pair_bytes, filled_text_bytes, eight_text_bytes, nine_text_bytes}

-- any list of named types
abbrev pub KnowsAll : Names → Type 0
KnowsAll names = ⊤

-- the own bytes of a number, a truth value or a char are read as its value
abbrev pub LeafSpells : Type 0 → Type 0
LeafSpells A = (fit : Fit) (s : Shape) (bytes_of : A → List ℕ) (value_of : A → Value) → IsLeafShape s → Spells fit s KnowsAll (leaf_spelling s bytes_of value_of)

-- a value, without the positions of shared ones, has one archive that ends with its root
abbrev pub WrittenOnce : Type 0
WrittenOnce =
    (fit : Fit) (names : Names) (bytes others : List ℕ) (s : Shape) (v u : Value)
    → fit.binds ≡ true
    → IsArchive fit names bytes s v
    → IsArchive fit names others s u
    → erased v ≡ erased u
    → bytes ≡ others

-- lists of shared numbers are written as their one archive, each number once, where no two keys denote one number
abbrev pub KeyedListsAreWritten : Type 0
KeyedListsAreWritten =
    (fit : Fit) (names : Names) (keys : Keys) (xs : List (ℕ × ℕ)) (bytes : List ℕ)
    → all_suit keyed_spelling fit keys xs
    → AreOneToOne keys
    → region_fits keyed_list keyed_list_shape (xs ∷ []) initial
    → bytes ≡ region_piece keyed_list keyed_list_shape (xs ∷ []) initial
    → IsWritten keyed_list_shape keyed_list xs fit names bytes

-- lists of numbers in boxes, some of them absent, are written as their one archive
abbrev pub OptionalListsAreWritten : Type 0
OptionalListsAreWritten =
    (fit : Fit) (names : Names) (xs : List (Option ℕ)) (bytes : List ℕ)
    → region_fits optional_list optional_list_shape (xs ∷ []) initial
    → bytes ≡ region_piece optional_list optional_list_shape (xs ∷ []) initial
    → IsWritten optional_list_shape optional_list xs fit names bytes

-- two numbers that are one shared value are written as these bytes
abbrev pub TwoSharedIsWritten : Type 0
TwoSharedIsWritten = (fit : Fit) (names : Names) → IsWritten keyed_list_shape keyed_list two fit names two_bytes

-- a box and an absent one are written as these bytes
abbrev pub OnePresentIsWritten : Type 0
OnePresentIsWritten = (fit : Fit) (names : Names) → IsWritten optional_list_shape optional_list one_present fit names one_present_bytes

-- a pair of a number of one byte and one of eight is written as sixteen bytes, with zeros between its numbers
abbrev pub PairsAreWritten : Type 0
PairsAreWritten =
    (fit : Fit) (names : Names)
    → IsWritten pair_shape pair_spelling (0, 0) fit names zero_pair_bytes × IsWritten pair_shape pair_spelling (7, 5) fit names other_pair_bytes

-- texts of at most eight bytes are written inline, filled up with ff, and one of nine bytes before its length and
-- offset
abbrev pub TextsAreWritten : Type 0
TextsAreWritten =
    (fit : Fit) (names : Names)
    → IsWritten text text_spelling (codes "abc") fit names filled_text_bytes
    × IsWritten text text_spelling (codes "abcdefgh") fit names eight_text_bytes
    × IsWritten text text_spelling (codes "abcdefghi") fit names nine_text_bytes
