-- The laws of how maps are archived, as statements.
use Rattle.std.specs.Prelude.{◌≡◌, ℕ, ◌<◌, List, [], ◌∷◌, length}
use Rattle.archive_shape_layout.specs.Content.{Names}
use Rattle.archive_shape_canonical.specs.Settled.{Fit}
use Rattle.archive_shape_canonical.specs.Packed.{levels_for}
use Rattle.archive_btree_layout.specs.Tree.{items}
use Rattle.archive_btree_layout.specs.Packed.{IsPacked}
use Rattle.archive_forms_laws.specs.State.{initial}
use Rattle.archive_forms_laws.specs.Regions.{region_piece, region_fits}
use Rattle.archive_forms_laws.specs.Written.{IsWritten}
use Rattle.archive_btree_spelling.specs.Shown.{tree_of}
use Rattle.archive_btree_spelling.specs.Sample.{map_shape, map_spelling, empty_bytes, one_pair, one_pair_bytes, six_pairs, six_pairs_bytes}

-- these maps are spelled as these bytes
abbrev pub IsSpelled : List (ℕ × ℕ) → List ℕ → Type 0
IsSpelled xs bytes = region_piece map_spelling map_shape (xs ∷ []) initial ≡ bytes

abbrev pub SamplesAreSpelled : Type 0
SamplesAreSpelled = IsSpelled [] empty_bytes × IsSpelled one_pair one_pair_bytes × IsSpelled six_pairs six_pairs_bytes

-- maps of numbers are written as their one archive
abbrev pub MapsAreWritten : Type 0
MapsAreWritten =
    (fit : Fit) (names : Names) (xs : List (ℕ × ℕ)) (bytes : List ℕ)
    → region_fits map_spelling map_shape (xs ∷ []) initial
    → bytes ≡ region_piece map_spelling map_shape (xs ∷ []) initial
    → IsWritten map_shape map_spelling xs fit names bytes

-- a map of six pairs is written as these bytes
abbrev pub SixPairsAreWritten : Type 0
SixPairsAreWritten = (fit : Fit) (names : Names) → IsWritten map_shape map_spelling six_pairs fit names six_pairs_bytes

-- the search tree that is written is packed, and has the items that it is written for
abbrev pub TreesArePacked : Type 0
TreesArePacked =
    (most : ℕ) (xs : List (ℕ × ℕ)) → 0 < most → 0 < length xs
    → IsPacked most (tree_of most (levels_for most (length xs)) xs)
    × (items (tree_of most (levels_for most (length xs)) xs) ≡ xs)
