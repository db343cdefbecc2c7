-- The laws of how tables are archived, as statements.
use Rattle.std.specs.Prelude.{◌≡◌, ℕ, ◌^◌, ◌<◌, List, [], ◌∷◌, map}
use Rattle.archive_shape_layout.specs.Content.{Names}
use Rattle.archive_shape_canonical.specs.Settled.{Fit}
use Rattle.archive_forms_laws.specs.State.{initial}
use Rattle.archive_forms_laws.specs.Regions.{region_piece, region_fits}
use Rattle.archive_forms_laws.specs.Written.{IsWritten}
use Rattle.archive_hash_writing.specs.Tables.{table_spelling, IsFilledBy}
use Rattle.archive_hash_writing.specs.Sample.{number_shape, sample_shape, sample_spelling, empty_bytes, one_item, one_item_bytes, three_items, three_items_bytes}
use Rattle.archive_forms_laws.specs.Sample.{number_spelling}

-- these tables are spelled as these bytes
abbrev pub IsSpelled : List ℕ → List ℕ → Type 0
IsSpelled xs bytes = region_piece sample_spelling sample_shape (xs ∷ []) initial ≡ bytes

abbrev pub SamplesAreSpelled : Type 0
SamplesAreSpelled = IsSpelled [] empty_bytes × IsSpelled one_item one_item_bytes × IsSpelled three_items three_items_bytes

-- for all hashes, a table of numbers is written as its one archive, where the fit fills tables as they are written
abbrev pub TablesAreWritten : Type 0
TablesAreWritten =
    (most places : ℕ) (hash : ℕ → ℕ) (fit : Fit) (names : Names) (xs : List ℕ) (bytes : List ℕ)
    → ((n : ℕ) → hash n < 2 ^ 64)
    → IsFilledBy most places number_shape number_spelling (map hash xs) fit xs
    → region_fits (table_spelling most places number_shape number_spelling hash) sample_shape (xs ∷ []) initial
    → bytes ≡ region_piece (table_spelling most places number_shape number_spelling hash) sample_shape (xs ∷ []) initial
    → IsWritten sample_shape (table_spelling most places number_shape number_spelling hash) xs fit names bytes

-- for each table some fit fills it as it is written
abbrev pub EachIsFilled : Type 0
EachIsFilled = (most places : ℕ) (hashes xs : List ℕ) → (fit : Fit) × IsFilledBy most places number_shape number_spelling hashes fit xs
