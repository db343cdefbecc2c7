-- The laws of how index maps are archived, as statements.
use Rattle.std.specs.Prelude.{◌≡◌, ℕ, ◌^◌, ◌<◌, List, [], ◌∷◌, ◌++◌, map, replicate, Option}
use Rattle.archive_shape_layout.specs.Shape.{Shape}
use Rattle.archive_shape_layout.specs.Shape.Shape.{index_map, text}
use Rattle.archive_shape_layout.specs.Content.{Names}
use Rattle.archive_shape_canonical.specs.Settled.{Fit}
use Rattle.archive_shape_canonical.specs.Hash.{text_hash}
use Rattle.archive_shape_canonical.specs.FirstFit.{first_fit}
use Rattle.archive_forms_laws.specs.Texts.{text_spelling}
use Rattle.archive_forms_values.specs.Tuples.{tuple2}
use Rattle.archive_forms_laws.specs.State.{initial}
use Rattle.archive_forms_laws.specs.Regions.{region_piece, region_fits}
use Rattle.archive_forms_laws.specs.Fields.{tuple2_spelling}
use Rattle.archive_forms_laws.specs.Written.{IsWritten}
use Rattle.archive_forms_laws.specs.Spelling.{Spelling}
use Rattle.archive_shape.specs.Bytes.{zeros}
use Rattle.archive_hash_writing.specs.Sample.{sample_hash}
use Rattle.archive_forms_laws.specs.Sample.{number_shape, number_spelling}
use Rattle.archive_hash_writing.specs.IndexMaps.{index_spelling, IsKeptBy}

-- maps of numbers to numbers
abbrev pub sample_shape : Shape
sample_shape = index_map number_shape number_shape

-- an index map of numbers, whatever the hashes of its keys, is written as its one archive, where maps are filled so
abbrev pub MapsAreWritten : Type 0
MapsAreWritten =
    (most places : ℕ) (hash : ℕ × ℕ → ℕ) (fit : Fit) (names : Names) (xs : List (ℕ × ℕ)) (bytes : List ℕ)
    → ((x : ℕ × ℕ) → hash x < 2 ^ 64)
    → let pairs = tuple2_spelling number_shape number_spelling number_shape number_spelling in
    let spelled = index_spelling most places (tuple2 number_shape number_shape) pairs hash in
    IsKeptBy most places (tuple2 number_shape number_shape) pairs (map hash xs) fit xs
    → region_fits spelled sample_shape (xs ∷ []) initial
    → bytes ≡ region_piece spelled sample_shape (xs ∷ []) initial
    → IsWritten sample_shape spelled xs fit names bytes

-- first fit fills an index map whose keys are texts, by the hashes of these, as it is written
abbrev pub TextsAreKept : Type 0
TextsAreKept =
    (xs : List (List ℕ × ℕ))
    → IsKeptBy 7 8 (tuple2 text number_shape) (tuple2_spelling text text_spelling number_shape number_spelling) (map (λ e. text_hash e.0) xs) (first_fit text_hash) xs

-- ---- samples: a hash of keys whose tag is 55, the others of whose bits are the key; of eight places seven may be full

abbrev pub sample_spelling : Spelling (List (ℕ × ℕ)) (Option ℕ × Option ℕ)
sample_spelling = index_spelling 7 8 (tuple2 number_shape number_shape) (tuple2_spelling number_shape number_spelling number_shape number_spelling) (λ e. sample_hash e.0)

-- these maps are spelled as these bytes
abbrev pub IsSpelled : List (ℕ × ℕ) → List ℕ → Type 0
IsSpelled xs bytes = region_piece sample_spelling sample_shape (xs ∷ []) initial ≡ bytes

-- a map without entries: the offset 1, 0 twice, and the offset 1
abbrev pub empty_bytes : List ℕ
empty_bytes = 1 ∷ zeros 11 ++ 1 ∷ zeros 3

-- 9 to 1 and 7 to 2, in a table of three places: the number 0 stands at place 2 and 1 at place 0, whose bucket is the last; that of
-- place 1 is zero, and its control empty. The entries stand behind the controls, in their order.
abbrev pub two_entries : List (ℕ × ℕ)
two_entries = (9, 1) ∷ (7, 2) ∷ []

abbrev pub two_entries_bytes : List ℕ
two_entries_bytes =
    zeros 4 ++ zeros 4 ++ 1 ∷ zeros 3
    ++ 85 ∷ 255 ∷ 85 ∷ 85 ∷ 255 ∷ 85 ∷ replicate 25 255
    ++ zeros 1 ++ 9 ∷ zeros 3 ++ 1 ∷ zeros 3 ++ 7 ∷ zeros 3 ++ 2 ∷ zeros 3
    ++ 208 ∷ 255 ∷ 255 ∷ 255 ∷ 2 ∷ zeros 3 ++ 3 ∷ zeros 3 ++ 228 ∷ 255 ∷ 255 ∷ 255 ∷ []

abbrev pub SamplesAreSpelled : Type 0
SamplesAreSpelled = IsSpelled [] empty_bytes × IsSpelled two_entries two_entries_bytes
