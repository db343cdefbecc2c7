-- Lists of tables, each of which is filled in its own way.
use Rattle.std.specs.Prelude.{◌≡◌, ℕ, ◌<◌, ◌^◌, List, [], ◌∷◌}
use Rattle.archive_shape_layout.specs.Shape.{Shape}
use Rattle.archive_shape_layout.specs.Shape.Shape.{vector}
use Rattle.archive_shape_layout.specs.Content.{Names}
use Rattle.archive_shape_canonical.specs.Settled.{free}
use Rattle.archive_forms_laws.specs.Spelling.{Spelling}
use Rattle.archive_forms_laws.specs.Pointers.{slice_spelling}
use Rattle.archive_forms_laws.specs.Regions.{region_fits, region_piece}
use Rattle.archive_forms_laws.specs.State.{initial}
use Rattle.archive_forms_laws.specs.Written.{IsWritten}
use Rattle.archive_forms_laws.specs.Sample.{number_spelling}
use Rattle.archive_hash_writing.specs.Sample.{number_shape, sample_shape}
use Rattle.archive_hash_writing.specs.Tables.{table_spelling}

abbrev pub many_shape : Shape
many_shape = vector sample_shape

abbrev pub many_spelling : (most places : ℕ) → (ℕ → ℕ) → Spelling (List (List ℕ)) ℕ
many_spelling most places hash = slice_spelling sample_shape (table_spelling most places number_shape number_spelling hash)

-- what is written of a list of tables is held by the layout, however each is filled
abbrev pub ManyAreHeld : Type 0
ManyAreHeld =
    (most places : ℕ) (hash : ℕ → ℕ) (names : Names) (xss : List (List ℕ)) (bytes : List ℕ)
    → ((n : ℕ) → hash n < 2 ^ 64)
    → region_fits (many_spelling most places hash) many_shape (xss ∷ []) initial
    → bytes ≡ region_piece (many_spelling most places hash) many_shape (xss ∷ []) initial
    → IsWritten many_shape (many_spelling most places hash) xss free names bytes
