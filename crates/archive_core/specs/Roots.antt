-- Where the value that was archived lies in the bytes, as statements.
use Rattle.std.specs.Prelude.{◌≡◌, ℕ, List, length}
use Rattle.archive_shape_layout.specs.Shape.{Shape}
use Rattle.archive_shape_layout.specs.Content.{Names}
use Rattle.archive_shape_layout.specs.Holds.{root_position}
use Rattle.archive_forms_laws.specs.State.{Keys}
use Rattle.archive_forms_laws.specs.Spelling.{Spelling}
use Rattle.archive_forms_laws.specs.WrittenAt.{IsWrittenAt, IsReadableAt}
use Rattle.archive_core.specs.Written.{root_piece, root_fits}

module _ {A R : Type 0} (s : Shape) (w : Spelling A R) where
  -- a value that was archived in memory is written at the root of the bytes
  abbrev pub RootIsWritten : Type 0
  RootIsWritten =
      (x : A) (bytes : List ℕ) (keys : Keys)
      → bytes ≡ root_piece s w x 0
      → root_fits s w x 0
      → IsWrittenAt keys w bytes (root_position (length bytes) s) x

  -- and can be read there
  abbrev pub RootIsReadable : Type 0
  RootIsReadable =
      (x : A) (bytes : List ℕ) (names : Names) (keys : Keys)
      → bytes ≡ root_piece s w x 0
      → root_fits s w x 0
      → IsReadableAt names keys s w bytes (root_position (length bytes) s) x
