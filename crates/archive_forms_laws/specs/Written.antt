-- That bytes are the one archive of a value, and those that writing it makes.
use Rattle.std.specs.Prelude.{◌≡◌, List, length, ℕ}
use Rattle.archive_shape_layout.specs.Shape.{Shape}
use Rattle.archive_shape_layout.specs.Value.{Value}
use Rattle.archive_shape_layout.specs.Content.{Names}
use Rattle.archive_shape_layout.specs.Holds.{Region, Visit, root_position}
use Rattle.archive_shape_canonical.specs.Settled.{Fit}
use Rattle.archive_shape_canonical.specs.Sharing.{erased}
use Rattle.archive_shape_canonical.specs.Canonical.{CanonicalArchive}
use Rattle.archive_forms_laws.specs.State.{initial}
use Rattle.archive_forms_laws.specs.Spelling.{Spelling}

-- bytes are the canonical archive of a value, whose root ends them
pub record IsArchive (fit : Fit) (names : Names) (bytes : List ℕ) (s : Shape) (v : Value) : Type 0 where
  pub regions : List Region
  pub visits : List Visit
  pub canonical : CanonicalArchive fit names bytes 0 (root_position (length bytes) s) s v regions visits

-- bytes are the archive that writing a value makes, where nothing was written before
pub record IsWritten {A R : Type 0} (s : Shape) (w : Spelling A R) (x : A) (fit : Fit) (names : Names) (bytes : List ℕ) : Type 0 where
  pub archive : IsArchive fit names bytes s (w.value x initial)
  pub plain : erased (w.value x initial) ≡ w.plain x
