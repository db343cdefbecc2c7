-- Values of types that hold themselves, which are where the shape of the name is.
use Rattle.std.proofs.Common.{ℕ, List, Result, refl}
use Rattle.archive_shape_layout.specs.Shape.Alignment.{four}
use Rattle.archive_shape_layout.specs.Value.{Value}
use Rattle.archive_shape_layout.specs.Content.{Names}
use Rattle.archive_shape_layout.specs.Content.Part.{at}
use Rattle.archive_shape.specs.Kept.{Kept}
use Rattle.archive_shape.specs.Checks.{Checks}
use Rattle.archive_shape_layout.specs.declared.error.Error.{Error}
use Rattle.archive_shape.specs.Key.{HeldAt}
use Rattle.archive_forms_values.proofs.Contents.{named_checked}
use Rattle.archive_forms_values.specs.Parts.{HasValue}
use Rattle.archive_forms_values.proofs.Named.{named_held, named_has}
use Rattle.archive_forms_laws.proofs.Levels.{option_box_sized}
use Rattle.archive_forms_tests.specs.Recursive.{list_shape, list_body, KnowsList}

-- a list is where its option is
pub list_checked : (names : Names) (bytes : List ℕ) (pos : ℕ) (k l : Kept) (r : Result (Unit {0}) Error) → KnowsList names → Checks names bytes (at pos list_body) k r l → Checks names bytes (at pos list_shape) k r l
list_checked = named_checked list_body 1 8 four (option_box_sized list_shape) refl

-- ---- values that are there

module _ (bytes : List ℕ) (pos : ℕ) where
  -- the value of a list is that of its option
  pub list_held : (v : Value) → HeldAt list_shape KnowsList bytes pos v → HeldAt list_body KnowsList bytes pos v
  list_held = named_held list_body 1 8 four (option_box_sized list_shape) refl KnowsList (λ names known. known) bytes pos

  pub list_has : HasValue list_shape KnowsList bytes pos → HasValue list_body KnowsList bytes pos
  list_has = named_has list_body 1 8 four (option_box_sized list_shape) refl KnowsList (λ names known. known) bytes pos
