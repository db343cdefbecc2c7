-- A value that leads to one of the same type is where its pointers are.
use Rattle.std.proofs.Common.{ℕ, Bool, List, Result, refl}
use Rattle.archive_shape_layout.specs.Shape.Alignment.{four}
use Rattle.archive_shape_layout.specs.Value.{Value}
use Rattle.archive_shape_layout.specs.Content.{Names}
use Rattle.archive_shape_layout.specs.Content.Part.{at}
use Rattle.archive_shape.specs.Kept.{Kept}
use Rattle.archive_shape.specs.Key.{HeldAt}
use Rattle.archive_shape.specs.Checks.{Checks}
use Rattle.archive_shape_layout.specs.declared.error.Error.{Error}
use Rattle.archive_forms_values.specs.Parts.{HasValue}
use Rattle.archive_forms_values.proofs.Contents.{named_checked}
use Rattle.archive_forms_values.proofs.Named.{named_held, named_has}
use Rattle.archive_core_tests.specs.Cyclic.{loop_shape, loop_body, KnowsLoop}
use Rattle.archive_core_tests.specs.Towers.{tower_shape, tower_body, KnowsTower}

pub loop_checked : (cycles : Bool) (names : Names) (bytes : List ℕ) (pos : ℕ) (k l : Kept) (r : Result (Unit {0}) Error) → KnowsLoop cycles names
    → Checks names bytes (at pos (loop_body cycles)) k r l → Checks names bytes (at pos loop_shape) k r l
loop_checked cycles = named_checked (loop_body cycles) 1 4 four refl refl

-- a tower is where its vector is
pub tower_checked : (names : Names) (bytes : List ℕ) (pos : ℕ) (k l : Kept) (r : Result (Unit {0}) Error) → KnowsTower names
    → Checks names bytes (at pos tower_body) k r l → Checks names bytes (at pos tower_shape) k r l
tower_checked = named_checked tower_body 2 8 four refl refl

-- and its value is that of its vector
module _ (bytes : List ℕ) (pos : ℕ) where
  pub tower_held : (v : Value) → HeldAt tower_shape KnowsTower bytes pos v → HeldAt tower_body KnowsTower bytes pos v
  tower_held = named_held tower_body 2 8 four refl refl KnowsTower (λ names known. known) bytes pos

  pub tower_has : HasValue tower_shape KnowsTower bytes pos → HasValue tower_body KnowsTower bytes pos
  tower_has = named_has tower_body 2 8 four refl refl KnowsTower (λ names known. known) bytes pos
