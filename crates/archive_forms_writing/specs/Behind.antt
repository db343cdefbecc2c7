-- How own bytes are written after data that was written.
use Rattle.std.specs.Prelude.{◌≡◌, ℕ, ◌-◌, ◌^◌, ◌≤◌, ◌<◌, ◌⊎◌, List, ◌++◌, Result}
use Rattle.archive_shape_layout.specs.Bytes.{align_up}
use Rattle.archive_shape_layout.specs.Shape.{Shape, align_of}
use Rattle.archive_shape.specs.Bytes.{zeros}
use Rattle.archive_shape_layout.specs.Writing.{WriterMembers}
use Rattle.archive_shape_layout.specs.declared.error.Error.{Error}
use Rattle.archive_shape_layout.specs.declared.error.Error.TheVariants.{PositionTooLarge}
use Rattle.archive_forms_laws.specs.State.{State}
use Rattle.archive_forms_laws.specs.Spelling.{Spelling}
use Rattle.archive_forms_laws.specs.Regions.{owns, owns_fit, owns_refused}
use Rattle.archive_forms_laws.specs.Serializing.{Lays}

-- after data that ends at a position, elements begin at the next position of their alignment, with zeros before them
abbrev pub LaysBehind : {A R W : Type 0} → Shape → Spelling A R → WriterMembers W → List A → State → W → W → ℕ → Result ℕ Error → Type 0
LaysBehind s w members xs st old new pos result =
    let start = align_up pos (align_of s) in
    Lays members old new (zeros (start - pos) ++ owns w xs st start)
    (λ to. (to ≡ start) × (start < 2 ^ 32) × owns_fit w s xs st start)
    (λ e. ((2 ^ 32 ≤ start) × (e ≡ PositionTooLarge)) ⊎ owns_refused w s xs st start e) result
