-- What is written at a root is accepted, and its value is the one that is read back.
use Rattle.std.proofs.Common.{length, subst}
use Rattle.archive_shape_layout.specs.Shape.{Shape}
use Rattle.archive_shape_layout.specs.Value.{Value}
use Rattle.archive_shape_layout.specs.Content.{Names}
use Rattle.archive_shape_layout.specs.Holds.{root_position}
use Rattle.archive_forms_laws.specs.Spelling.{Spelling}
use Rattle.archive_forms_values.proofs.Rooted.{root_held}
use Rattle.archive_core_validation.proofs.Unlimited.{unlimited_law}
use Rattle.archive_core.specs.Laws.{WrittenIsAccepted, ReadBackIsWritten}

module _ {A R : Type 0} (s : Shape) (knows : Names → Type 0) (w : Spelling A R) where
  pub written_law : WrittenIsAccepted s knows w
  written_law x bytes fit names keys known suited short written =
      let made = written fit names keys known suited in
      unlimited_law names bytes s (root_position (length bytes) s) _ made.regions made.visits short made.root

  pub read_back_law : (reads : Value → A → Type 0) → ReadBackIsWritten s knows w reads
  read_back_law reads x y bytes fit names keys known suited written read =
      let made = written fit names keys known suited in
      subst (λ v. reads v y) made.plain (read _ (root_held s knows names bytes (root_position (length bytes) s) _ made.regions made.visits known made.root))
