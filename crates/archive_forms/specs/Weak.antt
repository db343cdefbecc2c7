-- What is read back of weak pointers.
use Rattle.std.specs.Prelude.{ℕ, false, List, MatchOption}
use Rattle.archive_shape_layout.specs.Shape.{Pointee}
use Rattle.archive_shape_layout.specs.Value.{Value}
use Rattle.archive_shape_layout.specs.Content.{Names}
use Rattle.archive_forms_rc.specs.WeakPointers.{IsNothingAt, IsPointerAt}
use Rattle.archive_forms_rc.specs.declared.sharing.keyed.Shared.{Shared}
use Rattle.archive_forms_rc.specs.declared.sharing.weak.SharedWeak.{SharedWeak}
use Rattle.archive_forms.specs.Reading.{reads_in, reads_option}

module _ {P : Type 0} where
  -- none where it leads to nothing, else what the counted pointer is read back as
  abbrev pub reads_weak : (Value → Shared P → Type 0) → Value → SharedWeak P → Type 0
  reads_weak reads = reads_in (λ x. x.shared) (reads_option reads)

  -- it has the key that the counted pointer after the tag has, and without one it leads to nothing
  abbrev pub IsKeyedAt : Pointee → (Names → Type 0) → List ℕ → ℕ → (Shared P → Type 0) → SharedWeak P → Type 0
  IsKeyedAt q knows bytes pos IsKeyed x = MatchOption x.shared (IsNothingAt false q knows bytes pos) (λ p. IsPointerAt false q knows bytes pos × IsKeyed p)
