-- The contract of a step that reads an element back, where a form calls it for its elements.
use Rattle.std.specs.Prelude.{ℕ, ◌+◌, ◌≤◌, List, Result, IfOk}
use denote.Ref.{MutBor}
use denote.Param.Members.{Shared}
use Rattle.archive_shape_layout.specs.Shape.{Shape, size_of}
use Rattle.archive_shape_layout.specs.Value.{Value}
use Rattle.archive_shape_layout.specs.Content.{Names}
use Rattle.archive_shape_layout.specs.declared.error.Error.{Error}
use Rattle.archive_forms_values.specs.Parts.{HasValue}
use Rattle.archive_forms.specs.Deserializing.{DeserializesBy}

-- of a step that is lent what keeps the shared values of some bytes
module _ {F D Q : Type 0} (call : Shared F (MutBor D × (ℕ × Unit {0})) (Result Q Error × (MutBor D × Unit {0})))
    (step : F) (s : Shape) (knows : Names → Type 0) (is_of : D → List ℕ → Type 0) (bytes : List ℕ) where
  -- it may be called wherever the bytes have a value of the shape that ends at or before a limit
  abbrev pub StepTakes : ℕ → Type 0
  StepTakes limit =
      (deserializer : MutBor D) (pos : ℕ)
      → pos + size_of s ≤ limit
      → HasValue s knows bytes pos
      → is_of deserializer.now bytes
      → call.pre step (deserializer, (pos, tt))

  -- each call reads that value, and its result keeps it
  abbrev pub StepReads : {A : Type 0} → (Q → A) → (Value → A → Type 0) → Type 0
  StepReads kept reads =
      (old new : MutBor D) (pos : ℕ) (result : Result Q Error)
      → HasValue s knows bytes pos
      → is_of old.now bytes
      → call.post step (old, (pos, tt)) (result, (new, tt))
      → DeserializesBy reads s knows bytes pos kept result × IfOk result (λ _. is_of new.now bytes)
