-- Steps that calls are given, each of which reads a value back beside a marker of its type.
use Rattle.std.specs.Prelude.{ℕ, ◌+◌, ◌*◌, List, Result}
use denote.Ref.{MutBor}
use denote.Param.Members.{Shared}
use Rattle.archive_shape_layout.specs.Shape.{Shape, size_of}
use Rattle.archive_shape_layout.specs.declared.error.Error.{Error}
use Rattle.archive_shape.specs.declared.references.refs.Ref.{Ref}
use Rattle.archive_forms_values.specs.declared.reading.slice.SliceRef.{SliceRef}
use Rattle.archive_forms.specs.Steps.{StepTakes, StepReads}
use Rattle.archive_forms.specs.Calls.Forms.{ReadMembers}

module _ {F D T X : Type 0} (call : Shared F (MutBor D × (ℕ × Unit {0})) (Result (T × X) Error × (MutBor D × Unit {0})))
    (step : F) (a : ReadMembers T) (is_of : D → List ℕ → Type 0) where
  -- the step takes each value that is inside a form of a shape
  abbrev pub StepTakesIn : {M : Type 0} → Shape → Ref M → Type 0
  StepTakesIn s this = StepTakes call step a.shape a.knows is_of this.bytes.now (this.pos + size_of s)

  -- each element of a slice
  abbrev pub StepTakesEach : {M : Type 0} → SliceRef M → Type 0
  StepTakesEach items = StepTakes call step a.shape a.knows is_of items.bytes.now (items.pos + items.len * size_of a.shape)

  -- the step reads each value that it takes back
  abbrev pub StepReadsBack : List ℕ → Type 0
  StepReadsBack bytes = StepReads call step a.shape a.knows is_of bytes (λ q. q.0) a.reads
