-- The contract of a call that writes as many elements as are claimed, for any number of elements.
use Rattle.std.specs.Prelude.{◌≡◌, ℕ, ◌⊎◌, List, length, Result, Err}
use Rattle.archive_shape_layout.specs.Writing.{WriterMembers}
use Rattle.archive_shape_layout.specs.declared.error.Error.{Error}
use Rattle.archive_shape_layout.specs.declared.error.Error.TheVariants.{IteratorLengthMismatch, OutOfMemory}
use Rattle.archive_forms_laws.specs.Spelling.{Spelling}
use Rattle.archive_forms_laws.specs.Serializing.{Serializes}

-- where this is their number, they are written; otherwise the error has both numbers, and nothing is written
abbrev pub SerializesClaimed : {A R W : Type 0} → Spelling (List A) R → WriterMembers W
    → (claimed : ℕ) → List A → W → W → Result R Error → Type 0
SerializesClaimed w s claimed xs old new result =
    ((length xs ≡ claimed) × Serializes w s xs old new result)
    ⊎ ((length xs ≡ claimed → ⊥) × (result ≡ Err (IteratorLengthMismatch claimed (length xs))) × (new ≡ old))

-- an allocation failed before anything was written
abbrev pub RefusesMemory : {R W : Type 0} → W → W → Result R Error → Type 0
RefusesMemory old new result = (result ≡ Err OutOfMemory) × (new ≡ old)
