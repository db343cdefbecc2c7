-- Calls that read maps and sets back: the only error is `OutOfMemory`.
use Rattle.std.specs.Prelude.{ℕ, Bool, List, length, Result, ⊤}
use denote.Ref.{MutBor}
use denote.Param.Members.{Shared}
use Rattle.archive_shape_layout.specs.Shape.Shape.{table, tuple}
use Rattle.archive_shape_layout.specs.Shape.Shapes.{no_shapes}
use Rattle.archive_shape_layout.specs.declared.error.Error.{Error}
use Rattle.archive_shape.specs.declared.references.refs.Ref.{Ref}
use Rattle.archive_forms_laws.specs.Fields.{unit_spelling}
use Rattle.archive_forms_values.specs.Parts.{both}
use Rattle.archive_forms_values.specs.Tuples.{tuple2}
use Rattle.archive_forms.specs.Calls.Forms.{ReadMembers, DeserializesForm}
use Rattle.archive_forms.specs.Reading.{reads_as}
use Rattle.archive_forms.specs.Steps.{StepTakes}
use Rattle.archive_hash.specs.Owned.{key_entries}
use Rattle.archive_hash.specs.ReadBack.{reads_map}
use Rattle.archive_hash.specs.declared.map.OwnedHashMap.{OwnedHashMap}
use Rattle.archive_hash.specs.declared.set.OwnedHashSet.{OwnedHashSet}

-- a step takes each value of a type that the bytes have
abbrev pub StepTakesAll : {F D T X : Type 0} → Shared F (MutBor D × (ℕ × Unit {0})) (Result (T × X) Error × (MutBor D × Unit {0}))
    → F → ReadMembers T → (D → List ℕ → Type 0) → List ℕ → Type 0
StepTakesAll call step a is_of bytes = StepTakes call step a.shape a.knows is_of bytes (length bytes)

-- a map is read back as a map of std, by the equality of its keys
abbrev pub DeserializesMap : {M K V : Type 0} → (K → K → Bool) → ReadMembers K → ReadMembers V → Ref M → Result (OwnedHashMap K V) Error → Type 0
DeserializesMap eq a b this result =
    DeserializesForm (reads_map eq (λ m. m.map.entries) a.reads b.reads) (table (tuple2 a.shape b.shape)) (both a.knows b.knows) this result

-- a set is read back as a set of std
abbrev pub DeserializesSet : {M K : Type 0} → (K → K → Bool) → ReadMembers K → Ref M → Result (OwnedHashSet K) Error → Type 0
DeserializesSet eq a this result =
    DeserializesForm (reads_map eq (λ s. key_entries s.set.keys) a.reads (reads_as unit_spelling))
    (table (tuple2 a.shape (tuple no_shapes))) (both a.knows (λ _. ⊤)) this result
