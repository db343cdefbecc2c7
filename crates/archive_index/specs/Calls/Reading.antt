-- Calls that read entries, maps and sets back: the only error is `OutOfMemory`.
use denote.Ref.{MutBor}
use denote.Param.Members.{Shared}
use Rattle.std.specs.Prelude.{ℕ, ◌+◌, List, Vec, Result, ⊤}
use Rattle.std.specs.Global.{Global}
use Rattle.archive_shape_layout.specs.Shape.{Shape, size_of}
use Rattle.archive_shape_layout.specs.Shape.Shape.{index_map}
use Rattle.archive_shape_layout.specs.declared.error.Error.{Error}
use Rattle.archive_shape.specs.declared.references.refs.Ref.{Ref}
use Rattle.archive_forms_values.specs.Parts.{both}
use Rattle.archive_forms_values.specs.Tuples.{tuple2}
use Rattle.archive_forms.specs.Calls.Forms.{ReadMembers, DeserializesForm}
use Rattle.archive_forms.specs.Deserializing.{DeserializesBy}
use Rattle.archive_forms.specs.Reading.{reads_all, reads_in, reads_key, reads_tuple2}
use Rattle.archive_forms.specs.Steps.{StepTakes}
use Rattle.archive_hash_maps.specs.Sets.{set_knows}
use Rattle.archive_index.specs.Sets.{set_shape, unit_shape}

-- ---- of the entry at a position

module _ {F D T X : Type 0} (call : Shared F (MutBor D × (ℕ × Unit {0})) (Result (T × X) Error × (MutBor D × Unit {0}))) (step : F) where
  -- a step takes each key in it, where its value has a shape
  abbrev pub StepTakesKey : ReadMembers T → Shape → (D → List ℕ → Type 0) → List ℕ → ℕ → Type 0
  StepTakesKey a v is_of bytes pos = StepTakes call step a.shape a.knows is_of bytes (pos + size_of (tuple2 a.shape v))

  -- a step takes each value in it, where its key has a shape
  abbrev pub StepTakesValue : Shape → ReadMembers T → (D → List ℕ → Type 0) → List ℕ → ℕ → Type 0
  StepTakesValue k b is_of bytes pos = StepTakes call step b.shape b.knows is_of bytes (pos + size_of (tuple2 k b.shape))

-- it is read back as its key and its value, which the result keeps
abbrev pub DeserializesPair : {K V X : Type 0} → ReadMembers K → ReadMembers V → List ℕ → ℕ → Result ((K × V) × X) Error → Type 0
DeserializesPair a b bytes pos result =
    DeserializesBy (reads_tuple2 a.reads b.reads) (tuple2 a.shape b.shape) (both a.knows b.knows) bytes pos (λ q. q.0) result

-- the entry of a set is read back as its key, which the result keeps
abbrev pub DeserializesKey : {K X : Type 0} → ReadMembers K → List ℕ → ℕ → Result (K × X) Error → Type 0
DeserializesKey a bytes pos result =
    DeserializesBy (reads_key a.reads) (tuple2 a.shape unit_shape) (both a.knows (λ _. ⊤)) bytes pos (λ q. q.0) result

-- ---- of all entries in order

-- a map is read back as the pairs of its keys and values
abbrev pub DeserializesMap : {M K V : Type 0} → ReadMembers K → ReadMembers V → Ref M → Result (Vec (K × V) Global) Error → Type 0
DeserializesMap a b this result =
    DeserializesForm (reads_in (λ xs. xs.items) (reads_all (reads_tuple2 a.reads b.reads))) (index_map a.shape b.shape) (both a.knows b.knows) this result

-- a set is read back as its keys
abbrev pub DeserializesSet : {S K : Type 0} → ReadMembers K → Ref S → Result (Vec K Global) Error → Type 0
DeserializesSet a this result =
    DeserializesForm (reads_in (λ xs. xs.items) (reads_all (reads_key a.reads))) (set_shape a.shape) (set_knows a.knows) this result
