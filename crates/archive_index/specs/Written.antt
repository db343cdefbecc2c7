-- The contracts of calls that write index maps.
use Rattle.std.specs.Prelude.{◌≡◌, ℕ, List, Result}
use Rattle.archive_shape_layout.specs.Shape.{Shape}
use Rattle.archive_shape_layout.specs.Writing.{WriterMembers}
use Rattle.archive_shape_layout.specs.declared.error.Error.{Error}
use Rattle.archive_forms_values.specs.Tuples.{tuple2}
use Rattle.archive_forms_laws.specs.Spelling.{Spelling}
use Rattle.archive_forms_laws.specs.Fields.{tuple2_spelling}
use Rattle.archive_hash_writing.specs.Claimed.{WritesHashed}
use Rattle.archive_hash_writing.specs.IndexResolvers.{written_map}
use Rattle.archive_hash_writing.specs.declared.index.resolver.IndexMapResolver.{IndexMapResolver}

-- the index map of the entries that an iterator returned is written, with a hash of each
abbrev pub WritesMap : {A R W : Type 0} → (List A → Type 0) → ℕ × ℕ → Shape → Spelling A R → WriterMembers W → (A → ℕ → Type 0) → ℕ → W → W → Result IndexMapResolver Error → Type 0
WritesMap comes load s w members hashes claimed old new result = WritesHashed comes load (written_map load s w) members hashes claimed old new result

-- the same of keys and values, by the hashes of the keys
abbrev pub WritesPairs : {A B R Q W : Type 0} → (List (A × B) → Type 0) → (A → ℕ) → ℕ × ℕ → Shape → Shape → Spelling A R → Spelling B Q → WriterMembers W → ℕ → W → W → Result IndexMapResolver Error → Type 0
WritesPairs comes hash load k v keys vals members claimed old new result =
    WritesMap comes load (tuple2 k v) (tuple2_spelling k keys v vals) members (λ e h. h ≡ hash e.0) claimed old new result
