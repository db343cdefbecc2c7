-- Entries and keys that an iterator returns.
use Rattle.std.specs.Prelude.{◌≡◌, ℕ, List, All, Option, Result}
use Rattle.std.specs.Iterator.{Drains}
use Rattle.std.specs.Map.Iter.{deref_pair}
use Rattle.archive_shape_layout.specs.Shape.{Shape}
use Rattle.archive_shape_layout.specs.Writing.{WriterMembers}
use Rattle.archive_shape_layout.specs.declared.error.Error.{Error}
use Rattle.archive_forms_values.specs.Tuples.{tuple2}
use Rattle.archive_forms_laws.specs.Spelling.{Spelling}
use Rattle.archive_forms_laws.specs.Fields.{tuple2_spelling}
use Rattle.archive_forms_writing.specs.declared.collections.entry.EntryAdapter.{EntryAdapter}
use Rattle.archive_forms_laws.specs.Taking.{GivesAs}
use Rattle.archive_hash_maps.specs.declared.map.resolving.HashTableResolver.{HashTableResolver}
use Rattle.archive_hash_writing.specs.Claimed.{WritesTable}
use denote.Bor.{Bor}

-- the key and the value of an entry that is written, and the same as they are borrowed
abbrev pub entry_of : {A B : Type 0} → EntryAdapter A B → A × B
entry_of e = (e.key.now, e.value.now)

abbrev pub pair_of : {A B : Type 0} → EntryAdapter A B → Bor A × Bor B
pair_of e = (e.key, e.value)

-- a borrowed key as an entry whose value is a unit
abbrev pub key_entry : {A : Type 0} → Bor A → A × Unit {0}
key_entry k = (k.now, tt)

-- a step may be called for each entry of those that an iterator returns
pub record TakesGiven {A B I F : Type 0} (gives : I → Option (Bor A × Bor B) → I → Type 0) (takes : F → A × B → Type 0) (step : F) (from : I) : Type 0 where
  pub each : (es : List (A × B)) → Drains (GivesAs deref_pair gives) from es → All (takes step) es

-- the table of the entries that the iterator returned is written, by the hashes of their keys, as that of other items
abbrev pub WritesEntries : {A B R Q W : Type 0} → (List (A × B) → Type 0) → (A → ℕ) → ℕ × ℕ → Shape → Shape → Spelling A R → Spelling B Q → WriterMembers W → ℕ → W → W → Result HashTableResolver Error → Type 0
WritesEntries comes hash load k v keys vals members claimed old new result =
    WritesTable comes load (tuple2 k v) (tuple2_spelling k keys v vals) members (λ e h. h ≡ hash e.0) claimed old new result
