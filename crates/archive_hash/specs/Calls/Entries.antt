-- Calls that write entries, each a key and a value, or tables of those that an iterator returns. The keys are archived as
-- `keys`, and the values as `vals`; their shapes are `k` and `v`.
use denote.Ref.{Bor, MutBor}
use Rattle.std.specs.Prelude.{ℕ, List, Option, Result}
use Rattle.std.specs.Iterator.{Drains}
use Rattle.std.specs.Map.Iter.{deref_pair}
use Rattle.archive_shape_layout.specs.Shape.{Shape}
use Rattle.archive_shape_layout.specs.Shape.Shape.{tuple}
use Rattle.archive_shape_layout.specs.Shape.Shapes.{no_shapes}
use Rattle.archive_shape_layout.specs.Writing.{WriterMembers}
use Rattle.archive_shape_layout.specs.declared.error.Error.{Error}
use Rattle.archive_shape.specs.declared.references.place.Place.{Place}
use Rattle.archive_forms_laws.specs.Fields.{unit_spelling}
use Rattle.archive_forms_laws.specs.Forms.{seen_as}
use Rattle.archive_forms_laws.specs.Serializing.{SerializesBy, CanResolveAt, ResolvesAt}
use Rattle.archive_forms_laws.specs.Spelling.{Spelling}
use Rattle.archive_forms_laws.specs.Taking.{GivesAs}
use Rattle.archive_forms_writing.specs.Entries.{entry_spelling}
use Rattle.archive_forms_writing.specs.declared.collections.entry.EntryAdapter.{EntryAdapter}
use Rattle.archive_forms_writing.specs.declared.collections.entry.EntryResolver.{EntryResolver}
use Rattle.archive_hash_maps.specs.declared.map.resolving.HashTableResolver.{HashTableResolver}
use Rattle.archive_hash_probing.specs.Inputs.{input_hash}
use Rattle.archive_hash_writing.specs.Beside.{beside_spelling}
use Rattle.archive_hash_writing.specs.Calls.{AreItems}
use Rattle.archive_hash.specs.Calls.Members.{HashMembers}
use Rattle.archive_hash.specs.Given.{WritesEntries, key_entry}
use Rattle.archive_hash.specs.declared.entry_with.ValueWith.{ValueWith}

-- ---- one entry

-- its data is written, and the result keeps its resolver
abbrev pub SerializesEntry : {A B R Q W X : Type 0} → Shape → Spelling A R → Shape → Spelling B Q → WriterMembers W → EntryAdapter A B → W → W → Result (EntryResolver R Q × X) Error → Type 0
SerializesEntry k keys v vals members entry old new result = SerializesBy (λ q. q.0) (entry_spelling k keys v vals) members entry old new result

-- that of a key, whose value is `()`
abbrev pub SerializesKey : {A R W X : Type 0} → Shape → Spelling A R → WriterMembers W → EntryAdapter A (Unit {0}) → W → W → Result (EntryResolver R (Unit {0}) × X) Error → Type 0
SerializesKey k keys members entry old new result = SerializesEntry k keys (tuple no_shapes) unit_spelling members entry old new result

-- what is required of a call that writes the own bytes of a value beside what archives it
abbrev pub CanResolveBeside : {A B R T : Type 0} → (A → Spelling B R) → Shape → ValueWith B A → R → Place T → Type 0
CanResolveBeside by s x r out = CanResolveAt (seen_as (λ v. (v.with.now, v.value.now)) (beside_spelling by)) s x r out

-- and what the call ensures
abbrev pub ResolvesBeside : {A B R T E : Type 0} → (A → Spelling B R) → Shape → ValueWith B A → R → Place T → MutBor (List ℕ) × E → Result (Unit {0}) Error → Type 0
ResolvesBeside by s x r out end result = ResolvesAt (seen_as (λ v. (v.with.now, v.value.now)) (beside_spelling by)) s x r out end result

-- ---- all that an iterator returns, of which so many are claimed, by the hashes of the keys

-- those for which `comes` holds are written as a table
abbrev pub WritesHashedEntries : {A B R Q W : Type 0} → (comes : List (A × B) → Type 0) → HashMembers A → ℕ × ℕ → Shape → Shape → Spelling A R → Spelling B Q → WriterMembers W → (claimed : ℕ) → W → W → Result HashTableResolver Error → Type 0
WritesHashedEntries comes hash load k v keys vals members claimed old new result =
    WritesEntries comes (λ x. input_hash (hash.hash_input x)) load k v keys vals members claimed old new result

-- those that an iterator gives
abbrev pub WritesGiven : {A B R Q J W : Type 0} → (J → Option (Bor A × Bor B) → J → Type 0) → J → HashMembers A → ℕ × ℕ → Shape → Shape → Spelling A R → Spelling B Q → WriterMembers W → (claimed : ℕ) → W → W → Result HashTableResolver Error → Type 0
WritesGiven gives from hash load k v keys vals members claimed old new result =
    WritesHashedEntries (Drains (GivesAs deref_pair gives) from) hash load k v keys vals members claimed old new result

-- those of a collection, of which `into` makes iterators
abbrev pub WritesCollected : {A B R Q I J W : Type 0} → (I → J → Type 0) → (J → Option (Bor A × Bor B) → J → Type 0) → I → HashMembers A → ℕ × ℕ → Shape → Shape → Spelling A R → Spelling B Q → WriterMembers W → (claimed : ℕ) → W → W → Result HashTableResolver Error → Type 0
WritesCollected into gives from hash load k v keys vals members claimed old new result =
    WritesHashedEntries (AreItems into (GivesAs deref_pair gives) from) hash load k v keys vals members claimed old new result

-- keys that an iterator gives, whose values are `()`
abbrev pub WritesGivenKeys : {A R J W : Type 0} → (J → Option (Bor A) → J → Type 0) → J → HashMembers A → ℕ × ℕ → Shape → Spelling A R → WriterMembers W → (claimed : ℕ) → W → W → Result HashTableResolver Error → Type 0
WritesGivenKeys gives from hash load k keys members claimed old new result =
    WritesHashedEntries (Drains (GivesAs key_entry gives) from) hash load k (tuple no_shapes) keys unit_spelling members claimed old new result

-- keys of a collection
abbrev pub WritesCollectedKeys : {A R I J W : Type 0} → (I → J → Type 0) → (J → Option (Bor A) → J → Type 0) → I → HashMembers A → ℕ × ℕ → Shape → Spelling A R → WriterMembers W → (claimed : ℕ) → W → W → Result HashTableResolver Error → Type 0
WritesCollectedKeys into gives from hash load k keys members claimed old new result =
    WritesHashedEntries (AreItems into (GivesAs key_entry gives) from) hash load k (tuple no_shapes) keys unit_spelling members claimed old new result
