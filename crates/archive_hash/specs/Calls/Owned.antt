-- Calls that archive maps and sets of std as tables of their entries, by the hashes of their keys. The keys are archived as
-- `keys`, and the values as `vals`; their shapes are `k` and `v`.
use denote.Ref.{MutBor}
use Rattle.std.specs.Prelude.{ℕ, List, Result}
use Rattle.archive_shape_layout.specs.Shape.{Shape}
use Rattle.archive_shape_layout.specs.Shape.Shape.{table, tuple}
use Rattle.archive_shape_layout.specs.Shape.Shapes.{no_shapes}
use Rattle.archive_shape_layout.specs.Writing.{WriterMembers}
use Rattle.archive_shape_layout.specs.declared.error.Error.{Error}
use Rattle.archive_shape.specs.declared.references.place.Place.{Place}
use Rattle.archive_forms_laws.specs.Fields.{unit_spelling}
use Rattle.archive_forms_laws.specs.Forms.{seen_as}
use Rattle.archive_forms_laws.specs.Serializing.{Serializes, CanResolveAt, ResolvesAt}
use Rattle.archive_forms_laws.specs.Spelling.{Spelling}
use Rattle.archive_forms_values.specs.Tuples.{tuple2}
use Rattle.archive_hash_maps.specs.Sets.{set_shape}
use Rattle.archive_hash_maps.specs.declared.map.resolving.HashTableResolver.{HashTableResolver}
use Rattle.archive_hash_probing.specs.Inputs.{input_hash}
use Rattle.archive_hash.specs.Calls.Members.{HashMembers}
use Rattle.archive_hash.specs.Owned.{entries_spelling, key_entries}
use Rattle.archive_hash.specs.declared.map.OwnedHashMap.{OwnedHashMap}
use Rattle.archive_hash.specs.declared.set.OwnedHashSet.{OwnedHashSet}

module _ {A B R Q : Type 0} (hash : HashMembers A) (k v : Shape) (keys : Spelling A R) (vals : Spelling B Q) where
  -- the table of some entries
  abbrev pub hashed_entries : Spelling (List (A × B)) HashTableResolver
  hashed_entries = entries_spelling (λ x. input_hash (hash.hash_input x)) k v keys vals

  -- it is written
  abbrev pub SerializesEntries : {W : Type 0} → WriterMembers W → List (A × B) → W → W → Result HashTableResolver Error → Type 0
  SerializesEntries members es old new result = Serializes hashed_entries members es old new result

  -- the table of the entries of a map
  abbrev pub map_of_std : Spelling (OwnedHashMap A B) HashTableResolver
  map_of_std = seen_as (λ m. m.map.entries) hashed_entries

  -- it is written
  abbrev pub SerializesMap : {W : Type 0} → WriterMembers W → OwnedHashMap A B → W → W → Result HashTableResolver Error → Type 0
  SerializesMap members map old new result = Serializes map_of_std members map old new result

  -- what is required of a call that writes the own bytes of a map
  abbrev pub CanResolveMap : {T : Type 0} → OwnedHashMap A B → HashTableResolver → Place T → Type 0
  CanResolveMap map r out = CanResolveAt map_of_std (table (tuple2 k v)) map r out

  -- and what the call ensures
  abbrev pub ResolvesMap : {T E : Type 0} → OwnedHashMap A B → HashTableResolver → Place T → MutBor (List ℕ) × E → Result (Unit {0}) Error → Type 0
  ResolvesMap map r out end result = ResolvesAt map_of_std (table (tuple2 k v)) map r out end result

module _ {A R : Type 0} (hash : HashMembers A) (k : Shape) (keys : Spelling A R) where
  -- the table of some keys is written, whose values are `()`
  abbrev pub SerializesKeys : {W : Type 0} → WriterMembers W → List (A × Unit {0}) → W → W → Result HashTableResolver Error → Type 0
  SerializesKeys members es old new result = SerializesEntries hash k (tuple no_shapes) keys unit_spelling members es old new result

  -- the table of the keys of a set
  abbrev pub set_of_std : Spelling (OwnedHashSet A) HashTableResolver
  set_of_std = seen_as (λ s. key_entries s.set.keys) (hashed_entries hash k (tuple no_shapes) keys unit_spelling)

  -- it is written
  abbrev pub SerializesSet : {W : Type 0} → WriterMembers W → OwnedHashSet A → W → W → Result HashTableResolver Error → Type 0
  SerializesSet members set old new result = Serializes set_of_std members set old new result

  -- what is required of a call that writes the own bytes of a set
  abbrev pub CanResolveSet : {T : Type 0} → OwnedHashSet A → HashTableResolver → Place T → Type 0
  CanResolveSet set r out = CanResolveAt set_of_std (set_shape k) set r out

  -- and what the call ensures
  abbrev pub ResolvesSet : {T E : Type 0} → OwnedHashSet A → HashTableResolver → Place T → MutBor (List ℕ) × E → Result (Unit {0}) Error → Type 0
  ResolvesSet set r out end result = ResolvesAt set_of_std (set_shape k) set r out end result
