-- Calls that write index maps: pairs of a key and a value, and entries that an iterator returns, by the hashes of the keys.
-- The keys are archived as `keys`, and the values as `vals`; `old` and `new` are the serializer as a call begins and ends.
use denote.Ref.{Bor, MutBor}
use denote.Param.Members.{Shared}
use Rattle.std.specs.Prelude.{◌≡◌, ℕ, ◌+◌, ◌++◌, ◌⊎◌, List, Option, Result, MatchResult}
use Rattle.std.specs.Fn.{FnReturnsAt}
use Rattle.std.specs.Iterator.{Drains}
use Rattle.std.specs.Map.Iter.{deref_pair}
use Rattle.archive_shape_layout.specs.Edit.{Spares}
use Rattle.archive_shape_layout.specs.Shape.{Shape}
use Rattle.archive_shape_layout.specs.Writing.{WriterMembers}
use Rattle.archive_shape_layout.specs.declared.error.Error.{Error}
use Rattle.archive_shape.specs.Bytes.{overwrite}
use Rattle.archive_shape.specs.declared.references.place.Place.{Place}
use Rattle.archive_forms_laws.specs.Fields.{tuple2_spelling, unit_spelling}
use Rattle.archive_forms_laws.specs.Links.{link_bytes, LinkFits, LinkRefused}
use Rattle.archive_forms_laws.specs.Serializing.{Serializes, SerializesBy}
use Rattle.archive_forms_laws.specs.Spelling.{Spelling}
use Rattle.archive_forms_laws.specs.Taking.{GivesAs}
use Rattle.archive_hash_maps.specs.Resolving.{own_bytes, IsWithinLimits, IsRefused}
use Rattle.archive_hash_probing.specs.Inputs.{input_hash}
use Rattle.archive_hash_writing.specs.Calls.{AreItems}
use Rattle.archive_hash_writing.specs.IndexResolvers.{pairs_spelling}
use Rattle.archive_hash_writing.specs.declared.index.resolver.IndexMapResolver.{IndexMapResolver}
use Rattle.archive_hash.specs.Calls.Members.{HashMembers}
use Rattle.archive_hash.specs.Given.{key_entry}
use Rattle.archive_index.specs.Sets.{unit_shape}
use Rattle.archive_index.specs.Written.{WritesMap, WritesPairs}

-- ---- own bytes

-- those of a map of `len` entries are written: the bytes of its table, and the pointer to its entries; where they are
-- refused, no other bytes change
abbrev pub ResolvesMap : {T E : Type 0} → (len : ℕ) → (load : ℕ × ℕ) → IndexMapResolver → Place T → MutBor (List ℕ) × E → Result (Unit {0}) Error → Type 0
ResolvesMap len load resolver out end result =
    MatchResult result
    (λ _. IsWithinLimits len load resolver.table.pos out.pos × LinkFits resolver.entries (out.pos + 12)
    × (end.0.now ≡ overwrite out.out.now out.start (own_bytes len load resolver.table.pos out.pos ++ link_bytes resolver.entries (out.pos + 12))))
    (λ e. (IsRefused len load resolver.table.pos out.pos e ⊎ LinkRefused resolver.entries (out.pos + 12) e)
    × Spares out.out.now end.0.now out.start 16)

-- ---- pairs

-- the data of a pair is written, and the result keeps its resolver
abbrev pub SerializesPair : {A B R Q W X : Type 0} → Shape → Spelling A R → Shape → Spelling B Q → WriterMembers W → A × B → W → W → Result ((R × Q) × X) Error → Type 0
SerializesPair k keys v vals members pair old new result = SerializesBy (λ q. q.0) (tuple2_spelling k keys v vals) members pair old new result

-- the index map of pairs is written
abbrev pub SerializesPairs : {A B R Q W : Type 0} → HashMembers A → Shape → Shape → Spelling A R → Spelling B Q → WriterMembers W → List (A × B) → W → W → Result IndexMapResolver Error → Type 0
SerializesPairs hash k v keys vals members pairs old new result =
    Serializes (pairs_spelling (λ x. input_hash (hash.hash_input x)) k v keys vals) members pairs old new result

-- ---- entries that an iterator returns, of which so many are claimed

-- those of a collection, of which `into` makes iterators, are written by the hash of each that a closure returns
abbrev pub WritesItemsMap : {T R I J F W : Type 0} → (I → J → Type 0) → (J → Option T → J → Type 0) → I → ℕ × ℕ → Shape → Spelling T R → WriterMembers W → Shared F (Bor T × Unit {0}) ℕ → F → (claimed : ℕ) → W → W → Result IndexMapResolver Error → Type 0
WritesItemsMap into gives from load s w members call hash claimed old new result =
    WritesMap (AreItems into gives from) load s w members (λ x h. FnReturnsAt call hash x h) claimed old new result

-- keys and values that an iterator gives are written
abbrev pub WritesGivenMap : {A B R Q J W : Type 0} → (J → Option (Bor A × Bor B) → J → Type 0) → J → HashMembers A → ℕ × ℕ → Shape → Shape → Spelling A R → Spelling B Q → WriterMembers W → (claimed : ℕ) → W → W → Result IndexMapResolver Error → Type 0
WritesGivenMap gives from hash load k v keys vals members claimed old new result =
    WritesPairs (Drains (GivesAs deref_pair gives) from) (λ x. input_hash (hash.hash_input x)) load k v keys vals members claimed old new result

-- keys and values of a collection are written
abbrev pub WritesCollectedMap : {A B R Q I J W : Type 0} → (I → J → Type 0) → (J → Option (Bor A × Bor B) → J → Type 0) → I → HashMembers A → ℕ × ℕ → Shape → Shape → Spelling A R → Spelling B Q → WriterMembers W → (claimed : ℕ) → W → W → Result IndexMapResolver Error → Type 0
WritesCollectedMap into gives from hash load k v keys vals members claimed old new result =
    WritesPairs (AreItems into (GivesAs deref_pair gives) from) (λ x. input_hash (hash.hash_input x)) load k v keys vals members claimed old new result

-- keys that an iterator gives are written, whose values are `()`
abbrev pub WritesGivenSet : {A R J W : Type 0} → (J → Option (Bor A) → J → Type 0) → J → HashMembers A → ℕ × ℕ → Shape → Spelling A R → WriterMembers W → (claimed : ℕ) → W → W → Result IndexMapResolver Error → Type 0
WritesGivenSet gives from hash load k keys members claimed old new result =
    WritesPairs (Drains (GivesAs key_entry gives) from) (λ x. input_hash (hash.hash_input x)) load k unit_shape keys unit_spelling members claimed old new result

-- keys of a collection are written
abbrev pub WritesCollectedSet : {A R I J W : Type 0} → (I → J → Type 0) → (J → Option (Bor A) → J → Type 0) → I → HashMembers A → ℕ × ℕ → Shape → Spelling A R → WriterMembers W → (claimed : ℕ) → W → W → Result IndexMapResolver Error → Type 0
WritesCollectedSet into gives from hash load k keys members claimed old new result =
    WritesPairs (AreItems into (GivesAs key_entry gives) from) (λ x. input_hash (hash.hash_input x)) load k unit_shape keys unit_spelling members claimed old new result
