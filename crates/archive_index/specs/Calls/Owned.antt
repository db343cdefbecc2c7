-- Calls that archive pairs as an index map, and keys as an index set, by the hashes of the keys. The keys are archived as
-- `keys`, and the values as `vals`; their shapes are `k` and `v`.
use denote.Ref.{MutBor}
use Rattle.std.specs.Prelude.{List, ℕ, Result}
use Rattle.archive_shape_layout.specs.Shape.{Shape}
use Rattle.archive_shape_layout.specs.Shape.Shape.{index_map}
use Rattle.archive_shape_layout.specs.declared.error.Error.{Error}
use Rattle.archive_shape.specs.declared.references.place.Place.{Place}
use Rattle.archive_forms_laws.specs.Serializing.{CanResolveAt, ResolvesAt}
use Rattle.archive_forms_laws.specs.Spelling.{Spelling}
use Rattle.archive_hash_writing.specs.declared.index.resolver.IndexMapResolver.{IndexMapResolver}
use Rattle.archive_hash.specs.Calls.Members.{HashMembers}
use Rattle.archive_index.specs.Owned.{owned_set_spelling, owned_spelling}
use Rattle.archive_index.specs.Sets.{set_shape}
use Rattle.archive_index.specs.declared.owned.OwnedIndexMap.{OwnedIndexMap}
use Rattle.archive_index.specs.declared.owned_set.OwnedIndexSet.{OwnedIndexSet}

module _ {A B R Q : Type 0} (hash : HashMembers A) (k v : Shape) (keys : Spelling A R) (vals : Spelling B Q) where
  -- what is required of a call that writes the own bytes of the map
  abbrev pub CanResolveOwned : {T : Type 0} → OwnedIndexMap A B → IndexMapResolver → Place T → Type 0
  CanResolveOwned map r out = CanResolveAt (owned_spelling hash k v keys vals) (index_map k v) map r out

  -- and what the call ensures
  abbrev pub ResolvesOwned : {T E : Type 0} → OwnedIndexMap A B → IndexMapResolver → Place T → MutBor (List ℕ) × E → Result (Unit {0}) Error → Type 0
  ResolvesOwned map r out end result = ResolvesAt (owned_spelling hash k v keys vals) (index_map k v) map r out end result

module _ {A R : Type 0} (hash : HashMembers A) (k : Shape) (keys : Spelling A R) where
  -- the same of the set
  abbrev pub CanResolveOwnedSet : {T : Type 0} → OwnedIndexSet A → IndexMapResolver → Place T → Type 0
  CanResolveOwnedSet set r out = CanResolveAt (owned_set_spelling hash k keys) (set_shape k) set r out

  abbrev pub ResolvesOwnedSet : {T E : Type 0} → OwnedIndexSet A → IndexMapResolver → Place T → MutBor (List ℕ) × E → Result (Unit {0}) Error → Type 0
  ResolvesOwnedSet set r out end result = ResolvesAt (owned_set_spelling hash k keys) (set_shape k) set r out end result
