-- What each function requires and ensures, where that is longer than a line. `old` and `new` are the serializer, or the
-- writer, as a call begins and ends; `table` is the item at each place of a table, if there is one.
use denote.Bor.{Bor}
use denote.Param.Members.{Shared}
use Rattle.std.specs.Prelude.{◌≡◌, ℕ, ◌+◌, ◌*◌, ◌^◌, ◌<◌, [], List, Vec, length, map, All, Option, Result, MatchOption, MatchResult}
use Rattle.std.specs.Fn.{FnReturnsAt}
use Rattle.std.specs.Global.{Global}
use Rattle.std.specs.Iterator.{Drains}
use Rattle.std.specs.List.{AllZip}
use Rattle.archive_shape_layout.specs.Shape.{Shape, size_of}
use Rattle.archive_shape_layout.specs.Writing.{WriterMembers}
use Rattle.archive_shape_layout.specs.declared.error.Error.{Error}
use Rattle.archive_shape_layout.specs.declared.error.Error.TheVariants.{OutOfMemory}
use Rattle.archive_shape_canonical.specs.FirstFit.{fitted_from, placed, present, written_controls}
use Rattle.archive_forms_laws.specs.Regions.{resolvers}
use Rattle.archive_forms_laws.specs.Spelling.{Spelling}
use Rattle.archive_forms_laws.specs.State.{State}
use Rattle.archive_forms_writing.specs.Calls.Items.{SerializesAll}
use Rattle.archive_forms_writing.specs.Steps.{IsElement}
use Rattle.archive_hash_maps.specs.declared.map.resolving.HashTableResolver.{HashTableResolver}
use Rattle.archive_hash_writing.specs.Claimed.{WritesTable}
use Rattle.archive_hash_writing.specs.Laying.{LaysBuckets, LaysRegion}
use Rattle.archive_hash_writing.specs.Standing.{standing}
use Rattle.archive_hash_writing.specs.Tables.{state_after_items}
use Rattle.archive_hash_writing.specs.declared.fitting.Fitted.{Fitted}

-- ---- before anything is written; the only error is `OutOfMemory`

-- the hash of each item
abbrev pub HashesItems : {F A : Type 0} → Shared F (Bor A × Unit {0}) ℕ → F → List A → Result (Vec ℕ Global) Error → Type 0
HashesItems call hash items result =
    MatchResult result (λ hashes. AllZip (λ x h. FnReturnsAt call hash x h) items hashes.items) (λ e. e ≡ OutOfMemory)

-- the first fit of each hash among so many places, and the controls
abbrev pub FitsHashes : (capacity : ℕ) → (hashes : List ℕ) → Result Fitted Error → Type 0
FitsHashes capacity hashes result =
    MatchResult result
    (λ fitted. (fitted.places.items ≡ fitted_from capacity [] hashes)
    × (fitted.controls.items ≡ written_controls capacity hashes (fitted_from capacity [] hashes))
    × (length fitted.places.items ≡ length hashes)
    × All (λ place. place < capacity) fitted.places.items)
    (λ e. e ≡ OutOfMemory)

-- the item at each of so many places, if there is one
abbrev pub PlacesItems : {A : Type 0} → (capacity : ℕ) → (places : List ℕ) → List A → Result (Vec (Option (Bor A)) Global) Error → Type 0
PlacesItems capacity places items result =
    MatchResult result (λ table. map standing table.items ≡ placed capacity places items) (λ e. e ≡ OutOfMemory)

-- where the buckets of a table that begin at `from` end and its controls begin, if the region begins before position
-- 2^32 and ends before position 2^64
abbrev pub FindsControls : Shape → (from places controls : ℕ) → Option ℕ → Type 0
FindsControls s from places controls found =
    MatchOption found
    ((from < 2 ^ 32) × (from + places * size_of s + controls < 2 ^ 64) → ⊥)
    (λ to. (to ≡ from + places * size_of s) × (from < 2 ^ 32) × (to + controls < 2 ^ 64))

-- ---- the items of a table

module _ {A R W : Type 0} (w : Spelling A R) (members : WriterMembers W) (table : List (Option (Bor A))) where
  -- their data is written by ascending place, and the result is their resolvers
  abbrev pub LaysPresent : W → W → Result (Vec R Global) Error → Type 0
  LaysPresent old new result = SerializesAll w members (present (map standing table)) old new result

module _ {A R : Type 0} (w : Spelling A R) (table : List (Option (Bor A))) (kept : List R) where
  -- these are their resolvers, if their data was written from a state on
  abbrev pub AreResolvers : State → Type 0
  AreResolvers st = kept ≡ resolvers w (present (map standing table)) st

  -- from some state on
  abbrev pub AreMade : Type 0
  AreMade = (st : State) × AreResolvers st

  -- the buckets are written, whichever state these resolvers were made from
  abbrev pub WritesBuckets : {W : Type 0} → Shape → WriterMembers W → W → W → Result (Unit {0}) Error → Type 0
  WritesBuckets s members old new result =
      (st : State) → AreResolvers st → LaysBuckets s w members (map standing table) st old new result

  -- the buckets and the controls are written after the data, and the result is the position of the controls
  abbrev pub WritesRegion : {W : Type 0} → Shape → WriterMembers W → (controls : List ℕ) → W → W → Result ℕ Error → Type 0
  WritesRegion s members controls old new result =
      (st : State) → AreResolvers st
      → members.pos old ≡ (state_after_items s w (map standing table) st).pos
      → LaysRegion s w members (map standing table) controls st old new result

-- ---- the items that an iterator returns, which `into` makes of a collection and `gives` steps

module _ {I J T : Type 0} (into : I → J → Type 0) (gives : J → Option T → J → Type 0) (iter : I) where
  -- these are the items
  abbrev pub AreItems : List T → Type 0
  AreItems xs = (it : J) × into iter it × Drains gives it xs

  -- a hash may be computed of each of them
  abbrev pub MayHashItems : (Bor T → Type 0) → Type 0
  MayHashItems pre = (it : J) (xs : List T) → into iter it → Drains gives it xs → (x : Bor T) → IsElement xs x.now → pre x

  -- their table is written, by the hash of each
  abbrev pub WritesItems : {F R W : Type 0} → ℕ × ℕ → Shape → Spelling T R → WriterMembers W → Shared F (Bor T × Unit {0}) ℕ → F → (claimed : ℕ) → W → W → Result HashTableResolver Error → Type 0
  WritesItems load s w members call hash claimed old new result =
      WritesTable AreItems load s w members (λ x h. FnReturnsAt call hash x h) claimed old new result
