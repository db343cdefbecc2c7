-- The contract of a call that writes the table of the items that an iterator returns, whose number the caller claims.
use Rattle.std.specs.Prelude.{◌≡◌, ℕ, ◌⊎◌, List, length, Result, Err}
use Rattle.std.specs.List.{AllZip}
use Rattle.archive_shape_layout.specs.Shape.{Shape}
use Rattle.archive_shape_layout.specs.Writing.{WriterMembers}
use Rattle.archive_shape_layout.specs.declared.error.Error.{Error}
use Rattle.archive_shape_layout.specs.declared.error.Error.TheVariants.{InvalidLoadFactor, IteratorLengthMismatch}
use Rattle.archive_forms_laws.specs.Spelling.{Spelling}
use Rattle.archive_forms_laws.specs.Forms.{kept_as}
use Rattle.archive_forms_laws.specs.Serializing.{Serializes}
use Rattle.archive_forms_writing.specs.Claims.{RefusesMemory}
use Rattle.archive_hash_probing.specs.Loads.{IsLoadFactor}
use Rattle.archive_hash_maps.specs.declared.map.resolving.HashTableResolver.{HashTableResolver}
use Rattle.archive_hash_writing.specs.Tables.{hashed_spelling}

-- the resolver of a table is the position of its controls, if it has places
abbrev pub written_spelling : {A R : Type 0} → ℕ × ℕ → Shape → Spelling A R → List ℕ → Spelling (List A) HashTableResolver
written_spelling load s w hashes = kept_as (λ n. record { pos = n }) (λ r. r.pos) (hashed_spelling load.0 load.1 s w hashes)

-- the load factor is not valid, and nothing was written
abbrev pub RefusesLoadFactor : {Q W : Type 0} → ℕ × ℕ → W → W → Result Q Error → Type 0
RefusesLoadFactor load old new result = (IsLoadFactor load → ⊥) × (result ≡ Err InvalidLoadFactor) × (new ≡ old)

-- The iterator returned these items. If their number is the claimed one, they are written, with a hash of each, as the
-- spelling of these hashes has it; otherwise the error has both numbers, and nothing is written.
abbrev pub WritesClaimed : {A Q W : Type 0} → (List ℕ → Spelling (List A) Q) → WriterMembers W → (A → ℕ → Type 0) → ℕ → List A → W → W → Result Q Error → Type 0
WritesClaimed spelled members hashes claimed xs old new result =
    ((length xs ≡ claimed) × (hs : List ℕ) × AllZip hashes xs hs × Serializes (spelled hs) members xs old new result)
    ⊎ ((length xs ≡ claimed → ⊥) × (result ≡ Err (IteratorLengthMismatch claimed (length xs))) × (new ≡ old))

-- of the items for which `comes` holds
abbrev pub WritesHashed : {A Q W : Type 0} → (List A → Type 0) → ℕ × ℕ → (List ℕ → Spelling (List A) Q) → WriterMembers W → (A → ℕ → Type 0) → ℕ → W → W → Result Q Error → Type 0
WritesHashed {A = A} comes load spelled members hashes claimed old new result =
    RefusesLoadFactor load old new result
    ⊎ (IsLoadFactor load
    × (RefusesMemory old new result ⊎ ((xs : List A) × comes xs × WritesClaimed spelled members hashes claimed xs old new result)))

-- they are written as a table
abbrev pub WritesTable : {A R W : Type 0} → (List A → Type 0) → ℕ × ℕ → Shape → Spelling A R → WriterMembers W → (A → ℕ → Type 0) → ℕ → W → W → Result HashTableResolver Error → Type 0
WritesTable comes load s w members hashes claimed old new result =
    WritesHashed comes load (written_spelling load s w) members hashes claimed old new result
