-- Pairs that are archived as an index map, and keys as an index set: how they are, and what is written of them as a whole
-- archive.
use Rattle.std.specs.Prelude.{◌≡◌, ℕ, List, [], ◌∷◌}
use Rattle.archive_shape_layout.specs.Shape.{Shape}
use Rattle.archive_forms_laws.specs.Fields.{unit_spelling}
use Rattle.archive_forms_laws.specs.Forms.{seen_as}
use Rattle.archive_forms_laws.specs.Regions.{region_fits, region_piece}
use Rattle.archive_forms_laws.specs.Spelling.{Spelling}
use Rattle.archive_forms_laws.specs.State.{initial}
use Rattle.archive_hash_probing.specs.Inputs.{input_hash}
use Rattle.archive_hash_writing.specs.IndexResolvers.{pairs_spelling}
use Rattle.archive_hash_writing.specs.declared.index.resolver.IndexMapResolver.{IndexMapResolver}
use Rattle.archive_hash.specs.Calls.Members.{HashMembers}
use Rattle.archive_hash.specs.Owned.{key_entries}
use Rattle.archive_index.specs.Sets.{unit_shape}
use Rattle.archive_index.specs.declared.owned.OwnedIndexMap.{OwnedIndexMap}
use Rattle.archive_index.specs.declared.owned_set.OwnedIndexSet.{OwnedIndexSet}

-- pairs are archived as their index map, by the hashes of the keys
abbrev pub owned_spelling : {A B R Q : Type 0} → HashMembers A → Shape → Shape → Spelling A R → Spelling B Q → Spelling (OwnedIndexMap A B) IndexMapResolver
owned_spelling hash k v keys vals = seen_as (λ m. m.pairs.items) (pairs_spelling (λ x. input_hash (hash.hash_input x)) k v keys vals)

-- keys are archived as the index map of them to `()`, by their hashes
abbrev pub owned_set_spelling : {A R : Type 0} → HashMembers A → Shape → Spelling A R → Spelling (OwnedIndexSet A) IndexMapResolver
owned_set_spelling hash k keys = seen_as (λ s. key_entries s.keys.items) (pairs_spelling (λ x. input_hash (hash.hash_input x)) k unit_shape keys unit_spelling)

-- bytes are what is written of a value where nothing was written before: its data, and then its own bytes; no limit is
-- exceeded
pub record IsWrittenOf {A R : Type 0} (s : Shape) (w : Spelling A R) (x : A) (bytes : List ℕ) : Type 0 where
  pub fits : region_fits w s (x ∷ []) initial
  pub is : bytes ≡ region_piece w s (x ∷ []) initial
