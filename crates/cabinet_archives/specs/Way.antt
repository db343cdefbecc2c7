-- The positions that a path leads through in the bytes of an archive, from node to node.
use Rattle.std.specs.Prelude.{◌≡◌, ℕ, ◌+◌, ◌*◌, List, [], ◌∷◌, slice_index}
use Rattle.archive_forms_values.specs.Parts.{PointsTo}
use Rattle.cabinet_text_grammar.specs.Path.{Step, key, place, inside}
use Rattle.cabinet_archives.specs.Hashed.{HasBucket}
use Rattle.cabinet_archives.specs.Kept.{HasNumbered}
use Rattle.cabinet_archives.specs.Ordered.{HasEntry}

-- one step from the node at `from`: by the pointer of its option, whose tag is 4, or of its whole, whose tag is 9, by the
-- pointer of its list to an element of 24 bytes, by the search tree of its ordered map, whose tag is 6, by the table of its
-- hashed map, whose tag is 7, or by the entries of its kept map, whose tag is 8
pub data StepsTo (bytes : List ℕ) (from : ℕ) : Step → ℕ → Type 0 where
  steps_inside : {s : Step} {to : ℕ} → s ≡ inside → slice_index bytes from ≡ 4 → PointsTo bytes (from + 8) to → StepsTo bytes from s to
  steps_whole : {s : Step} {to : ℕ} → s ≡ inside → slice_index bytes from ≡ 9 → PointsTo bytes (from + 4) to → StepsTo bytes from s to
  steps_place : {s : Step} {i first to : ℕ} → s ≡ place i → PointsTo bytes (from + 4) first → to ≡ first + i * 24 → StepsTo bytes from s to
  steps_key : {s : Step} {k : List ℕ} {to : ℕ} → s ≡ key k → slice_index bytes from ≡ 6 → HasEntry bytes (from + 4) k to → StepsTo bytes from s to
  steps_hashed : {s : Step} {k : List ℕ} {to : ℕ} → s ≡ key k → slice_index bytes from ≡ 7 → HasBucket bytes (from + 4) k to → StepsTo bytes from s to
  steps_kept : {s : Step} {k : List ℕ} {to : ℕ} → s ≡ key k → slice_index bytes from ≡ 8 → HasNumbered bytes (from + 4) k to → StepsTo bytes from s to

-- a path, step by step
pub data GoesTo (bytes : List ℕ) : ℕ → List Step → ℕ → Type 0 where
  goes_nowhere : {from to : ℕ} {path : List Step} → path ≡ [] → to ≡ from → GoesTo bytes from path to
  goes_on :
      {from next to : ℕ} {s : Step} {path rest : List Step}
      → path ≡ s ∷ rest
      → StepsTo bytes from s next
      → GoesTo bytes next rest to
      → GoesTo bytes from path to
