-- How maps that own their entries are archived.
use Rattle.std.specs.Prelude.{ℕ, List, map}
use Rattle.archive_shape_layout.specs.Shape.{Shape}
use Rattle.archive_forms_values.specs.Tuples.{tuple2}
use Rattle.archive_forms_laws.specs.Spelling.{Spelling}
use Rattle.archive_forms_laws.specs.Forms.{kept_as}
use Rattle.archive_forms_laws.specs.Fields.{tuple2_spelling}
use Rattle.archive_hash_maps.specs.declared.map.resolving.HashTableResolver.{HashTableResolver}
use Rattle.archive_hash_writing.specs.Tables.{table_spelling}

-- entries are archived as their table, by the hashes of their keys; at most seven of eight places are full
abbrev pub entries_spelling : {A B R Q : Type 0} → (A → ℕ) → Shape → Shape → Spelling A R → Spelling B Q → Spelling (List (A × B)) HashTableResolver
entries_spelling hash k v keys vals = kept_as (λ pos. record { pos = pos }) (λ r. r.pos) (table_spelling 7 8 (tuple2 k v) (tuple2_spelling k keys v vals) (λ e. hash e.0))

-- the entries that a set has as a map of its keys to `()`
abbrev pub key_entries : {A : Type 0} → List A → List (A × Unit {0})
key_entries ks = map (λ k. (k, tt)) ks
