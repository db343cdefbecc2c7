-- How index maps are archived, with the positions of their data in a resolver.
use Rattle.std.specs.Prelude.{ℕ, List, Option}
use Rattle.archive_shape_layout.specs.Shape.{Shape}
use Rattle.archive_forms_values.specs.Tuples.{tuple2}
use Rattle.archive_forms_laws.specs.Spelling.{Spelling}
use Rattle.archive_forms_laws.specs.Forms.{kept_as}
use Rattle.archive_forms_laws.specs.Fields.{tuple2_spelling}
use Rattle.archive_hash_writing.specs.IndexMaps.{map_spelling, index_spelling}
use Rattle.archive_hash_writing.specs.declared.index.resolver.IndexMapResolver.{IndexMapResolver}

-- the positions of the controls and of the first entry, as a resolver
abbrev pub resolver_of : Option ℕ × Option ℕ → IndexMapResolver
resolver_of r = record { table = record { pos = r.0 }; entries = r.1 }

abbrev pub positions_of : IndexMapResolver → Option ℕ × Option ℕ
positions_of r = (r.table.pos, r.entries)

-- the index map of entries with a hash for each
abbrev pub written_map : {A R : Type 0} → ℕ × ℕ → Shape → Spelling A R → List ℕ → Spelling (List A) IndexMapResolver
written_map load s w hashes = kept_as resolver_of positions_of (map_spelling load.0 load.1 s w hashes)

-- the index map of pairs, by the hashes of their keys; at most seven of eight places are full
abbrev pub pairs_spelling : {A B R Q : Type 0} → (A → ℕ) → Shape → Shape → Spelling A R → Spelling B Q → Spelling (List (A × B)) IndexMapResolver
pairs_spelling hash k v keys vals = kept_as resolver_of positions_of (index_spelling 7 8 (tuple2 k v) (tuple2_spelling k keys v vals) (λ e. hash e.0))
