-- The entries of a written map between two bounds.
use Rattle.std.specs.Prelude.{◌≡◌, ℕ, List, filter}
use Rattle.std.specs.BTreeMap.Range.{range_contains}
use Rattle.std.specs.declared.cmp.Ordering.{Ordering}
use Rattle.std.specs.declared.ops.RangeBounds as bounds
use Rattle.archive_shape_layout.specs.Content.{Names}
use Rattle.archive_shape_layout.specs.Shape.{Shape}
use Rattle.archive_shape.specs.declared.references.refs.Ref.{Ref}
use Rattle.archive_forms_laws.specs.Spelling.{Spelling}
use Rattle.archive_btree_layout.specs.Reading.{Place}
use Rattle.archive_btree_maps.specs.Refs.{entry_at}
use Rattle.archive_btree.specs.Answering.{HasEntry}

-- the entries whose keys lie in a range, as those that `BTreeMap::range` of std returns
abbrev pub entries_in : {A B Q S : Type 0} → bounds.Ghosts S Q → S → (A → Q) → (Q → Q → Ordering) → List (A × B) → List (A × B)
entries_in r range key order es = filter (λ e. range_contains order (r.start_bound range) (r.end_bound range) (key e.0)) es

-- references lead to the place of an entry
abbrev pub IsOfEntry : {A B C D H P R : Type 0} → ℕ → Shape → Shape → (Names → Type 0) → (Names → Type 0) → Spelling A R → Spelling B P → Ref D → Ref H × Ref C → A × B → Type 0
IsOfEntry most k v knows others keys vals this pair e = (at : Place) × (pair ≡ entry_at this.bytes at) × HasEntry most k v knows others keys vals this.bytes.now at e
