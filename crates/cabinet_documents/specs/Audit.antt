-- The faults of bytes that hold a node, in the order in which opening reports them.
use Rattle.std.specs.Prelude.{◌≡◌, ℕ, ◌<◌, Bool, true, false, cond, ◌==◌, nat_lt, List, [], ◌∷◌, ◌++◌, length, slice_index, Option, Some, None, ⊤}
use Rattle.std.specs.List.{flat_map}
use Rattle.archive_shape_layout.specs.Shape.Shape.{tree, table, index_map}
use Rattle.archive_shape_layout.specs.Shape.Pointee.{sized}
use Rattle.archive_shape_layout.specs.Value.{Value}
use Rattle.archive_shape_layout.specs.Content.{Part, members}
use Rattle.archive_shape_layout.specs.Content.Part.{at, behind}
use Rattle.archive_shape_layout.specs.Holds.{Region, Visit, HasRoot, root_position}
use Rattle.archive_shape.specs.Range.{Range}
use Rattle.archive_shape.specs.PartFault.{PartFault}
use Rattle.archive_shape_layout.specs.declared.error.Error.{Error}
use Rattle.cabinet_documents.specs.Node.{node_shape, node_names}
use Rattle.cabinet_documents.specs.Order.{ascend}
use Rattle.cabinet_documents.specs.Walk.{Stop, Walks, is_container}
use Rattle.cabinet_documents.specs.Table.{Slot, Entry, Table, item_keys, hashed_at, kept_at, table_of, tag_of, Findable, found, gives, entry_of}

pub data Unsound : Type 0 where
  too_deep keys_not_ascending wrong_tag not_found : Unsound

-- ---- in the order of opening

abbrev pub unless : Bool → Unsound → List Unsound
unless true u = []
unless false u = u ∷ []

-- a container is too deep inside 64 or more others
abbrev pub deep_faults : Stop → List Unsound
deep_faults s = cond (is_container s.part) (unless (nat_lt s.depth 64) too_deep) []

abbrev pub tag_faults : Table → Slot → List Unsound
tag_faults t s = unless (slice_index t.controls s.place == tag_of s.key) wrong_tag

abbrev pub search_faults : Table → Entry → List Unsound
search_faults t e = unless (gives t (found t e.key) e.number) not_found

-- a hashed map: at each full place the tag, then the look-up; a kept map: all tags, then all look-ups
abbrev pub hashed_faults : Table → List Unsound
hashed_faults t = flat_map (λ s. tag_faults t s ++ search_faults t (entry_of s)) t.slots

abbrev pub kept_faults : Table → List Unsound
kept_faults t = flat_map (tag_faults t) t.slots ++ flat_map (search_faults t) t.entries

abbrev pub map_faults : List ℕ → Part → Value → List Unsound
map_faults bytes (at pos (tree most k v)) w = unless (ascend (item_keys (members w))) keys_not_ascending
map_faults bytes (at pos (table s)) w = hashed_faults (table_of hashed_at bytes pos w)
map_faults bytes (at pos (index_map k v)) w = kept_faults (table_of kept_at bytes pos w)
map_faults bytes p w = []

-- the faults of each stop of a walk, in order
abbrev pub faults : List ℕ → List Stop → List Unsound
faults bytes walk = flat_map (λ (s : Stop). deep_faults s ++ map_faults bytes s.part s.value) walk

abbrev pub first_of : List Unsound → Option Unsound
first_of [] = None
first_of (u ∷ us) = Some u

abbrev pub root_part : List ℕ → Part
root_part bytes = behind (root_position (length bytes) node_shape) (sized node_shape) 1

-- the first fault of bytes that hold a node at their root
pub record AuditFault (bytes : List ℕ) (u : Unsound) : Type 0 where
  pub value : Value
  pub regions : List Region
  pub visits : List Visit
  pub root : HasRoot node_names bytes (root_position (length bytes) node_shape) node_shape value regions visits
  pub walk : List Stop
  pub walked : Walks node_names bytes 0 (root_part bytes) value walk
  pub first : first_of (faults bytes walk) ≡ Some u

-- ---- when there are none

abbrev pub IsMapSound : List ℕ → Part → Value → Type 0
IsMapSound bytes (at pos (tree most k v)) w = ascend (item_keys (members w)) ≡ true
IsMapSound bytes (at pos (table s)) w = Findable (table_of hashed_at bytes pos w)
IsMapSound bytes (at pos (index_map k v)) w = Findable (table_of kept_at bytes pos w)
IsMapSound bytes p w = ⊤

abbrev pub IsSound : List ℕ → Stop → Type 0
IsSound bytes s = (is_container s.part ≡ true → s.depth < 64) × IsMapSound bytes s.part s.value

-- ---- why bytes are not opened

pub data Refusal : Type 0 where
  access : Error → Refusal
  unsound : Unsound → Refusal
  out_of_memory : Refusal

-- all `len` bytes, in which 2199 regions may nest
abbrev pub whole_range : ℕ → Range
whole_range len = record { start = 0; end = len; most = 2199; level = 0 }

abbrev pub IsRefusedFor : List ℕ → Refusal → Type 0
IsRefusedFor bytes (access e) = PartFault node_names bytes [] [] (root_part bytes) (whole_range (length bytes)) e
IsRefusedFor bytes (unsound u) = AuditFault bytes u
IsRefusedFor bytes out_of_memory = ⊤
