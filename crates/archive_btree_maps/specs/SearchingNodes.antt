-- What the bytes of a node contain, read by its layout.
use Rattle.std.specs.Prelude.{◌≡◌, ℕ, ◌+◌, ◌*◌, ◌^◌, ◌<◌, ◌≤◌, cond, nat_eq, List, length, slice_index, Bool, Option, Some, None}
use Rattle.archive_shape_layout.specs.Bytes.{word_at, target_from}
use Rattle.archive_btree_layout.specs.Reading.{Place}
use Rattle.archive_btree_maps.specs.declared.nodes.layout.NodeLayout.{NodeLayout}
use Rattle.archive_btree_maps.specs.declared.nodes.searching.node.EntryAt.{EntryAt}

abbrev pub place_of : EntryAt → Place
place_of e = record { key = e.key; value = e.value }

-- the position that the pointer at a position points to, if it is valid
abbrev pub pointer_at : List ℕ → ℕ → Option ℕ
pointer_at bytes link = cond (nat_eq (word_at bytes link) 1) None (target_from link (word_at bytes link))

module _ (bytes : List ℕ) (l : NodeLayout) (pos : ℕ) where
  abbrev pub is_leaf : Bool
  is_leaf = nat_eq (slice_index bytes pos) 0

  -- the number of entries of the node at a position
  abbrev pub entry_count : ℕ
  entry_count = cond is_leaf (word_at bytes (pos + l.links)) l.entries

  -- the position of the pointer to child i
  abbrev pub link_at : ℕ → ℕ
  link_at i = pos + l.links + 4 * i

  -- the position of child i, if there is one
  abbrev pub child_of : ℕ → Option ℕ
  child_of i = cond is_leaf None (pointer_at bytes (link_at i))

-- the positions of the key and the value of entry i of the node at a position
abbrev pub entry_of : NodeLayout → ℕ → ℕ → Place
entry_of l pos i = record { key = pos + l.keys + i * l.key_size; value = pos + l.values + i * l.value_size }

-- the pointer at a position leads to another one, if it is valid
abbrev pub Leads : List ℕ → ℕ → Type 0
Leads bytes link = (word_at bytes link ≡ 1 → ⊥) → (child : ℕ) × (target_from link (word_at bytes link) ≡ Some child) × (child < 2 ^ 64)

-- a node can be read: its entries and pointers lie in the buffer, and the pointers to children lead to positions
pub record IsReadable (bytes : List ℕ) (l : NodeLayout) (pos : ℕ) : Type 0 where
  pub keys : l.keys + l.entries * l.key_size ≤ l.links
  pub values : l.values + l.entries * l.value_size ≤ l.links
  pub link : link_at bytes l pos 1 ≤ length bytes
  pub count : entry_count bytes l pos ≤ l.entries
  pub links : (slice_index bytes pos ≡ 0 → ⊥) → link_at bytes l pos (l.entries + 1) ≤ length bytes
  pub leads :
      (slice_index bytes pos ≡ 0 → ⊥)
      → (i : ℕ) → i ≤ l.entries → Leads bytes (link_at bytes l pos i)
