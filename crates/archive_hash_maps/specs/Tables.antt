-- Hash tables in archives: their controls, and the positions of their items.
use Rattle.std.specs.Prelude.{◌≡◌, ℕ, ◌+◌, ◌-◌, ◌*◌, ◌<◌, ◌≤◌, nat_lt, List, [], ◌∷◌, length, slice_index, map, filter, Some, AllPairs, ⊤}
use Rattle.std.specs.List.{range_with_len}
use Rattle.archive_shape_layout.specs.Bytes.{window, word_at, target_from}
use Rattle.archive_shape_layout.specs.Shape.{Shape, size_of}
use Rattle.archive_shape_layout.specs.Shape.Shape.{table}
use Rattle.archive_shape_layout.specs.Value.{Value, Values}
use Rattle.archive_shape_layout.specs.Value.Values.{no_values, more_values}
use Rattle.archive_shape_layout.specs.Content.{Names, members, control_count}
use Rattle.archive_shape.specs.Key.{HeldAt}
use Rattle.archive_shape.specs.declared.references.refs.Ref.{Ref}
use Rattle.archive_forms_values.specs.Parts.{HasValue}
use Rattle.archive_hash_probing.specs.Controls.{AreControls}

-- the places of a table: the position of its controls, the number of places, and the controls
pub record Buckets : Type 0 where
  pub target : ℕ
  pub cap : ℕ
  pub controls : List ℕ

-- a table without items has none
abbrev pub no_buckets : Buckets
no_buckets = record { target = 0; cap = 0; controls = [] }

-- the places whose controls are tags, in ascending order
abbrev pub full_places : Buckets → List ℕ
full_places b = filter (λ p. nat_lt (slice_index b.controls p) 128) (range_with_len 0 b.cap)

-- the position of the item of a place: place p is the bucket p + 1 below the controls
abbrev pub item_position : Shape → ℕ → ℕ → ℕ
item_position s target p = target - (p + 1) * size_of s

-- the positions of the items, by ascending place
abbrev pub item_positions : Shape → Buckets → List ℕ
item_positions s b = map (item_position s b.target) (full_places b)

-- the table at a position has these places: none where its length is 0; otherwise its pointer leads to the controls,
-- the bytes have all of them and, before them, a bucket for each place, there are more places than items, and the
-- number of tags is the number of items
pub data IsTableAt (bytes : List ℕ) (s : Shape) (pos : ℕ) (b : Buckets) : Type 0 where
  has_none : word_at bytes (pos + 4) ≡ 0 → b ≡ no_buckets → IsTableAt bytes s pos b
  has_buckets :
      (word_at bytes (pos + 4) ≡ 0 → ⊥)
      → target_from pos (word_at bytes pos) ≡ Some b.target
      → word_at bytes (pos + 8) ≡ b.cap
      → word_at bytes (pos + 4) < b.cap
      → b.controls ≡ window bytes b.target (control_count b.cap)
      → b.target + control_count b.cap ≤ length bytes
      → b.cap * size_of s ≤ b.target
      → AreControls b.controls b.cap
      → length (full_places b) ≡ word_at bytes (pos + 4)
      → IsTableAt bytes s pos b

-- the table that a reference leads to has these places
abbrev pub IsTable : {T : Type 0} → Shape → Ref T → Buckets → Type 0
IsTable s this b = IsTableAt this.bytes.now s this.pos b

-- a reference leads to a table
abbrev pub HasTable : {T : Type 0} → Shape → (Names → Type 0) → Ref T → Type 0
HasTable s knows this = HasValue (table s) knows this.bytes.now this.pos

module _ (s : Shape) (knows : Names → Type 0) (bytes : List ℕ) where
  -- the values are at these positions, one at each
  abbrev pub AreItemsAt : List ℕ → Values → Type 0
  AreItemsAt [] no_values = ⊤
  AreItemsAt (p ∷ ps) (more_values w ws) = HeldAt s knows bytes p w × AreItemsAt ps ws
  AreItemsAt [] (more_values w ws) = ⊥
  AreItemsAt (p ∷ ps) no_values = ⊥

  -- the table at a position has these places, and its items are those of a value
  pub record IsTableOf (pos : ℕ) (value : Value) : Type 0 where
    pub buckets : Buckets
    pub table : IsTableAt bytes s pos buckets
    pub items : AreItemsAt (item_positions s buckets) (members value)

  -- where the layout has a table, its bytes have places, whose items are those of the table's value
  abbrev pub TableIsRead : Type 0
  TableIsRead = (pos : ℕ) (value : Value) → HeldAt (table s) knows bytes pos value → IsTableOf pos value

-- the bytes of a table have exactly one list of places
abbrev pub OneTable : Type 0
OneTable =
    (bytes : List ℕ) (s : Shape) (pos : ℕ) (b c : Buckets)
    → IsTableAt bytes s pos b
    → IsTableAt bytes s pos c
    → b ≡ c

-- each item ends before those of earlier places begin
abbrev pub ItemsDescend : Shape → Type 0
ItemsDescend s = (bytes : List ℕ) (pos : ℕ) (b : Buckets) → IsTableAt bytes s pos b → AllPairs (λ p q. q + size_of s ≤ p) (item_positions s b)
