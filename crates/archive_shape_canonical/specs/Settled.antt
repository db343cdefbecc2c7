-- Where the layout leaves a choice, and what is chosen: search trees are packed, and tables are filled by a fit.
use Rattle.std.specs.Prelude.{◌≡◌, ℕ, Bool, true, false, ◌≤◌, List, [], ◌∷◌, slice_index, ⊤}
use Rattle.archive_shape_layout.specs.Value.{Values, count_values}
use Rattle.archive_shape_layout.specs.Value.Value.{natural, group}
use Rattle.archive_shape_layout.specs.Value.Values.{no_values, more_values}
use Rattle.archive_shape_layout.specs.Content.{Part, members}
use Rattle.archive_shape_layout.specs.Content.Part.{at, behind, node, child, entry, buckets, place_at}
use Rattle.archive_shape_canonical.specs.Packed.{IsPacked}
use Rattle.archive_shape_canonical.specs.Seen.{seen_bytes, seen_values}
use Rattle.archive_shape_canonical.specs.Sharing.{all_erased}

-- How tables are filled. It is given items with their keys alone: those of a table place by place, those of an index
-- map in its order.
pub record Fit : Type 0 where
  -- whether tables are filled so; otherwise they may be filled in any way
  pub binds : Bool
  -- the number of places for a number of items
  pub capacity : ℕ → ℕ
  pub table_controls : Values → List ℕ
  -- the items of a table in the order of their places
  pub table_items : Values → Values
  pub map_controls : Values → List ℕ
  -- the number of the entry in each full place of an index map
  pub map_numbers : Values → List ℕ

-- the fit that binds nothing: tables may be filled in any way
abbrev pub free : Fit
free = record { binds = false; capacity = λ n. n; table_controls = λ vs. []; table_items = λ vs. vs; map_controls = λ vs. []; map_numbers = λ vs. [] }

abbrev pub naturals : List ℕ → Values
naturals [] = no_values
naturals (n ∷ ns) = more_values (natural n) (naturals ns)

-- a table of `len` items; an index map, whose numbers come before its entries
abbrev pub IsFilledSo : Fit → List ℕ → ℕ → ℕ → Values → Type 0
IsFilledSo fit controls len cap (more_values items no_values) =
    let keys = all_erased (members items) in
    (count_values (members items) ≡ len) × (cap ≡ fit.capacity len) × (controls ≡ fit.table_controls keys) × (keys ≡ fit.table_items keys)
IsFilledSo fit controls len cap (more_values numbers (more_values entries no_values)) =
    let keys = all_erased (members entries) in
    (count_values (members entries) ≡ len) × (cap ≡ fit.capacity len) × (controls ≡ fit.map_controls keys) × (numbers ≡ group (naturals (fit.map_numbers keys)))
IsFilledSo fit controls len cap vs = ⊥

abbrev pub IsAsked : Bool → Type 0 → Type 0
IsAsked true A = A
IsAsked false A = ⊤

-- where a fit binds
abbrev pub IsFitted : Fit → List ℕ → ℕ → ℕ → Values → Type 0
IsFitted fit controls len cap vs = IsAsked fit.binds (IsFilledSo fit controls len cap vs)

-- what leads to a node leads to items
abbrev pub HasItems : Values → Type 0
HasItems (more_values v vs) = 1 ≤ count_values (members v)
HasItems no_values = ⊥

-- of a part that leads to others, by the first of them
abbrev pub LeadsSettled : Fit → List ℕ → List Part → Values → Type 0
LeadsSettled fit seen [] vs = ⊤
LeadsSettled fit seen (at pos s ∷ ps) vs = ⊤
LeadsSettled fit seen (behind pos p len ∷ ps) vs = ⊤
LeadsSettled fit seen (node level most k v pos ∷ ps) vs = HasItems vs
LeadsSettled fit seen (child level most k v pos ∷ ps) vs = ⊤
LeadsSettled fit seen (entry k key_pos v value_pos ∷ ps) vs = ⊤
LeadsSettled fit seen (buckets target len cap it ∷ ps) vs = IsFitted fit seen len cap vs
LeadsSettled fit seen (place_at pos limit ∷ ps) vs = ⊤

-- of what is seen of a part's bytes and of the values of its parts
abbrev pub SeenSettled : Fit → List ℕ → Part → List Part → Values → Type 0
SeenSettled fit seen (at pos s) ps vs = LeadsSettled fit seen ps vs
SeenSettled fit seen (behind pos p len) ps vs = ⊤
SeenSettled fit seen (node level most k v pos) ps vs = IsPacked most (slice_index seen 0) vs
SeenSettled fit seen (child level most k v pos) ps vs = LeadsSettled fit seen ps vs
SeenSettled fit seen (entry k key_pos v value_pos) ps vs = ⊤
SeenSettled fit seen (buckets target len cap it) ps vs = ⊤
SeenSettled fit seen (place_at pos limit) ps vs = ⊤

abbrev pub IsSettled : Fit → List ℕ → Part → List Part → Values → Type 0
IsSettled fit bytes p ps vs = SeenSettled fit (seen_bytes bytes p ps) p ps (seen_values p ps vs)
