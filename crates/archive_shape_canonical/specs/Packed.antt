-- Packed search trees: each node is full, except on the last level, which is filled from the left.
use Rattle.std.specs.Prelude.{◌≡◌, ℕ, zero, suc, ◌+◌, ◌-◌, ◌*◌, ◌^◌, ◌<◌, min, cond, nat_le, ⊤}
use Rattle.archive_shape_layout.specs.Value.{Values, count_values}
use Rattle.archive_shape_layout.specs.Value.Value.{group}
use Rattle.archive_shape_layout.specs.Value.Values.{no_values, more_values}
use Rattle.archive_shape_layout.specs.Content.{first_values, other_values, weave}

-- the number of entries of a full tree with `levels` levels
abbrev pub full : ℕ → ℕ → ℕ
full most levels = (most + 1) ^ levels - 1

-- the least number of levels for n entries, from `levels` on
abbrev pub levels_from : ℕ → ℕ → ℕ → ℕ → ℕ
levels_from zero most n levels = levels
levels_from (suc fuel) most n levels = cond (nat_le n (full most levels)) levels (levels_from fuel most n (levels + 1))

abbrev pub levels_for : ℕ → ℕ → ℕ
levels_for most n = levels_from n most n 0

-- the number of items of child i, below a node with n items in all: each child is full, except on the last level of the
-- tree, which is filled from the left
abbrev pub child_items : ℕ → ℕ → ℕ → ℕ
child_items most n i =
    let below = levels_for most n - 1 in
    let width = full most below - full most (below - 1) in
    full most (below - 1) + min width ((n - full most below) - i * width)

-- each child is a group of the number of items that it must have
abbrev pub ArePacked : ℕ → ℕ → ℕ → Values → Type 0
ArePacked most n i no_values = ⊤
ArePacked most n i (more_values (group vs) cs) = (count_values vs ≡ child_items most n i) × ArePacked most n (i + 1) cs
ArePacked most n i (more_values c cs) = ⊥

-- an inner node has more items than a leaf could have
abbrev pub IsPacked : ℕ → ℕ → Values → Type 0
IsPacked most zero vs = ⊤
IsPacked most (suc kind) vs =
    let n = count_values (weave (first_values (most + 1) vs) (other_values (most + 1) vs)) in
    (most < n) × ArePacked most n 0 (first_values (most + 1) vs)
