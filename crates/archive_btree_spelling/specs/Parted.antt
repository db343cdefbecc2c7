-- Which items are in the root of a packed search tree, and which below each of its pointers.
use Rattle.std.specs.Prelude.{ℕ, zero, suc, cond, nat_le, List, [], ◌∷◌, ◌++◌, length, take, drop}
use Rattle.archive_shape_canonical.specs.Packed.{child_items}

-- A node: its kind, 0 for a leaf and 1 for an inner node, the items below each of its pointers from left to right, and
-- its own items. A leaf has no pointers.
pub record Parted (C : Type 0) : Type 0 where
  pub kind : ℕ
  pub below : List (List C)
  pub own : List C

module _ {C : Type 0} (most n : ℕ) where
  -- of the items of an inner node, n in all: those below pointer i and below each one after it, where `more` items of
  -- the node's own follow. Between two pointers lies one of these; the rest lies below the last pointer.
  abbrev pub shares : (i more : ℕ) → List C → List (List C)
  shares i zero xs = xs ∷ []
  shares i (suc more) xs = let m = child_items most n i in take m xs ∷ shares (suc i) more (drop (suc m) xs)

  abbrev pub between : (i more : ℕ) → List C → List C
  between i zero xs = []
  between i (suc more) xs = let m = child_items most n i in take 1 (drop m xs) ++ between (suc i) more (drop (suc m) xs)

-- the node of items: a leaf where their number is at most `most`, and else an inner node with `most` items of its own
abbrev pub parted : {C : Type 0} → ℕ → List C → Parted C
parted most xs =
    let n = length xs in
    cond
    (nat_le n most)
    (record { kind = 0; below = []; own = xs })
    (record { kind = 1; below = shares most n 0 most xs; own = between most n 0 most xs })
