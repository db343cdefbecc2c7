-- The keys that a map may have after others.
use Rattle.std.specs.Prelude.{◌≡◌, ◌≢◌, ℕ, List, [], ◌∷◌, All}
use Rattle.std.specs.declared.cmp.Ordering.TheVariants.{Less}
use Rattle.std.specs.Ordering.{nat_cmp}
use Rattle.std.specs.Cmp.Lexicographic.{slice_cmp}

pub data MapKind : Type 0 where
  -- by ascending keys
  ordered : MapKind
  -- by ascending keys too
  hashed : MapKind
  -- in any order, which the map keeps
  kept : MapKind

-- in the order of bytes
abbrev pub IsBelow : List ℕ → List ℕ → Type 0
IsBelow k l = slice_cmp nat_cmp k l ≡ Less

-- above the last of some keys, which are listed with the last first
abbrev pub IsAboveLast : List (List ℕ) → List ℕ → Type 0
IsAboveLast [] k = Unit {0}
IsAboveLast (last ∷ keys) k = IsBelow last k

-- the keys of an ordered and a hashed map ascend, those of a kept one are distinct; the list has the keys before, the
-- last first
abbrev pub MayFollow : MapKind → List (List ℕ) → List ℕ → Type 0
MayFollow ordered keys k = IsAboveLast keys k
MayFollow hashed keys k = IsAboveLast keys k
MayFollow kept keys k = All (λ before. before ≢ k) keys
