-- Trees of ten kinds of nodes.
use Rattle.std.specs.Prelude.{ℕ, suc, ◌<◌, ◌^◌, max, ℤ, Bool, List, [], ◌∷◌, IsUtf8, FitsSigned}
use Rattle.std.specs.Int.{w64}
use Rattle.cabinet_text_grammar.specs.Keys.{MapKind, MayFollow}

-- the leaves that a line may set: a truth value, a number, the bytes of a text
pub data Leaf : Type 0 where
  truth : Bool → Leaf
  number : ℤ → Leaf
  text : List ℕ → Leaf

mutual
  pub data Tree : Type 0 where
    leaf : Leaf → Tree
    -- a shared text
    shared : List ℕ → Tree
    -- an option without a node, and with one
    nothing : Tree
    just : Tree → Tree
    list : Trees → Tree
    map : MapKind → Pairs → Tree
    -- a whole, and the tree inside it
    whole : Tree → Tree

  -- the elements of a list
  pub data Trees : Type 0 where
    no_trees : Trees
    more_trees : Tree → Trees → Trees

  -- the keys of a map, each with its node
  pub data Pairs : Type 0 where
    no_pairs : Pairs
    more_pairs : List ℕ → Tree → Pairs → Pairs

abbrev pub count : Trees → ℕ
count no_trees = 0
count (more_trees t ts) = suc (count ts)

abbrev pub pair_count : Pairs → ℕ
pair_count no_pairs = 0
pair_count (more_pairs k t ps) = suc (pair_count ps)

-- the largest number of containers that lie in one another; options, lists, maps and wholes are containers
abbrev mutual
  pub depth : Tree → ℕ
  depth (leaf l) = 0
  depth (shared t) = 0
  depth nothing = 1
  depth (just t) = suc (depth t)
  depth (list ts) = suc (most_depth ts)
  depth (map kind ps) = suc (pairs_depth ps)
  depth (whole t) = suc (depth t)

  pub most_depth : Trees → ℕ
  most_depth no_trees = 0
  most_depth (more_trees t ts) = max (depth t) (most_depth ts)

  pub pairs_depth : Pairs → ℕ
  pairs_depth no_pairs = 0
  pairs_depth (more_pairs k t ps) = max (depth t) (pairs_depth ps)

-- numbers are those of 64 bits with a sign, texts are UTF-8
abbrev pub IsLeaf : Leaf → Type 0
IsLeaf (truth b) = Unit {0}
IsLeaf (number n) = FitsSigned w64 n
IsLeaf (text t) = IsUtf8 t

-- elements and pairs are counted in 64 bits, keys are UTF-8, and each may follow those before it
abbrev mutual
  pub IsLegal : Tree → Type 0
  IsLegal (leaf l) = IsLeaf l
  IsLegal (shared t) = IsUtf8 t
  IsLegal nothing = Unit {0}
  IsLegal (just t) = IsLegal t
  IsLegal (list ts) = AreLegal ts × (count ts < 2 ^ 64)
  IsLegal (map kind ps) = ArePairs kind [] ps × (pair_count ps < 2 ^ 64)
  IsLegal (whole t) = IsLegal t

  pub AreLegal : Trees → Type 0
  AreLegal no_trees = Unit {0}
  AreLegal (more_trees t ts) = IsLegal t × AreLegal ts

  -- the pairs of a map that has these keys before them, the last first
  pub ArePairs : MapKind → List (List ℕ) → Pairs → Type 0
  ArePairs kind keys no_pairs = Unit {0}
  ArePairs kind keys (more_pairs k t ps) = (IsUtf8 k × MayFollow kind keys k) × (IsLegal t × ArePairs kind (k ∷ keys) ps)
