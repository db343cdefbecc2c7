-- The node that a path leads to.
use Rattle.std.specs.Prelude.{ℕ, zero, suc, Bool, true, false, if◌then◌else◌, List, [], ◌∷◌, Option, Some, None}
use Rattle.std.specs.Str.{bytes_eq}
use Rattle.cabinet_text_grammar.specs.Tree.{Tree, just, list, map, whole, Trees, no_trees, more_trees, Pairs, no_pairs, more_pairs}

-- a step down a tree: by the key of a map, by the place in a list, into an option or a whole
pub data Step : Type 0 where
  key : List ℕ → Step
  place : ℕ → Step
  inside : Step

-- each node has its own step from the one around it, and no other
abbrev mutual
  pub node_at : Tree → List Step → Option Tree
  node_at t [] = Some t
  node_at (just t) (inside ∷ path) = node_at t path
  node_at (whole t) (inside ∷ path) = node_at t path
  node_at (list ts) (place i ∷ path) = node_in ts i path
  node_at (map kind ps) (key k ∷ path) = node_by ps k path
  node_at _ (step ∷ path) = None

  pub node_in : Trees → ℕ → List Step → Option Tree
  node_in no_trees i path = None
  node_in (more_trees t ts) zero path = node_at t path
  node_in (more_trees t ts) (suc i) path = node_in ts i path

  pub node_by : Pairs → List ℕ → List Step → Option Tree
  node_by no_pairs k path = None
  node_by (more_pairs l t ps) k path = if bytes_eq l k then node_at t path else node_by ps k path

-- whether a path leads into a whole
abbrev mutual
  pub enters : Tree → List Step → Bool
  enters (whole t) (inside ∷ path) = true
  enters (just t) (inside ∷ path) = enters t path
  enters (list ts) (place i ∷ path) = enters_in ts i path
  enters (map kind ps) (key k ∷ path) = enters_by ps k path
  enters _ path = false

  pub enters_in : Trees → ℕ → List Step → Bool
  enters_in no_trees i path = false
  enters_in (more_trees t ts) zero path = enters t path
  enters_in (more_trees t ts) (suc i) path = enters_in ts i path

  pub enters_by : Pairs → List ℕ → List Step → Bool
  enters_by no_pairs k path = false
  enters_by (more_pairs l t ps) k path = if bytes_eq l k then enters t path else enters_by ps k path
