-- What a map answers of its pairs, as a statement.
use Rattle.std.specs.Prelude.{◌≡◌, ◌⊎◌, ℕ, List, [], ◌∷◌, Some}
use Rattle.cabinet_text_grammar.specs.Keys.{MapKind}
use Rattle.cabinet_text_grammar.specs.Tree.{Tree, map, Pairs, no_pairs, more_pairs, IsLegal}
use Rattle.cabinet_text_grammar.specs.Path.{key, node_at}

-- some pair has the key and the node
abbrev pub HasPair : List ℕ → Tree → Pairs → Type 0
HasPair k u no_pairs = ⊥
HasPair k u (more_pairs l t ps) = ((l ≡ k) × (t ≡ u)) ⊎ HasPair k u ps

-- a key of a map leads to the node of a pair with that key only, and leads to a node wherever a pair has it; of a legal
-- map, to that pair's node
pub record AnswersKey (kind : MapKind) (ps : Pairs) (k : List ℕ) : Type 0 where
  pub of_pair : (u : Tree) → node_at (map kind ps) (key k ∷ []) ≡ Some u → HasPair k u ps
  pub is_there : (t : Tree) → HasPair k t ps → (u : Tree) × (node_at (map kind ps) (key k ∷ []) ≡ Some u)
  pub is_own : IsLegal (map kind ps) → (t : Tree) → HasPair k t ps → node_at (map kind ps) (key k ∷ []) ≡ Some t

-- a map answers a key exactly if it is among its pairs
abbrev pub MapAnswersItsPairs : Type 0
MapAnswersItsPairs = (kind : MapKind) (ps : Pairs) (k : List ℕ) → AnswersKey kind ps k
