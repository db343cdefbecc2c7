-- What holds of edits that add, replace and remove nodes, as statements.
use Rattle.std.specs.Prelude.{◌≡◌, ◌≢◌, ◌⊎◌, ⊤, ℕ, suc, ◌≤◌, ◌<◌, ◌^◌, List, [], ◌∷◌, ◌++◌, Some, None, All}
use Rattle.cabinet_text_grammar.specs.Line.{IsStep}
use Rattle.cabinet_text_grammar.specs.Path.{Step, key, place, inside, node_at}
use Rattle.cabinet_text_grammar.specs.Restructuring.{Edited, edited, put, insert, remove}
use Rattle.cabinet_text_grammar.specs.Tree.{Tree, just, list, map, Trees, no_trees, more_trees, Pairs, no_pairs, more_pairs, count, pair_count, IsLegal}
use Rattle.cabinet_text_grammar.specs.Wholes.{wholes_of, IsDocument}

-- ---- what is edited is a document

-- elements and pairs are counted in 64 bits
abbrev mutual
  pub IsCounted : Tree → Type 0
  IsCounted (just t) = IsCounted t
  IsCounted (list ts) = AreCounted ts × (count ts < 2 ^ 64)
  IsCounted (map kind ps) = PairsAreCounted ps × (pair_count ps < 2 ^ 64)
  IsCounted _ = ⊤

  pub AreCounted : Trees → Type 0
  AreCounted no_trees = ⊤
  AreCounted (more_trees t ts) = IsCounted t × AreCounted ts

  pub PairsAreCounted : Pairs → Type 0
  PairsAreCounted no_pairs = ⊤
  PairsAreCounted (more_pairs k t ps) = IsCounted t × PairsAreCounted ps

-- a document with the same wholes
pub record StaysDocument (t u : Tree) : Type 0 where
  pub document : IsDocument u
  pub wholes : wholes_of u ≡ wholes_of t

-- a node that is put or inserted is legal and has no wholes
abbrev pub KeepsDocument : (Tree → List Step → Tree → Edited Tree) → List Step → Type 0
KeepsDocument edit path =
    (t new u : Tree) → IsDocument t → IsLegal new → wholes_of new ≡ [] → edit t path new ≡ edited u → IsCounted u → StaysDocument t u

-- a new key is UTF-8, as those of lines are
abbrev pub PutKeepsDocument : Type 0
PutKeepsDocument = (path : List Step) → All IsStep path → KeepsDocument put path

abbrev pub InsertKeepsDocument : Type 0
InsertKeepsDocument = (path : List Step) → KeepsDocument insert path

abbrev pub RemoveKeepsDocument : Type 0
RemoveKeepsDocument = (t u : Tree) (path : List Step) → IsDocument t → remove t path ≡ edited u → StaysDocument t u

-- ---- where paths lead after an edit

-- neither of two paths begins with the other
abbrev pub Part : List Step → List Step → Type 0
Part (step ∷ path) (other ∷ rest) = (step ≢ other) ⊎ ((step ≡ other) × Part path rest)
Part _ _ = ⊥

-- the path leads to the new node, and paths that part from it lead where they led
pub record PutLeads (t new u : Tree) (path : List Step) : Type 0 where
  pub there : node_at u path ≡ Some new
  pub others : (other : List Step) → Part path other → node_at u other ≡ node_at t other

abbrev pub PutLeadsToNew : Type 0
PutLeadsToNew = (t new u : Tree) (path : List Step) → put t path new ≡ edited u → PutLeads t new u path

-- so it is after a node was inserted at a place; those of the elements from there on have a place one greater
pub record InsertLeads (t new u : Tree) (path : List Step) (i : ℕ) : Type 0 where
  pub there : node_at u (path ++ place i ∷ []) ≡ Some new
  pub before : (j : ℕ) (rest : List Step) → j < i → node_at u (path ++ place j ∷ rest) ≡ node_at t (path ++ place j ∷ rest)
  pub behind : (j : ℕ) (rest : List Step) → i ≤ j → node_at u (path ++ place (suc j) ∷ rest) ≡ node_at t (path ++ place j ∷ rest)
  pub others : (other : List Step) → Part path other → node_at u other ≡ node_at t other

-- nothing is inserted but at a place
abbrev pub InsertMovesElements : Type 0
InsertMovesElements =
    (t new u : Tree) (path : List Step) → insert t path new ≡ edited u
    → (before : List Step) × (i : ℕ) × (path ≡ before ++ place i ∷ []) × InsertLeads t new u before i

-- after what was at a step was removed: nothing is at the key of a map or in the option, and the elements behind a place have
-- a place one less
pub record RemoveLeads (t u : Tree) (path : List Step) (step : Step) : Type 0 where
  pub key_gone : (k : List ℕ) (rest : List Step) → step ≡ key k → node_at u (path ++ step ∷ rest) ≡ None
  pub inside_gone : (rest : List Step) → step ≡ inside → node_at u (path ++ step ∷ rest) ≡ None
  pub before : (i j : ℕ) (rest : List Step) → step ≡ place i → j < i → node_at u (path ++ place j ∷ rest) ≡ node_at t (path ++ place j ∷ rest)
  pub behind : (i j : ℕ) (rest : List Step) → step ≡ place i → i ≤ j → node_at u (path ++ place j ∷ rest) ≡ node_at t (path ++ place (suc j) ∷ rest)
  pub other_keys : (k l : List ℕ) (rest : List Step) → step ≡ key k → k ≢ l → node_at u (path ++ key l ∷ rest) ≡ node_at t (path ++ key l ∷ rest)
  pub others : (other : List Step) → Part path other → node_at u other ≡ node_at t other

abbrev pub RemoveMovesElements : Type 0
RemoveMovesElements =
    (t u : Tree) (path : List Step) → IsLegal t → remove t path ≡ edited u
    → (before : List Step) × (step : Step) × (path ≡ before ++ step ∷ []) × RemoveLeads t u before step
