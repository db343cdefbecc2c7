-- The wholes of a document and their numbers, and which trees are documents.
use Rattle.std.specs.Prelude.{◌≡◌, ℕ, ◌==◌, ◌<◌, ◌≤◌, ◌^◌, Bool, true, false, IsTrue, ◌&&◌, ◌||◌, if◌then◌else◌, List, [], ◌∷◌, length, Option, Some, None}
use Rattle.std.specs.Str.{bytes_eq}
use Rattle.std.specs.Ordering.{is_eq, bool_cmp, int_eq}
use Rattle.cabinet_text_grammar.specs.Keys.{MapKind, ordered, hashed, kept}
use Rattle.cabinet_text_grammar.specs.Tree.{Leaf, truth, number, text, Tree, leaf, shared, nothing, just, list, map, whole, Trees, no_trees, more_trees, Pairs, no_pairs, more_pairs, depth, IsLegal}

-- ---- equal trees

abbrev pub same_leaf : Leaf → Leaf → Bool
same_leaf (truth b) (truth c) = is_eq (bool_cmp b c)
same_leaf (number m) (number n) = int_eq m n
same_leaf (text t) (text u) = bytes_eq t u
same_leaf _ _ = false

abbrev pub same_kind : MapKind → MapKind → Bool
same_kind ordered ordered = true
same_kind hashed hashed = true
same_kind kept kept = true
same_kind _ _ = false

abbrev mutual
  pub same : Tree → Tree → Bool
  same (leaf l) (leaf m) = same_leaf l m
  same (shared t) (shared u) = bytes_eq t u
  same nothing nothing = true
  same (just t) (just u) = same t u
  same (list ts) (list us) = same_trees ts us
  same (map kind ps) (map other qs) = same_kind kind other && same_pairs ps qs
  same (whole t) (whole u) = same t u
  same _ _ = false

  pub same_trees : Trees → Trees → Bool
  same_trees no_trees no_trees = true
  same_trees (more_trees t ts) (more_trees u us) = same t u && same_trees ts us
  same_trees _ _ = false

  pub same_pairs : Pairs → Pairs → Bool
  same_pairs no_pairs no_pairs = true
  same_pairs (more_pairs k t ps) (more_pairs l u qs) = bytes_eq k l && (same t u && same_pairs ps qs)
  same_pairs _ _ = false

-- ---- tables: trees that lie in wholes, each once, the last first; the first one has the number 0

-- whether a tree is in a table
abbrev pub has : List Tree → Tree → Bool
has [] t = false
has (u ∷ table) t = same u t || has table t

abbrev pub with_tree : List Tree → Tree → List Tree
with_tree table t = if has table t then table else t ∷ table

-- the number of a tree that is in a table
abbrev pub number_in : List Tree → Tree → ℕ
number_in [] t = 0
number_in (u ∷ table) t = if same u t then length table else number_in table t

-- the tree that has a number, if one has it
abbrev pub numbered : List Tree → ℕ → Option Tree
numbered [] n = None
numbered (t ∷ table) n = if length table == n then Some t else numbered table n

-- A table, and after it the trees inside the wholes of a tree that are not in it, in the order in which a walk first
-- completes them. A whole is complete after what lies in it; to enter it again adds nothing.
abbrev mutual
  pub with_wholes : List Tree → Tree → List Tree
  with_wholes table (leaf l) = table
  with_wholes table (shared t) = table
  with_wholes table nothing = table
  with_wholes table (just t) = with_wholes table t
  with_wholes table (list ts) = with_wholes_in table ts
  with_wholes table (map kind ps) = with_wholes_by table ps
  with_wholes table (whole t) = with_tree (with_wholes table t) t

  pub with_wholes_in : List Tree → Trees → List Tree
  with_wholes_in table no_trees = table
  with_wholes_in table (more_trees t ts) = with_wholes_in (with_wholes table t) ts

  pub with_wholes_by : List Tree → Pairs → List Tree
  with_wholes_by table no_pairs = table
  with_wholes_by table (more_pairs k t ps) = with_wholes_by (with_wholes table t) ps

-- the table of a document
abbrev pub wholes_of : Tree → List Tree
wholes_of t = with_wholes [] t

-- each whole of a tree has a number in a table
abbrev mutual
  pub IsNumbered : List Tree → Tree → Type 0
  IsNumbered table (leaf l) = Unit {0}
  IsNumbered table (shared t) = Unit {0}
  IsNumbered table nothing = Unit {0}
  IsNumbered table (just t) = IsNumbered table t
  IsNumbered table (list ts) = AreNumbered table ts
  IsNumbered table (map kind ps) = ArePairsNumbered table ps
  IsNumbered table (whole t) = IsTrue (has table t)

  pub AreNumbered : List Tree → Trees → Type 0
  AreNumbered table no_trees = Unit {0}
  AreNumbered table (more_trees t ts) = IsNumbered table t × AreNumbered table ts

  pub ArePairsNumbered : List Tree → Pairs → Type 0
  ArePairsNumbered table no_pairs = Unit {0}
  ArePairsNumbered table (more_pairs k t ps) = IsNumbered table t × ArePairsNumbered table ps

-- each tree may lie in a whole, whose wholes are among those before it, and is not one of those itself
abbrev pub IsTable : List Tree → Type 0
IsTable [] = Unit {0}
IsTable (t ∷ table) = (IsLegal t × (depth t < 64)) × IsNumbered table t × (has table t ≡ false) × IsTable table

-- ---- documents

-- at most 64 containers lie in one another, and wholes are counted in 64 bits
abbrev pub IsDocument : Tree → Type 0
IsDocument t = IsLegal t × (depth t ≤ 64) × (length (wholes_of t) < 2 ^ 64)
