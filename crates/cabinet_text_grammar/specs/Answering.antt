-- The answer to a line, and the document after it.
use Rattle.std.specs.Prelude.{ℕ, zero, suc, ◌==◌, Bool, true, false, ◌&&◌, if◌then◌else◌, List, [], ◌∷◌, ◌++◌, length, Option, Some, None, codes}
use Rattle.std.specs.List.{filter}
use Rattle.std.specs.Str.{bytes_eq}
use Rattle.std.specs.Fmt.{decimal}
use Rattle.std.specs.Ordering.{is_lt, is_ge, nat_cmp}
use Rattle.std.specs.Cmp.Lexicographic.{slice_cmp}
use Rattle.cabinet_text_grammar.specs.Keys.{ordered, kept}
use Rattle.cabinet_text_grammar.specs.Tree.{Leaf, truth, number, text, Tree, leaf, shared, nothing, just, list, map, whole, Trees, no_trees, more_trees, Pairs, no_pairs, more_pairs, count, pair_count}
use Rattle.cabinet_text_grammar.specs.Item.{Item, leaf_item, shared_item, none_item, some_item, list_item, map_item, key_item, whole_head}
use Rattle.cabinet_text_grammar.specs.Spelling.{spelled}
use Rattle.cabinet_text_grammar.specs.Path.{Step, key, place, inside, node_at, enters}
use Rattle.cabinet_text_grammar.specs.Line.{Line, get, keys, range, set}

pub data Answer : Type 0 where
  -- a node's head
  head : Item → Answer
  keys_are : List (List ℕ) → Answer
  -- a question about the keys of a node that has none in an order
  wrong : Answer
  missing : Answer
  done : Answer
  refused : Answer
  -- the bytes are no line
  bad : Answer

abbrev pub head_of : Tree → Item
head_of (leaf l) = leaf_item l
head_of (shared t) = shared_item t
head_of nothing = none_item
head_of (just t) = some_item
head_of (list ts) = list_item (count ts)
head_of (map kind ps) = map_item kind (pair_count ps)
head_of (whole t) = whole_head

abbrev pub keys_in : Pairs → List (List ℕ)
keys_in no_pairs = []
keys_in (more_pairs k t ps) = k ∷ keys_in ps

-- at or above the first bound and below the second
abbrev pub lies_within : List ℕ → List ℕ → List ℕ → Bool
lies_within low high k = is_ge (slice_cmp nat_cmp k low) && is_lt (slice_cmp nat_cmp k high)

abbrev pub keys_of : Tree → Answer
keys_of (map ordered ps) = keys_are (keys_in ps)
keys_of (map kept ps) = keys_are (keys_in ps)
keys_of _ = wrong

abbrev pub keys_within : List ℕ → List ℕ → Tree → Answer
keys_within low high (map ordered ps) = keys_are (filter (lies_within low high) (keys_in ps))
keys_within low high _ = wrong

-- a leaf may be put in the place of a leaf of its kind, and a text in the place of a text of the same length
abbrev pub fits : Leaf → Leaf → Bool
fits (truth b) (truth c) = true
fits (number m) (number n) = true
fits (text t) (text u) = length t == length u
fits _ _ = false

abbrev pub outcome_there : Leaf → Tree → Answer
outcome_there new (leaf old) = if fits old new then done else refused
outcome_there new _ = refused

-- what lies in a whole stays as it is
abbrev pub outcome_at : Tree → List Step → Leaf → Tree → Answer
outcome_at t path new u = if enters t path then refused else outcome_there new u

abbrev pub if_there : Option Tree → (Tree → Answer) → Answer
if_there None answer = missing
if_there (Some t) answer = answer t

abbrev pub answer : Tree → Line → Answer
answer t (get path) = if_there (node_at t path) (λ u. head (head_of u))
answer t (keys path) = if_there (node_at t path) keys_of
answer t (range low high path) = if_there (node_at t path) (keys_within low high)
answer t (set path new) = if_there (node_at t path) (outcome_at t path new)

-- the answer to the line that bytes spell, or to bytes that spell none
abbrev pub reply : Tree → Option Line → Answer
reply t None = bad
reply t (Some line) = answer t line

-- the document in which a leaf was put at a path, if the path leads to a leaf that it fits and into no whole
abbrev mutual
  pub change : Tree → List Step → Leaf → Tree
  change (leaf old) [] new = if fits old new then leaf new else leaf old
  change (just t) (inside ∷ path) new = just (change t path new)
  change (list ts) (place i ∷ path) new = list (change_in ts i path new)
  change (map kind ps) (key k ∷ path) new = map kind (change_by ps k path new)
  change t path new = t

  pub change_in : Trees → ℕ → List Step → Leaf → Trees
  change_in no_trees i path new = no_trees
  change_in (more_trees t ts) zero path new = more_trees (change t path new) ts
  change_in (more_trees t ts) (suc i) path new = more_trees t (change_in ts i path new)

  pub change_by : Pairs → List ℕ → List Step → Leaf → Pairs
  change_by no_pairs k path new = no_pairs
  change_by (more_pairs l t ps) k path new =
      if bytes_eq l k then more_pairs l (change t path new) ps else more_pairs l t (change_by ps k path new)

-- the document after a line
abbrev pub after : Tree → Line → Tree
after t (set path new) = change t path new
after t _ = t

-- each key after a space
abbrev pub spelled_keys : List (List ℕ) → List ℕ
spelled_keys [] = []
spelled_keys (k ∷ ks) = codes " " ++ (spelled (key_item k) ++ spelled_keys ks)

-- the line of an answer, with its newline
abbrev pub spelled_answer : Answer → List ℕ
spelled_answer (head i) = spelled i ++ codes "\n"
spelled_answer (keys_are ks) = codes "keys " ++ (decimal (length ks) ++ (spelled_keys ks ++ codes "\n"))
spelled_answer wrong = codes "wrong\n"
spelled_answer missing = codes "missing\n"
spelled_answer done = codes "ok\n"
spelled_answer refused = codes "refused\n"
spelled_answer bad = codes "bad\n"
