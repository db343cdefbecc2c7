-- The item that a line of a document's text represents, and all items of a document.
use Rattle.std.specs.Prelude.{ℕ, zero, suc, List, [], ◌∷◌, ◌++◌, length}
use Rattle.cabinet_text_grammar.specs.Keys.{MapKind}
use Rattle.cabinet_text_grammar.specs.Wholes.{number_in, wholes_of}
use Rattle.cabinet_text_grammar.specs.Tree.{Leaf, Tree, leaf, shared, nothing, just, list, map, whole, Trees, no_trees, more_trees, Pairs, no_pairs, more_pairs, count, pair_count}

pub data Item : Type 0 where
  leaf_item : Leaf → Item
  shared_item : List ℕ → Item
  none_item : Item
  some_item : Item
  -- a list of n elements, a map of n pairs
  list_item : ℕ → Item
  map_item : MapKind → ℕ → Item
  key_item : List ℕ → Item
  -- the whole that has a number
  whole_item : ℕ → Item
  -- the number of wholes, before all others
  wholes_item : ℕ → Item
  -- a whole without its number, as answers have it and no text
  whole_head : Item

-- A node's own item, and after it those of what lies in it: of a pair the key's before the node's. A whole has its number
-- in a table, and nothing after it.
abbrev mutual
  pub items : List Tree → Tree → List Item
  items table (leaf l) = leaf_item l ∷ []
  items table (shared t) = shared_item t ∷ []
  items table nothing = none_item ∷ []
  items table (just t) = some_item ∷ items table t
  items table (list ts) = list_item (count ts) ∷ items_of table ts
  items table (map kind ps) = map_item kind (pair_count ps) ∷ items_of_pairs table ps
  items table (whole t) = whole_item (number_in table t) ∷ []

  pub items_of : List Tree → Trees → List Item
  items_of table no_trees = []
  items_of table (more_trees t ts) = items table t ++ items_of table ts

  pub items_of_pairs : List Tree → Pairs → List Item
  items_of_pairs table no_pairs = []
  items_of_pairs table (more_pairs k t ps) = key_item k ∷ (items table t ++ items_of_pairs table ps)

-- of the trees of a table, in the order of their numbers
abbrev pub items_of_table : List Tree → List Item
items_of_table [] = []
items_of_table (t ∷ table) = items_of_table table ++ items table t

-- the number of wholes, where there are any
abbrev pub header : ℕ → List Item
header zero = []
header (suc n) = wholes_item (suc n) ∷ []

-- of a document: what lies in its wholes before its root
abbrev pub document_items : Tree → List Item
document_items t = header (length (wholes_of t)) ++ (items_of_table (wholes_of t) ++ items (wholes_of t) t)
