-- The containers that are open after some lines of a tree, the innermost first.
use Rattle.std.specs.Prelude.{ℕ, ◌+◌, ◌<◌, ◌≤◌, ◌^◌, List, [], ◌∷◌, ◌++◌, length, IsUtf8}
use Rattle.cabinet_text_grammar.specs.Keys.{MapKind, MayFollow}
use Rattle.cabinet_text_grammar.specs.Tree.{Tree, Trees, Pairs, no_pairs, more_pairs, count, pair_count, most_depth, pairs_depth, AreLegal, ArePairs}
use Rattle.cabinet_text_grammar.specs.Wholes.{AreNumbered, ArePairsNumbered}
use Rattle.cabinet_text_grammar.specs.Item.{Item, some_item, list_item, map_item, key_item, items_of, items_of_pairs}

pub data Frame : Type 0 where
  -- an option, which expects its node
  in_option : Frame
  -- a list of n elements, and its elements up to now
  in_list : ℕ → Trees → Frame
  -- a map of n pairs, and its pairs up to now; it expects a key
  at_key : MapKind → ℕ → Pairs → Frame
  -- the same after a key, which expects its node
  at_value : MapKind → ℕ → Pairs → List ℕ → Frame

-- the items that its lines up to now represent, under a table of wholes
abbrev pub items_of_frame : List Tree → Frame → List Item
items_of_frame table in_option = some_item ∷ []
items_of_frame table (in_list n ts) = list_item n ∷ items_of table ts
items_of_frame table (at_key kind n ps) = map_item kind n ∷ items_of_pairs table ps
items_of_frame table (at_value kind n ps k) = map_item kind n ∷ (items_of_pairs table ps ++ key_item k ∷ [])

abbrev pub items_of_stack : List Tree → List Frame → List Item
items_of_stack table [] = []
items_of_stack table (f ∷ outer) = items_of_stack table outer ++ items_of_frame table f

-- some keys and after them those of some pairs, the last first
abbrev pub keys_after : List (List ℕ) → Pairs → List (List ℕ)
keys_after keys no_pairs = keys
keys_after keys (more_pairs k t ps) = keys_after (k ∷ keys) ps

-- a map of n pairs that lacks some, where it is the container of number d from the outermost
abbrev pub IsOpenMap : List Tree → ℕ → MapKind → ℕ → Pairs → Type 0
IsOpenMap table d kind n ps = (n < 2 ^ 64) × (pair_count ps < n) × ArePairs kind [] ps × (d + pairs_depth ps ≤ 64) × ArePairsNumbered table ps

-- a container that lacks some of its nodes
abbrev pub IsOpen : List Tree → ℕ → Frame → Type 0
IsOpen table d in_option = d ≤ 64
IsOpen table d (in_list n ts) = (n < 2 ^ 64) × (count ts < n) × AreLegal ts × (d + most_depth ts ≤ 64) × AreNumbered table ts
IsOpen table d (at_key kind n ps) = IsOpenMap table d kind n ps
IsOpen table d (at_value kind n ps k) = IsOpenMap table d kind n ps × (IsUtf8 k × MayFollow kind (keys_after [] ps) k)

-- the innermost container, if there is one, expects a node
abbrev pub WantsNode : List Frame → Type 0
WantsNode (at_key kind n ps ∷ outer) = ⊥
WantsNode _ = Unit {0}

-- each is open, and lies where the one around it expects a node; `around` more containers are around all of them
abbrev pub AreOpen : List Tree → ℕ → List Frame → Type 0
AreOpen table around [] = Unit {0}
AreOpen table around (f ∷ outer) = IsOpen table (around + length outer + 1) f × WantsNode outer × AreOpen table around outer
