-- The containers of a tree that are open after one more item, without regard to which keys and depths are allowed.
use Rattle.std.specs.Prelude.{ℕ, ◌==◌, if◌then◌else◌, List, [], ◌∷◌, Option, Some, None}
use Rattle.cabinet_text_grammar.specs.Keys.{MapKind}
use Rattle.cabinet_text_grammar.specs.Tree.{Tree, leaf, shared, nothing, just, list, map, whole, Trees, no_trees, more_trees, Pairs, no_pairs, more_pairs, count, pair_count}
use Rattle.cabinet_text_grammar.specs.Wholes.{numbered}
use Rattle.cabinet_text_grammar.specs.Item.{Item, leaf_item, shared_item, none_item, some_item, list_item, map_item, key_item, whole_item, wholes_item, whole_head, items}
use Rattle.cabinet_text_grammar.specs.Frame.{Frame, in_option, in_list, at_key, at_value, items_of_stack}

pub data State : Type 0 where
  -- some containers are open, the innermost first
  going : List Frame → State
  complete : Tree → State
  stuck : State

abbrev pub then_tree : Trees → Tree → Trees
then_tree no_trees t = more_trees t no_trees
then_tree (more_trees s ts) t = more_trees s (then_tree ts t)

abbrev pub then_pair : Pairs → List ℕ → Tree → Pairs
then_pair no_pairs k t = more_pairs k t no_pairs
then_pair (more_pairs l s ps) k t = more_pairs l s (then_pair ps k t)

-- a complete node goes into the innermost container; a container that it fills is a complete node itself
abbrev pub plug : Tree → List Frame → State
plug t [] = complete t
plug t (in_option ∷ outer) = plug (just t) outer
plug t (in_list n ts ∷ outer) = if count (then_tree ts t) == n then plug (list (then_tree ts t)) outer else going (in_list n (then_tree ts t) ∷ outer)
plug t (at_key kind n ps ∷ outer) = stuck
plug t (at_value kind n ps k ∷ outer) =
    if pair_count (then_pair ps k t) == n then plug (map kind (then_pair ps k t)) outer else going (at_key kind n (then_pair ps k t) ∷ outer)

-- a list with these elements, which closes when it has all of them
abbrev pub settle : ℕ → Trees → List Frame → State
settle n ts outer = if count ts == n then plug (list ts) outer else going (in_list n ts ∷ outer)

abbrev pub settle_pairs : MapKind → ℕ → Pairs → List Frame → State
settle_pairs kind n ps outer = if pair_count ps == n then plug (map kind ps) outer else going (at_key kind n ps ∷ outer)

abbrev pub take_key : List Frame → List ℕ → State
take_key (at_key kind n ps ∷ outer) k = going (at_value kind n ps k ∷ outer)
take_key _ k = stuck

abbrev pub plug_whole : List Frame → Option Tree → State
plug_whole fs None = stuck
plug_whole fs (Some t) = plug (whole t) fs

-- wholes have numbers in a table
abbrev pub step : List Tree → List Frame → Item → State
step table fs (leaf_item l) = plug (leaf l) fs
step table fs (shared_item t) = plug (shared t) fs
step table fs none_item = plug nothing fs
step table fs some_item = going (in_option ∷ fs)
step table fs (list_item n) = settle n no_trees fs
step table fs (map_item kind n) = settle_pairs kind n no_pairs fs
step table fs (key_item k) = take_key fs k
step table fs (whole_item n) = plug_whole fs (numbered table n)
step table fs (wholes_item n) = stuck
step table fs whole_head = stuck

abbrev pub run : List Tree → State → List Item → State
run table s [] = s
run table (going fs) (i ∷ is) = run table (step table fs i) is
run table (complete t) (i ∷ is) = stuck
run table stuck (i ∷ is) = stuck

abbrev pub items_of_state : List Tree → State → List Item
items_of_state table (going fs) = items_of_stack table fs
items_of_state table (complete t) = items table t
items_of_state table stuck = []
