-- Which line completes a tree, the wholes of the containers that are open before it, and the texts of trees.
use Rattle.std.specs.Prelude.{◌≡◌, ℕ, suc, List, [], ◌∷◌}
use Rattle.cabinet_text_grammar.specs.Frame.{Frame, in_option, in_list, at_key, at_value}
use Rattle.cabinet_text_grammar.specs.Item.{Item, leaf_item, shared_item, none_item, list_item, map_item, whole_item, items}
use Rattle.cabinet_text_grammar.specs.Spelling.{lines_of, ended}
use Rattle.cabinet_text_grammar.specs.Tree.{Tree, count, pair_count}
use Rattle.cabinet_text_grammar.specs.Wholes.{with_wholes_in, with_wholes_by}

-- a container that one node fills
abbrev pub LacksOne : Frame → Type 0
LacksOne in_option = Unit {0}
LacksOne (in_list n ts) = suc (count ts) ≡ n
LacksOne (at_key kind n ps) = ⊥
LacksOne (at_value kind n ps k) = suc (pair_count ps) ≡ n

abbrev pub AllLackOne : List Frame → Type 0
AllLackOne [] = Unit {0}
AllLackOne (f ∷ outer) = LacksOne f × AllLackOne outer

-- the head of a node without others in it
abbrev pub EndsAlone : Item → Type 0
EndsAlone (leaf_item l) = Unit {0}
EndsAlone (shared_item t) = Unit {0}
EndsAlone none_item = Unit {0}
EndsAlone (list_item n) = n ≡ 0
EndsAlone (map_item kind n) = n ≡ 0
EndsAlone (whole_item n) = Unit {0}
EndsAlone _ = ⊥

-- a table, and after it the trees inside the wholes of an open container
abbrev pub with_frame : List Tree → Frame → List Tree
with_frame table in_option = table
with_frame table (in_list n ts) = with_wholes_in table ts
with_frame table (at_key kind n ps) = with_wholes_by table ps
with_frame table (at_value kind n ps k) = with_wholes_by table ps

-- of open containers, from the outermost in
abbrev pub with_stack : List Tree → List Frame → List Tree
with_stack table [] = table
with_stack table (f ∷ outer) = with_frame (with_stack table outer) f

-- the text of the tree of a whole, under the table of those before it
abbrev pub text_in : List Tree → Tree → List ℕ
text_in table t = ended (lines_of (items table t))

abbrev pub texts_of : List Tree → List (List ℕ)
texts_of [] = []
texts_of (t ∷ table) = text_in table t ∷ texts_of table
