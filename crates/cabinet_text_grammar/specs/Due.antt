-- The line that is expected after some lines of a document.
use Rattle.std.specs.Prelude.{◌≡◌, ℕ, ◌+◌, ◌<◌, ◌^◌, List, [], ◌∷◌, length, Some, IsUtf8}
use Rattle.cabinet_text_grammar.specs.Keys.{MapKind, MayFollow}
use Rattle.cabinet_text_grammar.specs.Tree.{Tree, IsLeaf, depth}
use Rattle.cabinet_text_grammar.specs.Wholes.{numbered}
use Rattle.cabinet_text_grammar.specs.Item.{Item, leaf_item, shared_item, none_item, some_item, list_item, map_item, key_item, whole_item, wholes_item}
use Rattle.cabinet_text_grammar.specs.Frame.{Frame, in_option, in_list, at_key, at_value, keys_after}

pub data Due : Type 0 where
  -- the first line: the head of the root, or the number of wholes
  the_start : Due
  -- a head inside n containers, whose wholes are those of a table
  a_head : List Tree → ℕ → Due
  -- a key of a map after these keys, the last first
  a_key : MapKind → List (List ℕ) → Due
  -- the document is complete
  nothing_more : Due

-- the line that is expected inside these containers, and `around` more
abbrev pub due_in : List Tree → ℕ → List Frame → Due
due_in table around [] = a_head table around
due_in table around (in_option ∷ outer) = a_head table (around + length outer + 1)
due_in table around (in_list n ts ∷ outer) = a_head table (around + length outer + 1)
due_in table around (at_key kind n ps ∷ outer) = a_key kind (keys_after [] ps)
due_in table around (at_value kind n ps k ∷ outer) = a_head table (around + length outer + 1)

-- the heads that are allowed inside some containers, of which at most 64 lie in one another
abbrev pub AdmitsHead : List Tree → ℕ → Item → Type 0
AdmitsHead table around (leaf_item l) = IsLeaf l
AdmitsHead table around (shared_item t) = IsUtf8 t
AdmitsHead table around none_item = around < 64
AdmitsHead table around some_item = around < 64
AdmitsHead table around (list_item n) = (n < 2 ^ 64) × (around < 64)
AdmitsHead table around (map_item kind n) = (n < 2 ^ 64) × (around < 64)
AdmitsHead table around (whole_item n) = (n < 2 ^ 64) × ((t : Tree) × (numbered table n ≡ Some t) × (around + depth t < 64))
AdmitsHead table around _ = ⊥

-- the items that are allowed there
abbrev pub Admits : Due → Item → Type 0
Admits the_start (wholes_item n) = (0 < n) × (n < 2 ^ 64)
Admits the_start i = AdmitsHead [] 0 i
Admits (a_head table around) i = AdmitsHead table around i
Admits (a_key kind keys) (key_item k) = IsUtf8 k × MayFollow kind keys k
Admits _ _ = ⊥
