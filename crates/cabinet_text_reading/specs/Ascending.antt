-- Pairs whose keys ascend, as their store keeps them.
use Rattle.std.specs.Prelude.{List, [], ◌∷◌, ◌++◌, String, string_cmp}
use Rattle.std.specs.List.Sorted.{IsStrictlySortedBy}
use Rattle.std.specs.Map.{keys_of}
use Rattle.std.specs.declared.alloc.Global.{Global}
use Rattle.cabinet_text_nodes.specs.declared.node.Node.{Node}
use Rattle.cabinet_text_reading.specs.declared.stack.store.PairStore.{PairStore}
use Rattle.cabinet_text_reading.specs.declared.stack.store.PairStore.TheVariants.{Few, Many}

abbrev pub stored_pairs : PairStore → List (String Global × Node)
stored_pairs (Few m) = m.entries
stored_pairs (Many v) = v.items

-- each key is below those after it
abbrev pub Ascends : List (String Global × Node) → Type 0
Ascends ps = IsStrictlySortedBy string_cmp (keys_of ps)

-- and the last is below one more key
abbrev pub AscendsTo : List (String Global × Node) → String Global → Type 0
AscendsTo ps k = IsStrictlySortedBy string_cmp (keys_of ps ++ k ∷ [])
