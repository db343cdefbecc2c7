-- The items and documents for which reading takes memory.
use Rattle.std.specs.Prelude.{◌≡◌, ◌≢◌, ℕ, ◌<◌, [], ◌⊎◌}
use Rattle.cabinet_text_grammar.specs.Tree.{truth, number, text, Tree, leaf, shared, nothing, just, list, map, whole, no_trees, more_trees, no_pairs, more_pairs}
use Rattle.cabinet_text_grammar.specs.Item.{Item, leaf_item, shared_item, none_item, some_item, list_item, map_item, key_item, whole_item, wholes_item, whole_head}

-- Inside `depth` containers: memory is taken for the bytes of a text, for a shared text, for an option or a list that
-- waits for its nodes, for each key, and for a complete node in its container. A map with pairs takes none before its keys, and the number of
-- wholes takes none.
abbrev pub TakesMemory : ℕ → Item → Type 0
TakesMemory depth (leaf_item (truth b)) = 0 < depth
TakesMemory depth (leaf_item (number n)) = 0 < depth
TakesMemory depth (leaf_item (text t)) = (t ≢ []) ⊎ (0 < depth)
TakesMemory depth (shared_item t) = Unit {0}
TakesMemory depth none_item = 0 < depth
TakesMemory depth some_item = Unit {0}
TakesMemory depth (list_item n) = (0 < n) ⊎ (0 < depth)
TakesMemory depth (map_item kind n) = (n ≡ 0) × (0 < depth)
TakesMemory depth (key_item k) = Unit {0}
TakesMemory depth (whole_item n) = 0 < depth
TakesMemory depth (wholes_item n) = ⊥
TakesMemory depth whole_head = ⊥

-- reading its text takes memory: it is a text that is not empty, a shared text, or has a node in it
abbrev pub TextTakesMemory : Tree → Type 0
TextTakesMemory (leaf (truth b)) = ⊥
TextTakesMemory (leaf (number n)) = ⊥
TextTakesMemory (leaf (text t)) = t ≢ []
TextTakesMemory (shared t) = Unit {0}
TextTakesMemory nothing = ⊥
TextTakesMemory (just t) = Unit {0}
TextTakesMemory (list no_trees) = ⊥
TextTakesMemory (list (more_trees t ts)) = Unit {0}
TextTakesMemory (map kind no_pairs) = ⊥
TextTakesMemory (map kind (more_pairs k t ps)) = Unit {0}
TextTakesMemory (whole t) = Unit {0}
