-- How a proof distinguishes trees: by the items of the documents with these roots.
use Rattle.std.specs.Prelude.{◌≡◌, refl, ℕ, zero, suc, ℤ, Bool, true, false, List, ◌⊎◌}
use Rattle.std.proofs.Common.{inl, inr, ap}
use Rattle.std.specs.Coded.{Coded, code_by, coded⊎, coded×, coded_bool, coded_ℕ, coded_ℤ, coded_list}
use Rattle.cabinet_text_grammar.specs.Keys.{MapKind, ordered, hashed, kept}
use Rattle.cabinet_text_grammar.specs.Tree.{Leaf, truth, number, text, Tree}
use Rattle.cabinet_text_grammar.specs.Item.{Item, leaf_item, shared_item, none_item, some_item, list_item, map_item, key_item, whole_item, wholes_item, whole_head, document_items}
use Rattle.cabinet_text_grammar.specs.Reading.{nothing_read, reading}
use Rattle.cabinet_text_grammar.proofs.Stages.{takes, root_of, takes-document}

-- a leaf's parts, with its case
abbrev pub LeafParts : Type 0
LeafParts = Bool ⊎ (ℤ ⊎ List ℕ)

abbrev pub leaf_parts : Leaf → LeafParts
leaf_parts (truth b) = inl b
leaf_parts (number n) = inr (inl n)
leaf_parts (text t) = inr (inr t)

abbrev pub leaf_from : LeafParts → Leaf
leaf_from (inl b) = truth b
leaf_from (inr (inl n)) = number n
leaf_from (inr (inr t)) = text t

pub leaf_back : (l : Leaf) → leaf_from (leaf_parts l) ≡ l
leaf_back (truth b) = refl
leaf_back (number n) = refl
leaf_back (text t) = refl

abbrev pub leaf_code : Coded Leaf
leaf_code = code_by LeafParts (coded⊎ coded_bool (coded⊎ coded_ℤ (coded_list coded_ℕ))) leaf_parts leaf_from leaf_back

abbrev pub kind_number : MapKind → ℕ
kind_number ordered = 0
kind_number hashed = 1
kind_number kept = 2

abbrev pub kind_from : ℕ → MapKind
kind_from zero = ordered
kind_from (suc zero) = hashed
kind_from (suc (suc n)) = kept

pub kind_back : (kind : MapKind) → kind_from (kind_number kind) ≡ kind
kind_back ordered = refl
kind_back hashed = refl
kind_back kept = refl

abbrev pub kind_code : Coded MapKind
kind_code = code_by ℕ coded_ℕ kind_number kind_from kind_back

-- a leaf; a shared text; whether an option has a node; the count of a list; a map's kind and count; a key; the number of
-- a whole, that of all wholes; whether it is a whole without its number
abbrev pub ItemParts : Type 0
ItemParts = Leaf ⊎ (List ℕ ⊎ (Bool ⊎ (ℕ ⊎ ((MapKind × ℕ) ⊎ (List ℕ ⊎ (ℕ ⊎ (ℕ ⊎ Bool)))))))

abbrev pub item_parts : Item → ItemParts
item_parts (leaf_item l) = inl l
item_parts (shared_item t) = inr (inl t)
item_parts none_item = inr (inr (inl false))
item_parts some_item = inr (inr (inl true))
item_parts (list_item n) = inr (inr (inr (inl n)))
item_parts (map_item kind n) = inr (inr (inr (inr (inl (kind, n)))))
item_parts (key_item k) = inr (inr (inr (inr (inr (inl k)))))
item_parts (whole_item n) = inr (inr (inr (inr (inr (inr (inl n))))))
item_parts (wholes_item n) = inr (inr (inr (inr (inr (inr (inr (inl n)))))))
item_parts whole_head = inr (inr (inr (inr (inr (inr (inr (inr true)))))))

abbrev pub item_from : ItemParts → Item
item_from (inl l) = leaf_item l
item_from (inr (inl t)) = shared_item t
item_from (inr (inr (inl false))) = none_item
item_from (inr (inr (inl true))) = some_item
item_from (inr (inr (inr (inl n)))) = list_item n
item_from (inr (inr (inr (inr (inl m))))) = map_item m.0 m.1
item_from (inr (inr (inr (inr (inr (inl k)))))) = key_item k
item_from (inr (inr (inr (inr (inr (inr (inl n))))))) = whole_item n
item_from (inr (inr (inr (inr (inr (inr (inr (inl n)))))))) = wholes_item n
item_from (inr (inr (inr (inr (inr (inr (inr (inr b)))))))) = whole_head

pub item_back : (i : Item) → item_from (item_parts i) ≡ i
item_back (leaf_item l) = refl
item_back (shared_item t) = refl
item_back none_item = refl
item_back some_item = refl
item_back (list_item n) = refl
item_back (map_item kind n) = refl
item_back (key_item k) = refl
item_back (whole_item n) = refl
item_back (wholes_item n) = refl
item_back whole_head = refl

abbrev pub item_code : Coded Item
item_code =
    code_by
    ItemParts
    (coded⊎ leaf_code (coded⊎ (coded_list coded_ℕ) (coded⊎ coded_bool (coded⊎ coded_ℕ (coded⊎ (coded× kind_code coded_ℕ) (coded⊎ (coded_list coded_ℕ) (coded⊎ coded_ℕ (coded⊎ coded_ℕ coded_bool))))))))
    item_parts
    item_from
    item_back

-- the tree that has these items
abbrev pub tree_from : List Item → Tree
tree_from is = root_of (takes (reading nothing_read) is)

pub tree_back : (t : Tree) → tree_from (document_items t) ≡ t
tree_back t = ap root_of (takes-document t)

abbrev pub tree_code : Coded Tree
tree_code = code_by (List Item) (coded_list item_code) document_items tree_from tree_back
