-- How documents are written as text.
use Rattle.std.specs.Prelude.{ℕ, ◌==◌, Bool, true, false, if◌then◌else◌, List, [], ◌∷◌, ◌++◌, map, codes}
use Rattle.std.specs.Fmt.{decimal, signed_decimal}
use Rattle.cabinet_text_grammar.specs.Keys.{MapKind, ordered, hashed, kept}
use Rattle.cabinet_text_grammar.specs.Tree.{Leaf, truth, number, text, Tree}
use Rattle.cabinet_text_grammar.specs.Item.{Item, leaf_item, shared_item, none_item, some_item, list_item, map_item, key_item, whole_item, wholes_item, whole_head, document_items}

-- a backslash as \\, a newline as \n, a space as \s, every other byte as itself
abbrev pub escaped_byte : ℕ → List ℕ
escaped_byte b =
    if b == 92 then 92 ∷ 92 ∷ [] else (if b == 10 then 92 ∷ 110 ∷ [] else (if b == 32 then 92 ∷ 115 ∷ [] else b ∷ []))

abbrev pub escaped : List ℕ → List ℕ
escaped [] = []
escaped (b ∷ bs) = escaped_byte b ++ escaped bs

abbrev pub truth_word : Bool → List ℕ
truth_word true = codes "true"
truth_word false = codes "false"

abbrev pub spelled_leaf : Leaf → List ℕ
spelled_leaf (truth b) = codes "bool " ++ truth_word b
spelled_leaf (number n) = codes "int " ++ signed_decimal n
spelled_leaf (text t) = codes "text '" ++ escaped t

-- of a list with n elements
abbrev pub list_head : ℕ → List ℕ
list_head n = codes "list " ++ decimal n

-- of a map with n pairs
abbrev pub map_head : MapKind → ℕ → List ℕ
map_head ordered n = codes "ordered " ++ decimal n
map_head hashed n = codes "hashed " ++ decimal n
map_head kept n = codes "kept " ++ decimal n

-- the line of an item, without its newline
abbrev pub spelled : Item → List ℕ
spelled (leaf_item l) = spelled_leaf l
spelled (shared_item t) = codes "shared '" ++ escaped t
spelled none_item = codes "none"
spelled some_item = codes "some"
spelled (list_item n) = list_head n
spelled (map_item kind n) = map_head kind n
spelled (key_item k) = codes "'" ++ escaped k
spelled (whole_item n) = codes "whole " ++ decimal n
spelled (wholes_item n) = codes "wholes " ++ decimal n
spelled whole_head = codes "whole"

abbrev pub lines_of : List Item → List (List ℕ)
lines_of is = map spelled is

-- lines, each ended by a newline
abbrev pub ended : List (List ℕ) → List ℕ
ended [] = []
ended (line ∷ lines) = line ++ 10 ∷ ended lines

-- the text of a document
abbrev pub text_of : Tree → List ℕ
text_of t = ended (lines_of (document_items t))
