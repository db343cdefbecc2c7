-- The lines of items: no two items have the same line, each is UTF-8 and has no newline.
use Rattle.std.proofs.Common.{◌≡◌, ℕ, zero, suc, ◌+◌, ◌<◌, ◌^◌, length, true, false, List, [], ◌∷◌, ◌++◌, IsUtf8, ap, ◌∙◌, refl, inl, arith, codes}
use Rattle.std.specs.Fmt.{decimal, signed_decimal}
use Rattle.std.proofs.lemmas.Fmt.{IsAscii-decimal, IsAscii-signed}
use Rattle.std.proofs.lemmas.Str.{IsUtf8-append, IsUtf8-from_ascii}
use Rattle.cabinet_text_grammar.specs.Tree.{Leaf, truth, number, text, IsLeaf, Tree, leaf, shared, nothing, just, list, whole, Trees, no_trees, more_trees, Pairs, no_pairs, more_pairs, IsLegal, AreLegal, ArePairs}
use Rattle.cabinet_text_grammar.specs.Tree as tree
use Rattle.cabinet_text_grammar.specs.Wholes.{IsNumbered, AreNumbered, ArePairsNumbered, IsTable, wholes_of, IsDocument}
use Rattle.cabinet_text_grammar.specs.Reading.{Reading, around, items_of_reading, IsReading}
use Rattle.cabinet_text_grammar.specs.Keys.{MapKind, ordered, hashed, kept}
use Rattle.cabinet_text_grammar.specs.Item.{Item, leaf_item, shared_item, none_item, some_item, list_item, map_item, key_item, whole_item, wholes_item, whole_head, items, items_of, items_of_pairs, items_of_table, header, document_items}
use Rattle.cabinet_text_grammar.specs.Frame.{Frame, in_option, in_list, at_key, at_value, items_of_stack, AreOpen}
use Rattle.cabinet_text_grammar.specs.Spelling.{escaped, spelled_leaf, spelled, lines_of}
use Rattle.cabinet_text_grammar.proofs.Tables.{number_below, document_table, document_numbered}
use Rattle.cabinet_text_grammar.proofs.ReadBack.{IsItem, same_item}
use Rattle.cabinet_text_grammar.proofs.Utf8.{IsUtf8-escaped, IsUtf8-word}
use Rattle.cabinet_text_grammar.proofs.Lacking.{Lacks-append, Lacks-tested, Lacks-decimal, Lacks-escaped}
use Rattle.cabinet_text_grammar.proofs.Pieces.{HasNoNewline, HasNoNewline-leaf}
use Rattle.cabinet_text_grammar.proofs.Cuts.{HaveNoNewline}

abbrev pub AreItems : List Item → Type 0
AreItems [] = Unit {0}
AreItems (i ∷ is) = IsItem i × AreItems is

pub AreItems-append : (is js : List Item) → AreItems is → AreItems js → AreItems (is ++ js)
AreItems-append [] js p q = q
AreItems-append (i ∷ is) js p q = (p.0, AreItems-append is js p.1 q)

module _ (table : List Tree) (few : length table < 2 ^ 64) where
  mutual
    pub AreItems-tree : (t : Tree) → IsLegal t → IsNumbered table t → AreItems (items table t)
    AreItems-tree (leaf l) is known = (is, tt)
    AreItems-tree (shared t) is known = (is, tt)
    AreItems-tree nothing is known = (tt, tt)
    AreItems-tree (just t) is known = (tt, AreItems-tree t is known)
    AreItems-tree (list ts) is known = (is.1, AreItems-trees ts is.0 known)
    AreItems-tree (tree.map kind ps) is known = (is.1, AreItems-pairs kind [] ps is.0 known)
    AreItems-tree (whole t) is known = (omega (arith, few, number_below table t known), tt)

    pub AreItems-trees : (ts : Trees) → AreLegal ts → AreNumbered table ts → AreItems (items_of table ts)
    AreItems-trees no_trees are known = tt
    AreItems-trees (more_trees t ts) are known = AreItems-append (items table t) (items_of table ts) (AreItems-tree t are.0 known.0) (AreItems-trees ts are.1 known.1)

    pub AreItems-pairs : (kind : MapKind) (keys : List (List ℕ)) (ps : Pairs) → ArePairs kind keys ps → ArePairsNumbered table ps → AreItems (items_of_pairs table ps)
    AreItems-pairs kind keys no_pairs are known = tt
    AreItems-pairs kind keys (more_pairs k t ps) are known =
        (are.0.0, AreItems-append (items table t) (items_of_pairs table ps) (AreItems-tree t are.1.0 known.0) (AreItems-pairs kind (k ∷ keys) ps are.1.1 known.1))

  pub AreItems-stack : (around : ℕ) (fs : List Frame) → AreOpen table around fs → AreItems (items_of_stack table fs)
  AreItems-stack around [] are = tt
  AreItems-stack around (in_option ∷ outer) are = AreItems-append (items_of_stack table outer) _ (AreItems-stack around outer are.2) (tt, tt)
  AreItems-stack around (in_list n ts ∷ outer) are = AreItems-append (items_of_stack table outer) _ (AreItems-stack around outer are.2) (are.0.0, AreItems-trees ts are.0.2 are.0.4)
  AreItems-stack around (at_key kind n ps ∷ outer) are = AreItems-append (items_of_stack table outer) _ (AreItems-stack around outer are.2) (are.0.0, AreItems-pairs kind [] ps are.0.2 are.0.4)
  AreItems-stack around (at_value kind n ps k ∷ outer) are =
      AreItems-append (items_of_stack table outer) _ (AreItems-stack around outer are.2)
      (are.0.0.0, AreItems-append (items_of_pairs table ps) (key_item k ∷ []) (AreItems-pairs kind [] ps are.0.0.2 are.0.0.4) (are.0.1.0, tt))

-- the items of the trees of a table, of what was read, and of a document
AreItems-table : (table : List Tree) → length table < 2 ^ 64 → IsTable table → AreItems (items_of_table table)
AreItems-table [] few is = tt
AreItems-table (t ∷ table) few is =
    let fewer : length table < 2 ^ 64 = omega (arith, few) in
    AreItems-append (items_of_table table) (items table t) (AreItems-table table fewer is.3) (AreItems-tree table fewer t is.0.0 is.1)

AreItems-header : (n : ℕ) → n < 2 ^ 64 → AreItems (header n)
AreItems-header zero below = tt
AreItems-header (suc n) below = (below, tt)

pub AreItems-reading : (r : Reading) → IsReading r → AreItems (items_of_reading r)
AreItems-reading r is =
    let few : length r.table < 2 ^ 64 = omega (arith, is.counted) in
    AreItems-append (header (r.lacking + length r.table)) _ (AreItems-header (r.lacking + length r.table) is.counted)
    (AreItems-append (items_of_table r.table) _ (AreItems-table r.table few is.table) (AreItems-stack r.table few (around r.lacking) r.stack is.stack))

pub AreItems-document : (t : Tree) → IsDocument t → AreItems (document_items t)
AreItems-document t document =
    let table = wholes_of t in
    AreItems-append (header (length table)) _ (AreItems-header (length table) document.2)
    (AreItems-append (items_of_table table) _ (AreItems-table table document.2 (document_table t document)) (AreItems-tree table document.2 t document.0 (document_numbered t)))

pub HasNoNewline-item : (i : Item) → IsItem i → HasNoNewline (spelled i)
HasNoNewline-item (leaf_item l) p = HasNoNewline-leaf l p
HasNoNewline-item (shared_item t) p = Lacks-append 10 (codes "shared '") (escaped t) (Lacks-tested 10 (codes "shared '") refl) (Lacks-escaped 10 t (inl refl))
HasNoNewline-item none_item p = Lacks-tested 10 (codes "none") refl
HasNoNewline-item some_item p = Lacks-tested 10 (codes "some") refl
HasNoNewline-item (list_item n) p = Lacks-append 10 (codes "list ") (decimal n) (Lacks-tested 10 (codes "list ") refl) (Lacks-decimal 10 n (omega arith) p)
HasNoNewline-item (map_item ordered n) p = Lacks-append 10 (codes "ordered ") (decimal n) (Lacks-tested 10 (codes "ordered ") refl) (Lacks-decimal 10 n (omega arith) p)
HasNoNewline-item (map_item hashed n) p = Lacks-append 10 (codes "hashed ") (decimal n) (Lacks-tested 10 (codes "hashed ") refl) (Lacks-decimal 10 n (omega arith) p)
HasNoNewline-item (map_item kept n) p = Lacks-append 10 (codes "kept ") (decimal n) (Lacks-tested 10 (codes "kept ") refl) (Lacks-decimal 10 n (omega arith) p)
HasNoNewline-item (whole_item n) p = Lacks-append 10 (codes "whole ") (decimal n) (Lacks-tested 10 (codes "whole ") refl) (Lacks-decimal 10 n (omega arith) p)
HasNoNewline-item (wholes_item n) p = Lacks-append 10 (codes "wholes ") (decimal n) (Lacks-tested 10 (codes "wholes ") refl) (Lacks-decimal 10 n (omega arith) p)
HasNoNewline-item whole_head p = Lacks-tested 10 (codes "whole") refl
HasNoNewline-item (key_item k) p = Lacks-append 10 (codes "'") (escaped k) (Lacks-tested 10 (codes "'") refl) (Lacks-escaped 10 k (inl refl))

pub HaveNoNewline-items : (is : List Item) → AreItems is → HaveNoNewline (lines_of is)
HaveNoNewline-items [] p = tt
HaveNoNewline-items (i ∷ is) p = (HasNoNewline-item i p.0, HaveNoNewline-items is p.1)

IsUtf8-leaf : (l : Leaf) → IsLeaf l → IsUtf8 (spelled_leaf l)
IsUtf8-leaf (truth true) p = IsUtf8-word (codes "bool true") refl
IsUtf8-leaf (truth false) p = IsUtf8-word (codes "bool false") refl
IsUtf8-leaf (number n) p = IsUtf8-append (codes "int ") (signed_decimal n) (IsUtf8-word (codes "int ") refl) (IsUtf8-from_ascii (signed_decimal n) (IsAscii-signed n p.sfits))
IsUtf8-leaf (text t) p = IsUtf8-append (codes "text '") (escaped t) (IsUtf8-word (codes "text '") refl) (IsUtf8-escaped t p)

IsUtf8-count : (word : List ℕ) (n : ℕ) → IsUtf8 word → n < 2 ^ 64 → IsUtf8 (word ++ decimal n)
IsUtf8-count word n p below = IsUtf8-append word (decimal n) p (IsUtf8-from_ascii (decimal n) (IsAscii-decimal n below))

pub IsUtf8-item : (i : Item) → IsItem i → IsUtf8 (spelled i)
IsUtf8-item (leaf_item l) p = IsUtf8-leaf l p
IsUtf8-item (shared_item t) p = IsUtf8-append (codes "shared '") (escaped t) (IsUtf8-word (codes "shared '") refl) (IsUtf8-escaped t p)
IsUtf8-item none_item p = IsUtf8-word (codes "none") refl
IsUtf8-item some_item p = IsUtf8-word (codes "some") refl
IsUtf8-item (list_item n) p = IsUtf8-count (codes "list ") n (IsUtf8-word (codes "list ") refl) p
IsUtf8-item (map_item ordered n) p = IsUtf8-count (codes "ordered ") n (IsUtf8-word (codes "ordered ") refl) p
IsUtf8-item (map_item hashed n) p = IsUtf8-count (codes "hashed ") n (IsUtf8-word (codes "hashed ") refl) p
IsUtf8-item (map_item kept n) p = IsUtf8-count (codes "kept ") n (IsUtf8-word (codes "kept ") refl) p
IsUtf8-item (whole_item n) p = IsUtf8-count (codes "whole ") n (IsUtf8-word (codes "whole ") refl) p
IsUtf8-item (wholes_item n) p = IsUtf8-count (codes "wholes ") n (IsUtf8-word (codes "wholes ") refl) p
IsUtf8-item whole_head p = IsUtf8-word (codes "whole") refl
IsUtf8-item (key_item k) p = IsUtf8-append (codes "'") (escaped k) (IsUtf8-word (codes "'") refl) (IsUtf8-escaped k p)

-- lists of items that have the same lines, or lines that continue
pub same_items : (is js : List Item) → AreItems is → AreItems js → lines_of is ≡ lines_of js → is ≡ js
same_items [] [] p q h = refl
same_items [] (j ∷ js) p q h = cc
same_items (i ∷ is) [] p q h = cc
same_items (i ∷ is) (j ∷ js) p q h =
    let first : spelled i ≡ spelled j = cc in
    let rest : lines_of is ≡ lines_of js = cc in
    let one = same_item i j p.0 q.0 first in
    let others = same_items is js p.1 q.1 rest in
    cc

pub record GoesOn (is js : List Item) (line : List ℕ) : Type 0 where
  pub next : Item
  pub more : List Item
  pub items_are : js ≡ is ++ next ∷ more
  pub is_item : IsItem next
  pub line_is : line ≡ spelled next

pub goes_on : (is js : List Item) (line : List ℕ) (more : List (List ℕ)) → AreItems is → AreItems js → lines_of js ≡ lines_of is ++ line ∷ more → GoesOn is js line
goes_on [] [] line more p q h = cc
goes_on [] (j ∷ js) line more p q h =
    let first : line ≡ spelled j = cc in
    record { next = j; more = js; items_are = refl; is_item = q.0; line_is = first }
goes_on (i ∷ is) [] line more p q h = cc
goes_on (i ∷ is) (j ∷ js) line more p q h =
    let first : spelled j ≡ spelled i = cc in
    let rest : lines_of js ≡ lines_of is ++ line ∷ more = cc in
    let one = same_item j i q.0 p.0 first in
    let on = goes_on is js line more p.1 q.1 rest in
    record { next = on.next; more = on.more; items_are = ap (λ k. k ∷ js) one ∙ ap (λ ks. i ∷ ks) on.items_are; is_item = on.is_item; line_is = on.line_is }
