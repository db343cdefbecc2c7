-- What is added to the text of a node, and the tree that its two parts tell.
use Rattle.std.proofs.Common.{◌≡◌, ◌↔◌, ℕ, ◌<◌, ◌+◌, ◌^◌, true, List, [], ◌∷◌, ◌++◌, flat_map, map, length, get_or, take, refl, sym, ap, ◌∙◌, subst, append_assoc, append-nil, string_bytes, String, Global, Result, Ok, Err, IfOk, Option, Some, None, Vec, arith}
use Rattle.std.specs.Prelude.{IsTrue}
use Rattle.std.specs.Cmp.Lexicographic.{slice_cmp}
use Rattle.std.specs.Ordering.{nat_cmp, is_eq, ordering_then}
use Rattle.std.specs.Rc.{rc_str_bytes}
use Rattle.std.specs.declared.cmp.Ordering.{Ordering}
use Rattle.std.specs.declared.cmp.Ordering.TheVariants.{Less, Equal, Greater}
use Rattle.std.specs.declared.rc.RcStr.{RcStr}
use Rattle.std.proofs.lemmas.List.{take_more, map-append}
use Rattle.std.proofs.lemmas.Map.Text.{is_eq-slice_cmp}
use Rattle.std.proofs.lemmas.Slice.Eq.{bytes_eq-Decides}
use Rattle.std.proofs.lemmas.Grind.{flat_map-append}
use Rattle.archive_shape_layout.specs.declared.error.Error.{Error}
use Rattle.archive_shape_layout.specs.Writing.{WriterMembers, Writes}
use Rattle.cabinet_text_grammar.specs.Answering.{head_of}
use Rattle.cabinet_text_grammar.specs.Item.{Item, leaf_item, shared_item, none_item, some_item, list_item, map_item, key_item, whole_item, wholes_item, whole_head, items, items_of, items_of_pairs}
use Rattle.cabinet_text_grammar.specs.Spelling.{lines_of, ended}
use Rattle.cabinet_text_grammar.specs.Tree.{Tree, IsLegal}
use Rattle.cabinet_text_grammar.specs.Wholes.{numbered, IsNumbered}
use Rattle.cabinet_text_grammar.proofs.Completing.{one_tree}
use Rattle.cabinet_text_grammar.proofs.Faults.{one_text}
use Rattle.cabinet_text_grammar.proofs.ReadBack.{IsItem}
use Rattle.cabinet_text_grammar.proofs.Spelled.{AreItems, AreItems-tree}
use Rattle.cabinet_text_nodes.specs.NodeTexts.{without_shared, shared_of, shared_in, bare_lines, shared_cmp, node_text_cmp, HasItems, HasAdded}
use Rattle.cabinet_text_nodes.specs.View.{view_step, whole_of, node_tree, node_trees, node_pairs}
use Rattle.cabinet_text_nodes.specs.declared.node.Node.{Node, fold-roll-Node}
use Rattle.cabinet_text_nodes.specs.declared.node.Node.TheVariants as node
use Rattle.cabinet_text_nodes.specs.declared.node.Node.TheFolds.{map-Node}
use Rattle.cabinet_text_nodes.specs.declared.node.Node.TheOpen.{Node-F}
use Rattle.cabinet_text_nodes.specs.declared.node.Node.TheViews.{roll-Node}
use Rattle.cabinet_text_nodes.specs.declared.node_text.NodeText.{NodeText}
use Rattle.cabinet_text_nodes.proofs.Views.{node_tree-shared}
use Rattle.cabinet_text_nodes.proofs.Texts.{ended-append, line_of, unrolled, inside, begins}

-- ---- items with a shared text, and without one

pub data Sharing : Item → Type 0 where
  shares : (t : List ℕ) → Sharing (shared_item t)
  plain : {i : Item} → without_shared i ≡ i → shared_of i ≡ [] → Sharing i

pub sharing : (i : Item) → Sharing i
sharing (leaf_item l) = plain refl refl
sharing (shared_item t) = shares t
sharing none_item = plain refl refl
sharing some_item = plain refl refl
sharing (list_item n) = plain refl refl
sharing (map_item kind n) = plain refl refl
sharing (key_item k) = plain refl refl
sharing (whole_item n) = plain refl refl
sharing (wholes_item n) = plain refl refl
sharing whole_head = plain refl refl

bare_item : (i : Item) → IsItem i → IsItem (without_shared i)
bare_item (leaf_item l) is = is
bare_item (shared_item t) is = ([], (refl, refl))
bare_item none_item is = is
bare_item some_item is = is
bare_item (list_item n) is = is
bare_item (map_item kind n) is = is
bare_item (key_item k) is = is
bare_item (whole_item n) is = is
bare_item (wholes_item n) is = is
bare_item whole_head is = is

bare_items : (is : List Item) → AreItems is → AreItems (map without_shared is)
bare_items [] are = tt
bare_items (i ∷ is) are = (bare_item i are.0, bare_items is are.1)

-- an item and those behind it, told by what they are without shared texts and by these
same_first : (i j : Item) → Sharing i → Sharing j → (is js : List Item) → without_shared i ≡ without_shared j → shared_in (i ∷ is) ≡ shared_in (j ∷ js) → (i ≡ j) × (shared_in is ≡ shared_in js)
same_first i j (shares t) (shares u) is js bare shared =
    let first : t ≡ u = cc in
    let rest : shared_in is ≡ shared_in js = cc in
    (ap shared_item first, rest)
same_first i j (plain e none) (plain f lacks) is js bare shared =
    (sym e ∙ bare ∙ f, sym (ap (λ ts. ts ++ shared_in is) none) ∙ shared ∙ ap (λ ts. ts ++ shared_in js) lacks)
same_first i j (shares t) (plain f lacks) is js bare shared =
    absurd (omega (arith, ap length (ap shared_of (bare ∙ f) ∙ lacks)))
same_first i j (plain e none) (shares u) is js bare shared =
    absurd (omega (arith, ap length (ap shared_of (sym bare ∙ e) ∙ none)))

pub same_items : (is js : List Item) → map without_shared is ≡ map without_shared js → shared_in is ≡ shared_in js → is ≡ js
same_items [] [] bare shared = refl
same_items [] (j ∷ js) bare shared = absurd (cc)
same_items (i ∷ is) [] bare shared = absurd (cc)
same_items (i ∷ is) (j ∷ js) bare shared =
    let first : without_shared i ≡ without_shared j = cc in
    let rest : map without_shared is ≡ map without_shared js = cc in
    let both = same_first i j (sharing i) (sharing j) is js first shared in
    ap (λ k. k ∷ is) both.0 ∙ ap (λ ks. j ∷ ks) (same_items is js rest both.1)

-- a text is that of one tree
pub one_node_tree : (table : List Tree) (s t : Tree) (text : NodeText) → length table < 2 ^ 64 → IsLegal s → IsLegal t → IsNumbered table s → IsNumbered table t → HasItems text (items table s) → HasItems text (items table t) → s ≡ t
one_node_tree table s t text few legal_s legal_t known_s known_t has_s has_t =
    let is = items table s in
    let js = items table t in
    let bare = one_text (map without_shared is) (map without_shared js) (bare_items is (AreItems-tree table few s legal_s known_s)) (bare_items js (AreItems-tree table few t legal_t known_t)) (sym has_s.lines ∙ has_t.lines) in
    one_tree table s t few legal_s legal_t known_s known_t (ap (λ ks. ended (lines_of ks)) (same_items is js bare (sym has_s.shared ∙ has_t.shared)))

-- ---- the order of texts

both_equal : (a b : Ordering) → is_eq (ordering_then a b) ≡ true → (is_eq a ≡ true) × (is_eq b ≡ true)
both_equal Less b e = absurd (cc)
both_equal Equal b e = (refl, e)
both_equal Greater b e = absurd (cc)

equal_both : (a b : Ordering) → is_eq a ≡ true → is_eq b ≡ true → is_eq (ordering_then a b) ≡ true
equal_both Less b e f = absurd (cc)
equal_both Equal b e f = f
equal_both Greater b e f = absurd (cc)

same_bytes : (xs ys : List ℕ) → is_eq (slice_cmp nat_cmp xs ys) ≡ true → xs ≡ ys
same_bytes xs ys e = (bytes_eq-Decides xs ys).0 (sym (is_eq-slice_cmp xs ys) ∙ e)

bytes_same : (xs ys : List ℕ) → xs ≡ ys → is_eq (slice_cmp nat_cmp xs ys) ≡ true
bytes_same xs ys e = is_eq-slice_cmp xs ys ∙ (bytes_eq-Decides xs ys).1 e

same_shared : (xs ys : List (RcStr Global)) → is_eq (slice_cmp shared_cmp xs ys) ≡ true → map rc_str_bytes xs ≡ map rc_str_bytes ys
same_shared [] [] e = refl
same_shared [] (y ∷ ys) e = absurd (cc)
same_shared (x ∷ xs) [] e = absurd (cc)
same_shared (x ∷ xs) (y ∷ ys) e =
    let both = both_equal (shared_cmp x y) (slice_cmp shared_cmp xs ys) e in
    ap (λ t. t ∷ map rc_str_bytes xs) (same_bytes (rc_str_bytes x) (rc_str_bytes y) both.0) ∙ ap (λ ts. rc_str_bytes y ∷ ts) (same_shared xs ys both.1)

shared_same : (xs ys : List (RcStr Global)) → map rc_str_bytes xs ≡ map rc_str_bytes ys → is_eq (slice_cmp shared_cmp xs ys) ≡ true
shared_same [] [] e = refl
shared_same [] (y ∷ ys) e = absurd (cc)
shared_same (x ∷ xs) [] e = absurd (cc)
shared_same (x ∷ xs) (y ∷ ys) e =
    let first : rc_str_bytes x ≡ rc_str_bytes y = cc in
    let rest : map rc_str_bytes xs ≡ map rc_str_bytes ys = cc in
    equal_both (shared_cmp x y) (slice_cmp shared_cmp xs ys) (bytes_same (rc_str_bytes x) (rc_str_bytes y) first) (shared_same xs ys rest)

-- equal texts are those of the same items
pub same_text : (a b : NodeText) (is : List Item) → is_eq (node_text_cmp a b) ≡ true → HasItems a is ↔ HasItems b is
same_text a b is e =
    let both = both_equal (slice_cmp nat_cmp a.lines.items b.lines.items) (slice_cmp shared_cmp a.shared.items b.shared.items) e in
    let lines = same_bytes a.lines.items b.lines.items both.0 in
    let shared = same_shared a.shared.items b.shared.items both.1 in (
      λ has. record { lines = sym lines ∙ has.lines; shared = sym shared ∙ has.shared },
      λ has. record { lines = lines ∙ has.lines; shared = shared ∙ has.shared },
    )

pub text_same : (a b : NodeText) (is : List Item) → HasItems a is → HasItems b is → is_eq (node_text_cmp a b) ≡ true
text_same a b is has had =
    equal_both (slice_cmp nat_cmp a.lines.items b.lines.items) (slice_cmp shared_cmp a.shared.items b.shared.items)
    (bytes_same a.lines.items b.lines.items (has.lines ∙ sym had.lines)) (shared_same a.shared.items b.shared.items (has.shared ∙ sym had.shared))

-- ---- adding

bare-append : (is js : List Item) → bare_lines (is ++ js) ≡ bare_lines is ++ bare_lines js
bare-append is js = ap (λ ks. ended (lines_of ks)) (map-append without_shared is js) ∙ ended-append (map without_shared is) (map without_shared js)

pub added_none : (text : NodeText) → HasAdded text text []
added_none text = record { lines = sym (append-nil text.lines.items); shared = sym (append-nil (map rc_str_bytes text.shared.items)) }

pub added_both : {a b c : NodeText} (is js : List Item) → HasAdded a b is → HasAdded b c js → HasAdded a c (is ++ js)
added_both {a = a} is js first then = record {
  lines = then.lines ∙ ap (λ w. w ++ bare_lines js) first.lines ∙ append_assoc a.lines.items (bare_lines is) (bare_lines js) ∙ ap (λ w. a.lines.items ++ w) (sym (bare-append is js));
  shared = then.shared ∙ ap (λ w. w ++ shared_in js) first.shared ∙ append_assoc (map rc_str_bytes a.shared.items) (shared_in is) (shared_in js) ∙ ap (λ w. map rc_str_bytes a.shared.items ++ w) (sym (flat_map-append shared_of is js));
}

pub added_all : {a : NodeText} (is : List Item) → a.lines.items ≡ [] → a.shared.items ≡ [] → {b : NodeText} → HasAdded a b is → HasItems b is
added_all is lines shared added = record {
  lines = added.lines ∙ ap (λ w. w ++ bare_lines is) lines;
  shared = added.shared ∙ ap (λ ts. map rc_str_bytes ts ++ shared_in is) shared;
}

-- items of one more of several
pub added_at : {X : Type 0} (f : X → List Item) {a b c : NodeText} (xs : List X) (i : ℕ) (x : X) → i < length xs → x ≡ get_or xs i x → HasAdded a b (flat_map f (take i xs)) → HasAdded b c (f x) → HasAdded a c (flat_map f (take (i + 1) xs))
added_at f {a} {b} {c} xs i x within is before now =
    let more : take (i + 1) xs ≡ take i xs ++ x ∷ [] = take_more xs i x within ∙ ap (λ y. take i xs ++ y ∷ []) (sym is) in
    subst (HasAdded a c) (sym (ap (flat_map f) more ∙ flat_map-append f (take i xs) (x ∷ []) ∙ ap (λ w. flat_map f (take i xs) ++ w) (append-nil (f x)))) (added_both (flat_map f (take i xs)) (f x) before now)

-- the items of those before some rest were added
pub record AreAddedBefore {X : Type 0} (f : X → List Item) (early late : NodeText) (xs rest : List X) : Type 0 where
  pub done : List X
  pub split : xs ≡ done ++ rest
  pub added : HasAdded early late (flat_map f done)

pub added_before_none : {X : Type 0} (f : X → List Item) (text : NodeText) (xs : List X) → AreAddedBefore f text text xs xs
added_before_none f text xs = record { done = []; split = refl; added = added_none text }

pub added_more : {X : Type 0} (f : X → List Item) {a b c : NodeText} {xs rest : List X} (x : X) (later : List X) → rest ≡ x ∷ later → AreAddedBefore f a b xs rest → HasAdded b c (f x) → AreAddedBefore f a c xs later
added_more f {a} {b} {c} x later is before now = record {
  done = before.done ++ x ∷ [];
  split = before.split ∙ ap (λ ys. before.done ++ ys) is ∙ sym (append_assoc before.done (x ∷ []) later);
  added = subst (HasAdded a c) (sym (flat_map-append f before.done (x ∷ []) ∙ ap (λ w. flat_map f before.done ++ w) (append-nil (f x)))) (added_both (flat_map f before.done) (f x) before.added now);
}

pub added_last : {X : Type 0} (f : X → List Item) {a b : NodeText} {xs rest : List X} → rest ≡ [] → AreAddedBefore f a b xs rest → HasAdded a b (flat_map f xs)
added_last f {a} {b} none before = subst (HasAdded a b) (sym (ap (flat_map f) (before.split ∙ ap (λ ys. before.done ++ ys) none ∙ append-nil before.done))) before.added

-- ---- items of nodes and of pairs

module _ (table : List Tree) where
  abbrev pub node_items : Node → List Item
  node_items n = items table (node_tree table n)

  abbrev pub pair_items : String Global × Node → List Item
  pair_items p = key_item (string_bytes p.0) ∷ node_items p.1

  pub nodes_items : (ns : List Node) → flat_map node_items ns ≡ items_of table (node_trees table ns)
  nodes_items [] = refl
  nodes_items (n ∷ ns) = ap (λ is. node_items n ++ is) (nodes_items ns)

  pub pairs_items : (ps : List (String Global × Node)) → flat_map pair_items ps ≡ items_of_pairs table (node_pairs table ps)
  pairs_items [] = refl
  pairs_items (p ∷ ps) = ap (λ is. key_item (string_bytes p.0) ∷ (node_items p.1 ++ is)) (pairs_items ps)

  -- the head of a node that is not a shared text has none
  abbrev IsPlain : Tree → Type 0
  IsPlain t = (without_shared (head_of t) ≡ head_of t) × (shared_of (head_of t) ≡ [])

  layer_plain : (x : Node-F Node) → ((t : RcStr Global) → roll-Node x ≡ node.Shared t → ⊥) → IsPlain (view_step table (map-Node Node Tree (node_tree table) x))
  layer_plain (Node-F.Bool b) other = (refl, refl)
  layer_plain (Node-F.Int n) other = (refl, refl)
  layer_plain (Node-F.Text t) other = (refl, refl)
  layer_plain (Node-F.Shared t) other = absurd (other t (node.rolls-Shared t))
  layer_plain (Node-F.Maybe None) other = (refl, refl)
  layer_plain (Node-F.Maybe (Some b)) other = (refl, refl)
  layer_plain (Node-F.List v) other = (refl, refl)
  layer_plain (Node-F.Ordered m) other = (refl, refl)
  layer_plain (Node-F.Hashed m) other = (refl, refl)
  layer_plain (Node-F.Kept v) other = (refl, refl)
  layer_plain (Node-F.Whole n) other =
      of (numbered table n)
    where
      of : (found : Option Tree) → IsPlain (whole_of found)
      of None = (refl, refl)
      of (Some t) = (refl, refl)

  plain_head : (n : Node) → ((t : RcStr Global) → n ≡ node.Shared t → ⊥) → IsPlain (node_tree table n)
  plain_head n other =
      let layer = unrolled n in
      rw layer.1 (subst IsPlain (sym (fold-roll-Node Tree (view_step table) layer.0)) (layer_plain layer.0 (λ t is. other t (layer.1 ∙ is))))

  -- the line of an item without a shared text was written
  pub line_added : (text : NodeText) (lines : Vec ℕ Global) (i : Item) (is : List Item) (result : Result Unit Error) → without_shared i ≡ i → shared_of i ≡ [] → is ≡ i ∷ []
      → IfOk result (λ _. lines.items ≡ text.lines.items ++ line_of i) → IfOk result (λ _. HasAdded text (record { lines = lines; shared = text.shared }) is)
  line_added text lines i is (Ok x) bare none one written =
      subst (HasAdded text (record { lines = lines; shared = text.shared })) (sym one) (record {
        lines = written ∙ ap (λ j. text.lines.items ++ line_of j) (sym bare);
        shared = sym (append-nil (map rc_str_bytes text.shared.items)) ∙ ap (λ ts. map rc_str_bytes text.shared.items ++ (ts ++ [])) (sym none);
      })
  line_added text lines i is (Err e) bare none one written = tt

  -- the line of a head without a shared text was written
  pub head_added : (text : NodeText) (lines : Vec ℕ Global) (n : Node) {i : Item} (result : Result Unit Error) → ((t : RcStr Global) → n ≡ node.Shared t → ⊥) → i ≡ head_of (node_tree table n)
      → IfOk result (λ _. lines.items ≡ text.lines.items ++ line_of i) → IfOk result (λ _. HasAdded text (record { lines = lines; shared = text.shared }) (head_of (node_tree table n) ∷ []))
  head_added text lines n {i} result other head written =
      let is = plain_head n other in
      line_added text lines i (head_of (node_tree table n) ∷ []) result (subst (λ j. without_shared j ≡ j) (sym head) is.0) (ap shared_of head ∙ is.1) (ap (λ j. j ∷ []) (sym head)) written

  -- a shared text was added, and the line of an empty one
  pub shared_added : (text : NodeText) (lines : Vec ℕ Global) (shared : Vec (RcStr Global) Global) (n : Node) (own : RcStr Global) (copy : RcStr Global) (result : Result Unit Error)
      → n ≡ node.Shared own → rc_str_bytes copy ≡ rc_str_bytes own → shared.items ≡ text.shared.items ++ copy ∷ []
      → IfOk result (λ _. lines.items ≡ text.lines.items ++ line_of (shared_item [])) → IfOk result (λ _. HasAdded text (record { lines = lines; shared = shared }) (head_of (node_tree table n) ∷ []))
  shared_added text lines shared n own copy (Ok x) is same pushed written =
      let head : head_of (node_tree table n) ≡ shared_item (rc_str_bytes own) = ap (λ m. head_of (node_tree table m)) is ∙ ap head_of (node_tree-shared table own) in
      subst (λ i. HasAdded text (record { lines = lines; shared = shared }) (i ∷ [])) (sym head) (record {
        lines = written;
        shared = ap (map rc_str_bytes) pushed ∙ map-append rc_str_bytes text.shared.items (copy ∷ []) ∙ ap (λ t. map rc_str_bytes text.shared.items ++ t ∷ []) same;
      })
  shared_added text lines shared n own copy (Err e) is same pushed written = tt

  -- the head of a node was added, and then what lies in it
  pub node_added : {a b : NodeText} (c : NodeText) (n : Node) (t : Tree) (result : Result Unit Error) → ((m : ℕ) → n ≡ node.Whole m → ⊥) → node_tree table n ≡ t → HasAdded a b (head_of (node_tree table n) ∷ [])
      → IfOk result (λ _. HasAdded b c (inside table t)) → IfOk result (λ _. HasAdded a c (node_items n))
  node_added {a = a} c n t (Ok x) other is head rest =
      subst (HasAdded a c) (ap (λ u. head_of (node_tree table n) ∷ inside table u) (sym is) ∙ sym (begins table n other)) (added_both (head_of (node_tree table n) ∷ []) (inside table t) head rest)
  node_added c n t (Err e) other is head rest = tt

  -- the head of a node was added, and nothing lies in it
  pub node_added_alone : {a b : NodeText} (n : Node) → ((m : ℕ) → n ≡ node.Whole m → ⊥) → inside table (node_tree table n) ≡ [] → HasAdded a b (head_of (node_tree table n) ∷ []) → HasAdded a b (node_items n)
  node_added_alone {a} {b} n other nothing head = subst (HasAdded a b) (ap (λ is. head_of (node_tree table n) ∷ is) (sym nothing) ∙ sym (begins table n other)) head

-- ---- lines that were written behind those of a text

pub gained : {W A : Type 0} (w : WriterMembers W) (old new : W) (piece : List ℕ) (result : Result A Error) → IsTrue w.OBSERVABLE → Writes w old new piece result → IfOk result (λ _. w.contents new ≡ w.contents old ++ piece)
gained w old new piece (Ok x) seen h = h.gains seen
gained w old new piece (Err e) seen h = tt
