-- The text of a node: its own line, and those of the nodes in it.
use Rattle.std.proofs.Common.{◌≡◌, ℕ, zero, suc, ◌<◌, Bool, List, [], ◌∷◌, ◌++◌, flat_map, length, get_or, refl, sym, ap, ◌∙◌, subst, append_assoc, append-nil, codes, string_bytes, String, Global, Result, Option, Some, None, Box, Vec, arith}
use Rattle.std.specs.BTreeMap.{BTreeMap}
use Rattle.std.specs.Prelude.{IsTrue}
use Rattle.std.proofs.lemmas.Bool.{and_parts, ltb-true}
use Rattle.archive_shape_layout.specs.Progress.{Progress}
use Rattle.archive_shape_layout.specs.declared.error.Error.{Error}
use Rattle.archive_shape_layout.specs.Writing.{Written, Failed, Appends}
use Rattle.archive_shape_layout.proofs.Joined.{failed_first, appends_after}
use Rattle.cabinet_text_grammar.specs.Tree as tree
use Rattle.cabinet_text_grammar.specs.Tree.{Tree}
use Rattle.cabinet_text_grammar.specs.Item.{Item, key_item, whole_item, items, items_of, items_of_pairs}
use Rattle.cabinet_text_grammar.specs.Spelling.{spelled, lines_of, ended}
use Rattle.cabinet_text_grammar.specs.Answering.{head_of}
use Rattle.cabinet_text_grammar.specs.Wholes.{numbered, IsTable}
use Rattle.cabinet_text_grammar.proofs.Tables.{is_numbered, number_back}
use Rattle.cabinet_text_nodes.specs.View.{view_step, whole_of, node_tree, node_trees, node_pairs, known_below, all_known}
use Rattle.cabinet_text_nodes.specs.declared.node.Node.{Node, fold-roll-Node}
use Rattle.cabinet_text_nodes.specs.declared.node.Node.TheVariants as node
use Rattle.cabinet_text_nodes.specs.declared.node.Node.TheFolds.{map-Node, ind-Node}
use Rattle.cabinet_text_nodes.specs.declared.node.Node.TheOpen.{Node-F}
use Rattle.cabinet_text_nodes.specs.declared.node.Node.TheViews.{roll-Node}
use Rattle.cabinet_text_nodes.proofs.Faults.{values, known-whole}
use Rattle.cabinet_text_nodes.proofs.Views.{node_tree-whole}
use Rattle.cabinet_text_nodes.proofs.Pieces.{written_as, failed_as}

pub ended-append : (is js : List Item) → ended (lines_of (is ++ js)) ≡ ended (lines_of is) ++ ended (lines_of js)
ended-append [] js = refl
ended-append (i ∷ is) js =
    ap (λ w. spelled i ++ 10 ∷ w) (ended-append is js) ∙ sym (append_assoc (spelled i) (10 ∷ ended (lines_of is)) (ended (lines_of js)))

-- an item's line with its newline
abbrev pub line_of : Item → List ℕ
line_of i = spelled i ++ codes "\n"

first_line : (i : Item) (is : List Item) → ended (lines_of (i ∷ is)) ≡ line_of i ++ ended (lines_of is)
first_line i is = sym (append_assoc (spelled i) (codes "\n") (ended (lines_of is)))

-- ---- numbers of wholes

pub known_at : (n : ℕ) (ns : List Node) (i : ℕ) (x : Node) → IsTrue (all_known n ns) → i < length ns → x ≡ get_or ns i x → IsTrue (known_below n x)
known_at n [] i x known within is = absurd (omega (arith, within))
known_at n (m ∷ ns) zero x known within is = subst (λ y. IsTrue (known_below n y)) (sym is) (and_parts _ _ known).0
known_at n (m ∷ ns) (suc i) x known within is = known_at n ns i x (and_parts _ _ known).1 (omega (arith, within)) is

pub known_value_at : (n : ℕ) (ps : List (String Global × Node)) (i : ℕ) (p : String Global × Node) → IsTrue (all_known n (values ps)) → i < length ps → p ≡ get_or ps i p → IsTrue (known_below n p.1)
known_value_at n [] i p known within is = absurd (omega (arith, within))
known_value_at n (q ∷ ps) zero p known within is = subst (λ (r : String Global × Node). IsTrue (known_below n r.1)) (sym is) (and_parts _ _ known).0
known_value_at n (q ∷ ps) (suc i) p known within is = known_value_at n ps i p (and_parts _ _ known).1 (omega (arith, within)) is

pub known_value_after : (n : ℕ) (ps done : List (String Global × Node)) (p : String Global × Node) (later : List (String Global × Node)) → ps ≡ done ++ p ∷ later → IsTrue (all_known n (values ps)) → IsTrue (known_below n p.1)
known_value_after n ps done p later is known =
    after done (subst (λ qs. IsTrue (all_known n (values qs))) is known)
  where
    after : (qs : List (String Global × Node)) → IsTrue (all_known n (values (qs ++ p ∷ later))) → IsTrue (known_below n p.1)
    after [] k = (and_parts _ _ k).0
    after (q ∷ qs) k = after qs (and_parts _ _ k).1

-- each node is a layer around nodes
pub unrolled : (n : Node) → (x : Node-F Node) × (n ≡ roll-Node x)
unrolled = ind-Node (λ n. (x : Node-F Node) × (n ≡ roll-Node x)) (λ x y is. (x, refl))

module _ (table : List Tree) where
  -- the item of a whole has the number of its tree
  pub whole_items : (n : Node) (m : ℕ) → n ≡ node.Whole m → IsTable table → IsTrue (known_below (length table) n) → items table (node_tree table n) ≡ whole_item m ∷ []
  whole_items n m is is_table known =
      let below : m < length table = ltb-true m (length table) (sym (known-whole (length table) m) ∙ subst (λ x. IsTrue (known_below (length table) x)) is known) in
      let found = is_numbered table m below in
      ap (λ x. items table (node_tree table x)) is
      ∙ ap (items table) (node_tree-whole table m ∙ ap whole_of found.1)
      ∙ ap (λ k. whole_item k ∷ []) (number_back table m found.0 is_table found.1)

  pub whole_line : (n : Node) (m : ℕ) → n ≡ node.Whole m → IsTable table → IsTrue (known_below (length table) n) → ended (lines_of (items table (node_tree table n))) ≡ line_of (whole_item m)
  whole_line n m is is_table known = ap (λ is. ended (lines_of is)) (whole_items n m is is_table known)

  -- the items of the nodes in a node
  abbrev pub inside : Tree → List Item
  inside (tree.leaf l) = []
  inside (tree.shared t) = []
  inside tree.nothing = []
  inside (tree.just t) = items table t
  inside (tree.list ts) = items_of table ts
  inside (tree.map kind ps) = items_of_pairs table ps
  inside (tree.whole t) = []

  -- the first item is the head, as that of each node but a whole
  abbrev pub BeginsWithHead : Tree → Type 0
  BeginsWithHead t = items table t ≡ head_of t ∷ inside t

  layer_begins : (x : Node-F Node) → ((m : ℕ) → roll-Node x ≡ node.Whole m → ⊥) → BeginsWithHead (view_step table (map-Node Node Tree (node_tree table) x))
  layer_begins (Node-F.Bool b) other = refl
  layer_begins (Node-F.Int n) other = refl
  layer_begins (Node-F.Text t) other = refl
  layer_begins (Node-F.Shared t) other = refl
  layer_begins (Node-F.Maybe None) other = refl
  layer_begins (Node-F.Maybe (Some b)) other = refl
  layer_begins (Node-F.List v) other = refl
  layer_begins (Node-F.Ordered m) other = refl
  layer_begins (Node-F.Hashed m) other = refl
  layer_begins (Node-F.Kept v) other = refl
  layer_begins (Node-F.Whole n) other = absurd (other n (node.rolls-Whole n))

  pub begins : (n : Node) → ((m : ℕ) → n ≡ node.Whole m → ⊥) → BeginsWithHead (node_tree table n)
  begins n other =
      let layer = unrolled n in
      rw layer.1 (subst BeginsWithHead (sym (fold-roll-Node Tree (view_step table) layer.0)) (layer_begins layer.0 (λ m is. other m (layer.1 ∙ is))))

  layer_alone : (x : Node-F Node) → ((o : Option (Box Node Global)) → roll-Node x ≡ node.Maybe o → ⊥) → ((v : Vec Node Global) → roll-Node x ≡ node.List v → ⊥)
      → ((m : BTreeMap (String Global) Node) → roll-Node x ≡ node.Ordered m → ⊥) → ((m : BTreeMap (String Global) Node) → roll-Node x ≡ node.Hashed m → ⊥)
      → ((v : Vec (String Global × Node) Global) → roll-Node x ≡ node.Kept v → ⊥) → inside (view_step table (map-Node Node Tree (node_tree table) x)) ≡ []
  layer_alone (Node-F.Bool b) maybe list ordered hashed kept = refl
  layer_alone (Node-F.Int n) maybe list ordered hashed kept = refl
  layer_alone (Node-F.Text t) maybe list ordered hashed kept = refl
  layer_alone (Node-F.Shared t) maybe list ordered hashed kept = refl
  layer_alone (Node-F.Maybe o) maybe list ordered hashed kept = absurd (maybe o (node.rolls-Maybe o))
  layer_alone (Node-F.List v) maybe list ordered hashed kept = absurd (list v (node.rolls-List v))
  layer_alone (Node-F.Ordered m) maybe list ordered hashed kept = absurd (ordered m (node.rolls-Ordered m))
  layer_alone (Node-F.Hashed m) maybe list ordered hashed kept = absurd (hashed m (node.rolls-Hashed m))
  layer_alone (Node-F.Kept v) maybe list ordered hashed kept = absurd (kept v (node.rolls-Kept v))
  layer_alone (Node-F.Whole n) maybe list ordered hashed kept =
      of (numbered table n)
    where
      of : (found : Option Tree) → inside (whole_of found) ≡ []
      of None = refl
      of (Some t) = refl

  -- nothing lies in a node that is neither an option nor a list nor a map
  pub alone : (n : Node) → ((o : Option (Box Node Global)) → n ≡ node.Maybe o → ⊥) → ((v : Vec Node Global) → n ≡ node.List v → ⊥)
      → ((m : BTreeMap (String Global) Node) → n ≡ node.Ordered m → ⊥) → ((m : BTreeMap (String Global) Node) → n ≡ node.Hashed m → ⊥)
      → ((v : Vec (String Global × Node) Global) → n ≡ node.Kept v → ⊥) → inside (node_tree table n) ≡ []
  alone n maybe list ordered hashed kept =
      let layer = unrolled n in
      ap (λ m. inside (node_tree table m)) layer.1
      ∙ ap inside (fold-roll-Node Tree (view_step table) layer.0)
      ∙ layer_alone layer.0 (λ o is. maybe o (layer.1 ∙ is)) (λ v is. list v (layer.1 ∙ is)) (λ m is. ordered m (layer.1 ∙ is)) (λ m is. hashed m (layer.1 ∙ is)) (λ v is. kept v (layer.1 ∙ is))

  abbrev pub node_lines : Node → List ℕ
  node_lines n = ended (lines_of (items table (node_tree table n)))

  abbrev pub pair_lines : String Global × Node → List ℕ
  pair_lines p = line_of (key_item (string_bytes p.0)) ++ node_lines p.1

  pub text_is : (n : Node) → ((m : ℕ) → n ≡ node.Whole m → ⊥) → node_lines n ≡ line_of (head_of (node_tree table n)) ++ ended (lines_of (inside (node_tree table n)))
  text_is n other = ap (λ is. ended (lines_of is)) (begins n other) ∙ first_line (head_of (node_tree table n)) (inside (node_tree table n))

  pub nodes_lines : (ns : List Node) → flat_map node_lines ns ≡ ended (lines_of (items_of table (node_trees table ns)))
  nodes_lines [] = refl
  nodes_lines (n ∷ ns) = ap (λ w. node_lines n ++ w) (nodes_lines ns) ∙ sym (ended-append (items table (node_tree table n)) (items_of table (node_trees table ns)))

  pub pairs_lines : (ps : List (String Global × Node)) → flat_map pair_lines ps ≡ ended (lines_of (items_of_pairs table (node_pairs table ps)))
  pairs_lines [] = refl
  pairs_lines (p ∷ ps) =
      let k = key_item (string_bytes p.0) in
      let is = items table (node_tree table p.1) in
      let js = items_of_pairs table (node_pairs table ps) in
      append_assoc (line_of k) (ended (lines_of is)) (flat_map pair_lines ps)
      ∙ ap (λ w. line_of k ++ w) (ap (λ w. ended (lines_of is) ++ w) (pairs_lines ps) ∙ sym (ended-append is js))
      ∙ sym (first_line k (is ++ js))

module _ {W : Type 0} {observable counts : Bool} {contents : W → List ℕ} {pos failures : W → ℕ} {last_error : W → Error} {known : W → ℕ → Progress ℕ} where
  -- the line of a node was written, and then the rest of it is
  pub node_appends : {A : Type 0} (table : List Tree) {old mid : W} (new : W) (n : Node) {i : Item} (t : Tree) (rest : List ℕ) (result : Result A Error)
      → ((m : ℕ) → n ≡ node.Whole m → ⊥)
      → i ≡ head_of (node_tree table n)
      → node_tree table n ≡ t
      → ended (lines_of (inside table t)) ≡ rest
      → Written observable counts contents pos failures last_error known old mid (line_of i)
      → Appends observable counts contents pos failures last_error known mid new rest result
      → Appends observable counts contents pos failures last_error known old new (node_lines table n) result
  node_appends table {old = old} new n {i = i} t rest result other head is lines before now =
      let P : List ℕ → Type 0 = λ piece. Appends observable counts contents pos failures last_error known old new piece result in
      let whole : node_lines table n ≡ line_of i ++ rest =
      text_is table n other ∙ ap (λ h. line_of h ++ ended (lines_of (inside table (node_tree table n)))) (sym head) ∙ ap (λ w. line_of i ++ w) (ap (λ u. ended (lines_of (inside table u))) is ∙ lines) in
      subst P (sym whole) (appends_after new rest result before now)

  -- the line of a node was written, and nothing lies in it
  pub node_alone : (table : List Tree) {old new : W} (n : Node) {i : Item}
      → ((m : ℕ) → n ≡ node.Whole m → ⊥)
      → i ≡ head_of (node_tree table n)
      → inside table (node_tree table n) ≡ []
      → Written observable counts contents pos failures last_error known old new (line_of i)
      → Written observable counts contents pos failures last_error known old new (node_lines table n)
  node_alone table n other head nothing written =
      let line = line_of (head_of (node_tree table n)) in
      written_as (ap line_of head ∙ sym (append-nil line) ∙ sym (text_is table n other ∙ ap (λ is. line ++ ended (lines_of is)) nothing)) written

  -- the writer failed in the line of a node
  pub node_failed : (table : List Tree) {old new : W} {e : Error} (n : Node) {i : Item}
      → ((m : ℕ) → n ≡ node.Whole m → ⊥)
      → i ≡ head_of (node_tree table n)
      → Failed observable counts contents pos failures last_error known old new (line_of i) e
      → Failed observable counts contents pos failures last_error known old new (node_lines table n) e
  node_failed table n {i = i} other head failed =
      let rest = ended (lines_of (inside table (node_tree table n))) in
      failed_as (ap (λ h. line_of h ++ rest) head ∙ sym (text_is table n other)) (failed_first rest failed)
