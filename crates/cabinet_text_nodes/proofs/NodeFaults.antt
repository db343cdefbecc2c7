-- The fault of a node, from the faults of the nodes in it.
use Rattle.std.proofs.Common.{◌≡◌, ℕ, zero, suc, ◌+◌, ◌<◌, ◌≤◌, ◌^◌, Bool, true, false, List, [], ◌∷◌, length, get_or, drop, refl, sym, ap, ◌∙◌, subst, arith, Option, Some, None, add-one, drop-cons, Global, String, Vec, Box}
use Rattle.std.specs.Prelude.{nat_lt, slice_get, string_bytes, string_cmp}
use Rattle.std.specs.BTreeMap.{BTreeMap}
use Rattle.std.specs.List.Sorted.{IsStrictlySortedBy}
use Rattle.std.specs.Map.{keys_of}
use Rattle.std.specs.declared.rc.RcStr.{RcStr}
use Rattle.std.specs.Rc.{rc_str_bytes}
use Rattle.std.proofs.lemmas.Bool.{lt-ltb}
use Rattle.std.proofs.lemmas.Bool.Decides.{nat_tests}
use Rattle.std.proofs.lemmas.List.{drop_all}
use Rattle.std.proofs.lemmas.Str.{IsUtf8-string_bytes}
use Rattle.cabinet_text_grammar.specs.Keys.{MapKind, ordered, hashed, kept}
use Rattle.cabinet_text_grammar.specs.Tree.{text, Tree, leaf, shared, depth, IsLegal}
use Rattle.cabinet_text_grammar.specs.Wholes.{numbered}
use Rattle.cabinet_text_grammar.proofs.Tables.{is_numbered}
use Rattle.cabinet_text_nodes.specs.Faults.{AreDepths, AllLegal, IsFault, NodeFault, NodeFaults, IsInside, worse_of, HasKeyTwice}
use Rattle.cabinet_text_nodes.specs.View.{node_tree, node_trees, node_pairs, known_below, all_known, whole_of}
use Rattle.cabinet_text_nodes.proofs.Views.{count-node_trees, pair_count-node_pairs, node_tree-text, node_tree-shared, node_tree-none, node_tree-some, node_tree-list, node_tree-ordered, node_tree-hashed, node_tree-kept, node_tree-whole}
use Rattle.cabinet_text_nodes.proofs.Faults.{worse_assoc, worse_none, faults_both, option_fault, list_fault, NodesFault, nodes_fault, map_fault, repeat_fault, values, values_depth, repeat_among_pairs, known-text, known-shared, known-list, known-none, known-some, known-ordered, known-hashed, known-kept, known-whole, ordered_pairs, hashed_pairs, kept_pairs, twice_same, twice_back}
use Rattle.cabinet_text_nodes.specs.declared.node.Node.{Node}
use Rattle.cabinet_text_nodes.specs.declared.node.Node.TheVariants as node
use Rattle.cabinet_text_nodes.specs.declared.refusal.DocumentRefusal.{DocumentRefusal}
use Rattle.cabinet_text_nodes.specs.declared.refusal.DocumentRefusal.TheVariants.{UnknownWhole, TooDeep, RepeatedKey}

moved : (L : Type 0) (room : ℕ) (r : Option DocumentRefusal) {k j : Bool} {t u : Tree} → j ≡ k → u ≡ t → IsFault L room k t r → IsFault L room j u r
moved L room r {k} {j} {t} {u} same_known same_tree h = subst (λ b. IsFault L room b u r) (sym same_known) (subst (λ v. IsFault L room k v r) (sym same_tree) h)

module _ (depths : List ℕ) where
  -- ---- several nodes

  -- after some nodes, their fault and that of the rest make the fault of all
  abbrev pub IsFaultBefore : ℕ → List Node → List Node → Option DocumentRefusal → Type 0
  IsFaultBefore room all rest fault = (later : Option DocumentRefusal) → NodeFaults depths room rest later → NodeFaults depths room all (worse_of fault later)

  pub nothing_before : (room : ℕ) (ns : List Node) → IsFaultBefore room ns ns None
  nothing_before room ns later h = h

  pub fault_before_more : (room : ℕ) (all : List Node) (n : Node) (rest before : List Node) (fault now next : Option DocumentRefusal) → before ≡ n ∷ rest → IsFaultBefore room all before fault → NodeFault depths room n now → next ≡ worse_of fault now → IsFaultBefore room all rest next
  fault_before_more room all n rest before fault now next split told here is later h =
      rw (is, worse_assoc fault now later)
      (told (worse_of now later) (rw split (λ table d. faults_both (AllLegal table) room (known_below (length depths) n) (all_known (length depths) rest) (node_tree table n) (node_trees table rest) now later (here table d) (h table d))))

  pub fault_before_none : (room : ℕ) (all before : List Node) (fault : Option DocumentRefusal) → before ≡ [] → IsFaultBefore room all before fault → NodeFaults depths room all fault
  fault_before_none room all before fault is told =
      subst (NodeFaults depths room all) (worse_none fault) (told None (rw is (λ table d. (refl, λ l. tt, omega arith))))

  -- ---- options and lists

  pub none_fault : (room inner : ℕ) (r : Option DocumentRefusal) → IsInside room inner r → NodeFault depths room (node.Maybe None) r
  none_fault zero inner r is table d = rw is.1 (moved (AllLegal table) 0 (Some TooDeep) (known-none (length depths)) (node_tree-none table) (refl, omega arith))
  none_fault (suc room) inner r is table d = rw is.1 (moved (AllLegal table) (suc room) None (known-none (length depths)) (node_tree-none table) (refl, λ l. tt, omega arith))

  pub some_fault : (room inner : ℕ) (own now r : Option DocumentRefusal) (b : Box Node Global) → IsInside room inner own → NodeFault depths inner b.value now → r ≡ worse_of own now → NodeFault depths room (node.Maybe (Some b)) r
  some_fault room inner own now r b is h sum table d =
      rw sum (moved (AllLegal table) room _ (known-some (length depths) b) (node_tree-some table b) (option_fault (AllLegal table) room inner own (known_below (length depths) b.value) (node_tree table b.value) now is (h table d)))

  pub list_node_fault : (room inner : ℕ) (own now r : Option DocumentRefusal) (v : Vec Node Global) → IsInside room inner own → length v.items < 2 ^ 64 → NodeFaults depths inner v.items now → r ≡ worse_of own now → NodeFault depths room (node.List v) r
  list_node_fault room inner own now r v is few h sum table d =
      rw sum
      (moved (AllLegal table) room _ (known-list (length depths) v) (node_tree-list table v)
      (list_fault (AllLegal table) room inner own (all_known (length depths) v.items) (node_trees table v.items) now is (omega (arith, few, count-node_trees table v.items)) (h table d)))

  -- ---- maps

  pub pairs_fault : (room inner : ℕ) (own now r : Option DocumentRefusal) (kind : MapKind) (ps : List (String Global × Node)) → IsInside room inner own → NodeFaults depths inner (values ps) now → r ≡ worse_of own now
      → (table : List Tree) → AreDepths table depths → NodesFault (AllLegal table) room (all_known (length depths) (values ps)) (node_trees table (values ps)) kind (node_pairs table ps) r
  pairs_fault room inner own now r kind ps is h sum table d =
      rw sum (nodes_fault (AllLegal table) room inner own (all_known (length depths) (values ps)) (node_trees table (values ps)) kind (node_pairs table ps) now is (values_depth table ps) (repeat_among_pairs table ps) (h table d))

  pub ordered_fault : (room inner : ℕ) (own now r : Option DocumentRefusal) (m : BTreeMap (String Global) Node) → IsInside room inner own → length m.entries < 2 ^ 64 → IsStrictlySortedBy string_cmp (keys_of m.entries) → NodeFaults depths inner (values m.entries) now → r ≡ worse_of own now
      → NodeFault depths room (node.Ordered m) r
  ordered_fault room inner own now r m is few sorted h sum table d =
      moved (AllLegal table) room _ (known-ordered (length depths) m) (node_tree-ordered table m)
      (map_fault (AllLegal table) room (all_known (length depths) (values m.entries)) (node_trees table (values m.entries)) ordered (node_pairs table m.entries) r (omega (arith, few, pair_count-node_pairs table m.entries)) (ordered_pairs table m.entries sorted)
      (pairs_fault room inner own now r ordered m.entries is h sum table d))

  pub hashed_fault : (room inner : ℕ) (own now r : Option DocumentRefusal) (m : BTreeMap (String Global) Node) → IsInside room inner own → length m.entries < 2 ^ 64 → IsStrictlySortedBy string_cmp (keys_of m.entries) → NodeFaults depths inner (values m.entries) now → r ≡ worse_of own now
      → NodeFault depths room (node.Hashed m) r
  hashed_fault room inner own now r m is few sorted h sum table d =
      moved (AllLegal table) room _ (known-hashed (length depths) m) (node_tree-hashed table m)
      (map_fault (AllLegal table) room (all_known (length depths) (values m.entries)) (node_trees table (values m.entries)) hashed (node_pairs table m.entries) r (omega (arith, few, pair_count-node_pairs table m.entries)) (hashed_pairs table m.entries sorted)
      (pairs_fault room inner own now r hashed m.entries is h sum table d))

  pub kept_once_fault : (room inner : ℕ) (own now r : Option DocumentRefusal) (v : Vec (String Global × Node) Global) → IsInside room inner own → length v.items < 2 ^ 64 → (HasKeyTwice (node_pairs [] v.items) → ⊥) → NodeFaults depths inner (values v.items) now → r ≡ worse_of own now
      → NodeFault depths room (node.Kept v) r
  kept_once_fault room inner own now r v is few once h sum table d =
      moved (AllLegal table) room _ (known-kept (length depths) v) (node_tree-kept table v)
      (map_fault (AllLegal table) room (all_known (length depths) (values v.items)) (node_trees table (values v.items)) kept (node_pairs table v.items) r (omega (arith, few, pair_count-node_pairs table v.items))
      (kept_pairs table v.items (λ twice. once (twice_back table v.items twice)))
      (pairs_fault room inner own now r kept v.items is h sum table d))

  pub kept_twice_fault : (room inner : ℕ) (own now among r : Option DocumentRefusal) (v : Vec (String Global × Node) Global) → IsInside room inner own → HasKeyTwice (node_pairs [] v.items) → NodeFaults depths inner (values v.items) now → among ≡ worse_of own now → r ≡ worse_of (Some RepeatedKey) among
      → NodeFault depths room (node.Kept v) r
  kept_twice_fault room inner own now among r v is twice h sum all table d =
      rw all
      (moved (AllLegal table) room _ (known-kept (length depths) v) (node_tree-kept table v)
      (repeat_fault (AllLegal table) room (all_known (length depths) (values v.items)) (node_trees table (values v.items)) (node_pairs table v.items) among (twice_same table v.items twice)
      (pairs_fault room inner own now among kept v.items is h sum table d)))

  -- ---- leaves

  pub leaf_fault : (room : ℕ) (n : Node) (t : Tree) → ((table : List Tree) → node_tree table n ≡ t) → known_below (length depths) n ≡ true → IsLegal t → depth t ≡ 0 → NodeFault depths room n None
  leaf_fault room n t is known legal flat table d = moved (AllLegal table) room None known (is table) (refl, λ l. legal, omega (arith, flat))

  pub text_fault : (room : ℕ) (n : Node) (s : String Global) → n ≡ node.Text s → NodeFault depths room n None
  text_fault room n s is =
      leaf_fault room n (leaf (text (string_bytes s))) (λ table. ap (node_tree table) is ∙ node_tree-text table s) (ap (known_below (length depths)) is ∙ known-text (length depths) s) (IsUtf8-string_bytes s) refl

  pub shared_fault : (room : ℕ) (n : Node) (s : RcStr Global) → n ≡ node.Shared s → NodeFault depths room n None
  shared_fault room n s is =
      leaf_fault room n (shared (rc_str_bytes s)) (λ table. ap (node_tree table) is ∙ node_tree-shared table s) (ap (known_below (length depths)) is ∙ known-shared (length depths) s) (IsUtf8-string_bytes s.text.value) refl

  -- ---- wholes

  pub whole_unknown : (room n : ℕ) → length depths ≤ n → NodeFault depths room (node.Whole n) (Some UnknownWhole)
  whole_unknown room n above table d = moved (AllLegal table) room (Some UnknownWhole) (known-whole (length depths) n) (node_tree-whole table n) (not_below n (length depths) above)
    where
      not_below : (m k : ℕ) → k ≤ m → nat_lt m k ≡ false
      not_below m k h = grind (arith, nat_tests)

  whole_at : (n : ℕ) (h : ℕ) (table : List Tree) → AreDepths table depths → n < length depths → slice_get depths n ≡ Some h → (t : Tree) × (numbered table n ≡ Some t) × (depth t ≡ h)
  whole_at n h table d within there =
      let found = is_numbered table n (omega (arith, within, d.as_many)) in
      (found.0, found.1, same_some (sym (d.each n found.0 found.1) ∙ there))
    where
      same_some : {a b : ℕ} → Some a ≡ Some b → a ≡ b
      same_some e = cc

  pub whole_deep : (room n h : ℕ) → n < length depths → slice_get depths n ≡ Some h → room ≤ h → NodeFault depths room (node.Whole n) (Some TooDeep)
  whole_deep room n h within there deep table d =
      let found = whole_at n h table d within there in
      moved (AllLegal table) room (Some TooDeep) (known-whole (length depths) n ∙ lt-ltb n (length depths) within) (node_tree-whole table n ∙ ap whole_of found.1) (refl, omega (arith, deep, found.2))

  pub whole_fits : (room n h : ℕ) → n < length depths → slice_get depths n ≡ Some h → h < room → NodeFault depths room (node.Whole n) None
  whole_fits room n h within there fits table d =
      let found = whole_at n h table d within there in
      moved (AllLegal table) room None (known-whole (length depths) n ∙ lt-ltb n (length depths) within) (node_tree-whole table n ∙ ap whole_of found.1) (refl, λ legal. legal n found.0 found.1, omega (arith, fits, found.2))

-- ---- loops

pub nodes_from : (ns : List Node) (i : ℕ) (n : Node) → i < length ns → n ≡ get_or ns i n → drop i ns ≡ n ∷ drop (i + 1) ns
nodes_from ns i n within is =
    drop-cons ns i n within ∙ ap (λ m. m ∷ drop (suc i) ns) (sym is) ∙ ap (λ j. n ∷ drop j ns) (sym (add-one i))

pub values_from : (ps : List (String Global × Node)) (i : ℕ) (p : String Global × Node) → i < length ps → p ≡ get_or ps i p → values (drop i ps) ≡ p.1 ∷ values (drop (i + 1) ps)
values_from ps i p within is =
    ap values (drop-cons ps i p within) ∙ ap (λ q. q.1 ∷ values (drop (suc i) ps)) (sym is) ∙ ap (λ j. p.1 ∷ values (drop j ps)) (sym (add-one i))

pub no_nodes : (ns : List Node) (i : ℕ) → length ns ≤ i → drop i ns ≡ []
no_nodes ns i end = drop_all i ns end

pub no_values : (ps : List (String Global × Node)) (i : ℕ) → length ps ≤ i → values (drop i ps) ≡ []
no_values ps i end = ap values (drop_all i ps end)
