-- Trees of nodes that are loaded one after the other, while the table of wholes grows.
use Rattle.std.proofs.Common.{◌≡◌, ◌∙◌, ℕ, Global, String, string_bytes, List, [], ◌∷◌, ◌++◌, map, Some, refl, sym, ap, ap₂, subst, append-nil}
use Rattle.std.specs.Prelude.{⊤}
use Rattle.cabinet_text_grammar.specs.Tree as tree
use Rattle.cabinet_text_grammar.specs.Tree.{Tree, Pairs, no_pairs, more_pairs, IsLegal}
use Rattle.cabinet_text_grammar.specs.Wholes.{numbered, with_wholes, with_wholes_in, with_wholes_by, IsTable}
use Rattle.cabinet_text_nodes.specs.View.{node_tree, node_pairs, trees_of, whole_of}
use Rattle.cabinet_text_nodes.specs.declared.node.Node.{Node}
use Rattle.cabinet_text_nodes.specs.declared.node.Node.TheVariants as node
use Rattle.cabinet_text_nodes.proofs.Entries.{node_stays, numbered_stays}
use Rattle.cabinet_text_grammar.proofs.Tables.{below_numbered, has_numbered, listed_table}
use Rattle.cabinet_text_nodes.proofs.Walks.{wholes_end, complete_adds}
use Rattle.cabinet_text_nodes.proofs.Views.{node_tree-whole}
use Rattle.cabinet_documents.proofs.ByKey.{pair_keys}

-- ---- larger tables

-- nodes and numbers have the same trees in a larger table
pub record Grows (table more : List Tree) : Type 0 where
  pub nodes : (n : Node) → IsLegal (node_tree table n) → node_tree more n ≡ node_tree table n
  pub numbers : (n : ℕ) (t : Tree) → numbered table n ≡ Some t → numbered more n ≡ Some t

grows_front : (front table : List Tree) → Grows table (front ++ table)
grows_front [] table = record { nodes = λ n legal. refl; numbers = λ n t at. at }
grows_front (u ∷ front) table =
    let g = grows_front front table in
    record {
      nodes = λ n legal. node_stays u (front ++ table) n (subst IsLegal (sym (g.nodes n legal)) legal) ∙ g.nodes n legal;
      numbers = λ n t at. numbered_stays u (front ++ table) n (below_numbered (front ++ table) n t (g.numbers n t at)) ∙ g.numbers n t at;
    }

pub grows_wholes : (table : List Tree) (t : Tree) → Grows table (with_wholes table t)
grows_wholes table t = let end = wholes_end table t in subst (Grows table) end.1 (grows_front end.0 table)

pub grows_one : (u : Tree) (table : List Tree) → Grows table (u ∷ table)
grows_one u table = grows_front (u ∷ []) table

-- ---- trees in a list

-- what trees add to a table, one after the other
abbrev pub with_all : List Tree → List Tree → List Tree
with_all table [] = table
with_all table (t ∷ ts) = with_all (with_wholes table t) ts

abbrev pub trees_by : Pairs → List Tree
trees_by no_pairs = []
trees_by (more_pairs k t ps) = t ∷ trees_by ps

pub wholes_by_trees : (table : List Tree) (ps : Pairs) → with_wholes_by table ps ≡ with_all table (trees_by ps)
wholes_by_trees table no_pairs = refl
wholes_by_trees table (more_pairs k t ps) = wholes_by_trees (with_wholes table t) ps

pub wholes_in_trees : (table : List Tree) (ts : List Tree) → with_wholes_in table (trees_of ts) ≡ with_all table ts
wholes_in_trees table [] = refl
wholes_in_trees table (t ∷ ts) = wholes_in_trees (with_wholes table t) ts

-- ---- nodes that are loaded

abbrev pub AreNodesLegal : List Tree → List Node → Type 0
AreNodesLegal table [] = ⊤
AreNodesLegal table (n ∷ ns) = IsLegal (node_tree table n) × AreNodesLegal table ns

nodes_still : {table more : List Tree} → Grows table more → (ns : List Node) → AreNodesLegal table ns → map (node_tree more) ns ≡ map (node_tree table) ns
nodes_still g [] legal = refl
nodes_still g (n ∷ ns) legal = ap₂ (λ t ts. t ∷ ts) (g.nodes n legal.0) (nodes_still g ns legal.1)

pub one_legal : {table more : List Tree} → Grows table more → (ns : List Node) (n : Node) → AreNodesLegal table ns → IsLegal (node_tree more n) → AreNodesLegal more (ns ++ n ∷ [])
one_legal g [] n legal last = (last, tt)
one_legal g (m ∷ ns) n legal last = (subst IsLegal (sym (g.nodes m legal.0)) legal.0, one_legal g ns n legal.1 last)

-- the first of some trees are those of nodes, and the rest of them add to the table what all do
abbrev pub IsProgress : (first table : List Tree) → List Node → (ts rest : List Tree) → Type 0
IsProgress first table ns ts rest = (ts ≡ map (node_tree table) ns ++ rest) × (with_all first ts ≡ with_all table rest)

pub progress_on : (first table : List Tree) {more : List Tree} (ns : List Node) {ts : List Tree} (rest : List Tree) {t : Tree} (n : Node) → AreNodesLegal table ns → node_tree more n ≡ t → more ≡ with_wholes table t
    → IsProgress first table ns ts (t ∷ rest) → IsProgress first more (ns ++ n ∷ []) ts rest
progress_on first table {more = more} ns rest {t = t} n legal is grown p =
    let g = subst (Grows table) (sym grown) (grows_wholes table t) in (
      p.0 ∙ ap₂ (λ us u. us ++ u ∷ rest) (sym (nodes_still g ns legal)) (sym is) ∙ joined ns,
      p.1 ∙ ap (λ w. with_all w rest) (sym grown),
    )
  where
    joined : (ms : List Node) → map (node_tree more) ms ++ node_tree more n ∷ rest ≡ map (node_tree more) (ms ++ n ∷ []) ++ rest
    joined [] = refl
    joined (m ∷ ms) = ap (λ us. node_tree more m ∷ us) (joined ms)

pub progress_done : (first table : List Tree) (ns : List Node) {ts : List Tree} → IsProgress first table ns ts [] → (map (node_tree table) ns ≡ ts) × (table ≡ with_all first ts)
progress_done first table ns p = (sym (append-nil (map (node_tree table) ns)) ∙ sym p.0, sym p.1)

-- ---- pairs

abbrev pub Loaded : Type 0
Loaded = String Global × Node

abbrev pub nodes_of : List Loaded → List Node
nodes_of = map (λ (p : Loaded). p.1)

abbrev pub keys_of : List Loaded → List (List ℕ)
keys_of = map (λ (p : Loaded). string_bytes p.0)

pub pairs_from : (table : List Tree) (items : List Loaded) (ps : Pairs) → keys_of items ≡ pair_keys ps → map (node_tree table) (nodes_of items) ≡ trees_by ps → node_pairs table items ≡ ps
pairs_from table [] no_pairs e f = refl
pairs_from table [] (more_pairs k t ps) e f = absurd (cc)
pairs_from table (p ∷ items) no_pairs e f = absurd (cc)
pairs_from table (p ∷ items) (more_pairs k t ps) e f =
    let key : string_bytes p.0 ≡ k = cc in
    let keys : keys_of items ≡ pair_keys ps = cc in
    let node : node_tree table p.1 ≡ t = cc in
    let nodes : map (node_tree table) (nodes_of items) ≡ trees_by ps = cc in
    ap₂ (λ l u. more_pairs l u (node_pairs table items)) key node ∙ ap (more_pairs k t) (pairs_from table items ps keys nodes)

-- ---- wholes

-- a whole that has a number
pub whole_numbered : (table : List Tree) (n : ℕ) (u t : Tree) → numbered table n ≡ Some u → t ≡ tree.whole u → node_tree table (node.Whole n) ≡ t
whole_numbered table n u t at is = node_tree-whole table n ∙ ap whole_of at ∙ sym is

-- it adds nothing
pub whole_again : (table : List Tree) → IsTable table → (n : ℕ) (u t : Tree) → numbered table n ≡ Some u → t ≡ tree.whole u → table ≡ with_wholes table t
whole_again table known n u t at is = sym (ap (with_wholes table) is ∙ complete_adds table (listed_table table known) (tree.whole u) (has_numbered table n u at))
