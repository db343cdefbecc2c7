-- A node without wholes has the same tree under each table.
use Rattle.std.proofs.Common.{◌≡◌, Bool, true, List, [], ◌∷◌, map, refl, sym, ap, ◌∙◌, subst, arith, Some, None, Global, String}
use Rattle.std.specs.Prelude.{IsTrue, string_bytes}
use Rattle.std.specs.List.{list_all}
use Rattle.std.proofs.lemmas.Bool.{and_parts, ltb-true}
use Rattle.cabinet_text_grammar.specs.Keys.{ordered, hashed, kept}
use Rattle.cabinet_text_grammar.specs.Tree as tree
use Rattle.cabinet_text_grammar.specs.Tree.{Tree}
use Rattle.cabinet_text_nodes.specs.View.{trees_of, pairs_of, view_step, node_tree, known_step, known_below}
use Rattle.cabinet_text_nodes.specs.declared.node.Node.{Node}
use Rattle.cabinet_text_nodes.specs.declared.node.Node.TheFolds.{map-Node, fold-roll-Node, ind-Node}
use Rattle.cabinet_text_nodes.specs.declared.node.Node.TheOpen.{Node-F}
use Rattle.cabinet_text_nodes.specs.declared.node.Node.TheViews.{roll-Node}

abbrev IsAlone : Node → Type 0
IsAlone n = (table : List Tree) → IsTrue (known_below 0 n) → node_tree table n ≡ node_tree [] n

-- a node of which this is known
abbrev Alone : Type 0
Alone = (n : Node) × IsAlone n

module _ (table : List Tree) where
  elements_alone : (es : List Alone) → list_all (λ (known : Bool). known) (map (known_below 0) (map (λ (e : Alone). e.0) es)) ≡ true
      → trees_of (map (node_tree table) (map (λ (e : Alone). e.0) es)) ≡ trees_of (map (node_tree []) (map (λ (e : Alone). e.0) es))
  elements_alone [] known = refl
  elements_alone (e ∷ es) known =
      let parts = and_parts _ _ known in
      ap (λ t. tree.more_trees t (trees_of (map (node_tree table) (map (λ (e : Alone). e.0) es)))) (e.1 table parts.0)
      ∙ ap (tree.more_trees (node_tree [] e.0)) (elements_alone es parts.1)

  pairs_alone : (es : List (String Global × Alone))
      → list_all (λ (p : String Global × Bool). p.1)
      (map (λ (p : String Global × Node). (p.0, known_below 0 p.1)) (map (λ (e : String Global × Alone). (e.0, e.1.0)) es)) ≡ true
      → pairs_of (map (λ (p : String Global × Node). (p.0, node_tree table p.1)) (map (λ (e : String Global × Alone). (e.0, e.1.0)) es))
      ≡ pairs_of (map (λ (p : String Global × Node). (p.0, node_tree [] p.1)) (map (λ (e : String Global × Alone). (e.0, e.1.0)) es))
  pairs_alone [] known = refl
  pairs_alone (e ∷ es) known =
      let parts = and_parts _ _ known in
      let k = string_bytes e.0 in
      ap (λ t. tree.more_pairs k t (pairs_of
      (map (λ (p : String Global × Node). (p.0, node_tree table p.1)) (map (λ (e : String Global × Alone). (e.0, e.1.0)) es))))
      (e.1.1 table parts.0) ∙ ap (tree.more_pairs k (node_tree [] e.1.0)) (pairs_alone es parts.1)

  layer_alone : (y : Node-F Alone) → known_step 0 (map-Node Node Bool (known_below 0) (map-Node Alone Node (λ e. e.0) y)) ≡ true
      → view_step table (map-Node Node Tree (node_tree table) (map-Node Alone Node (λ e. e.0) y))
      ≡ view_step [] (map-Node Node Tree (node_tree []) (map-Node Alone Node (λ e. e.0) y))
  layer_alone (Node-F.Bool b) known = refl
  layer_alone (Node-F.Int n) known = refl
  layer_alone (Node-F.Text t) known = refl
  layer_alone (Node-F.Shared t) known = refl
  layer_alone (Node-F.Maybe None) known = refl
  layer_alone (Node-F.Maybe (Some b)) known = ap tree.just (b.value.1 table known)
  layer_alone (Node-F.List v) known = ap tree.list (elements_alone v.items known)
  layer_alone (Node-F.Ordered m) known = ap (tree.map ordered) (pairs_alone m.entries known)
  layer_alone (Node-F.Hashed m) known = ap (tree.map hashed) (pairs_alone m.entries known)
  layer_alone (Node-F.Kept v) known = ap (tree.map kept) (pairs_alone v.items known)
  layer_alone (Node-F.Whole n) known = absurd (omega (arith, ltb-true n 0 known))

alone_layer : (x : Node-F Node) (y : Node-F Alone) → map-Node Alone Node (λ e. e.0) y ≡ x → IsAlone (roll-Node x)
alone_layer x y is table known =
    let here =
    subst
    (λ z. known_step 0 (map-Node Node Bool (known_below 0) z) ≡ true → view_step table (map-Node Node Tree (node_tree table) z)
    ≡ view_step [] (map-Node Node Tree (node_tree []) z))
    is (layer_alone table y) (sym (fold-roll-Node Bool (known_step 0) x) ∙ known) in
    fold-roll-Node Tree (view_step table) x ∙ here ∙ sym (fold-roll-Node Tree (view_step []) x)

pub new_alone : (table : List Tree) (n : Node) → IsTrue (known_below 0 n) → node_tree table n ≡ node_tree [] n
new_alone table n known = ind-Node IsAlone alone_layer n table known
