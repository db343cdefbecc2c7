-- The tree of a node, one level deep, and the counts of its elements and pairs.
use Rattle.std.proofs.Common.{◌≡◌, ℕ, ℤ, Bool, List, [], ◌∷◌, length, sym, ap, ◌∙◌, refl, arith, Vec, Global, String, Box, Option, Some, None}
use Rattle.std.specs.Prelude.{string_bytes}
use Rattle.std.specs.Rc.{rc_str_bytes}
use Rattle.std.specs.BTreeMap.{BTreeMap}
use Rattle.cabinet_text_grammar.specs.Keys.{MapKind, ordered, hashed, kept}
use Rattle.cabinet_text_grammar.specs.Tree as tree
use Rattle.cabinet_text_grammar.specs.Tree.{Tree}
use Rattle.cabinet_text_grammar.specs.Wholes.{numbered}
use Rattle.cabinet_text_grammar.specs.Item.{list_item, map_item, whole_head}
use Rattle.cabinet_text_grammar.specs.Answering.{head_of}
use Rattle.cabinet_text_nodes.specs.View.{view_step, whole_of, node_tree, node_trees, node_pairs}
use Rattle.cabinet_text_nodes.specs.declared.node.Node.{Node, fold-roll-Node}
use Rattle.cabinet_text_nodes.specs.declared.node.Node.TheVariants as node
use Rattle.cabinet_text_nodes.specs.declared.node.Node.TheOpen.{Node-F}

module _ (table : List Tree) where
  pub node_tree-bool : (b : Bool) → node_tree table (node.Bool b) ≡ tree.leaf (tree.truth b)
  node_tree-bool b = ap (node_tree table) (sym (node.rolls-Bool b)) ∙ fold-roll-Node Tree (view_step table) (Node-F.Bool b)

  pub node_tree-int : (n : ℤ) → node_tree table (node.Int n) ≡ tree.leaf (tree.number n)
  node_tree-int n = ap (node_tree table) (sym (node.rolls-Int n)) ∙ fold-roll-Node Tree (view_step table) (Node-F.Int n)

  pub node_tree-text : (t : String Global) → node_tree table (node.Text t) ≡ tree.leaf (tree.text (string_bytes t))
  node_tree-text t = ap (node_tree table) (sym (node.rolls-Text t)) ∙ fold-roll-Node Tree (view_step table) (Node-F.Text t)

  pub node_tree-shared : (t : _) → node_tree table (node.Shared t) ≡ tree.shared (rc_str_bytes t)
  node_tree-shared t = ap (node_tree table) (sym (node.rolls-Shared t)) ∙ fold-roll-Node Tree (view_step table) (Node-F.Shared t)

  pub node_tree-none : node_tree table (node.Maybe None) ≡ tree.nothing
  node_tree-none = ap (node_tree table) (sym (node.rolls-Maybe None)) ∙ fold-roll-Node Tree (view_step table) (Node-F.Maybe None)

  pub node_tree-some : (b : Box Node Global) → node_tree table (node.Maybe (Some b)) ≡ tree.just (node_tree table b.value)
  node_tree-some b = ap (node_tree table) (sym (node.rolls-Maybe (Some b))) ∙ fold-roll-Node Tree (view_step table) (Node-F.Maybe (Some b))

  pub node_tree-list : (v : Vec Node Global) → node_tree table (node.List v) ≡ tree.list (node_trees table v.items)
  node_tree-list v = ap (node_tree table) (sym (node.rolls-List v)) ∙ fold-roll-Node Tree (view_step table) (Node-F.List v)

  pub node_tree-ordered : (m : BTreeMap (String Global) Node) → node_tree table (node.Ordered m) ≡ tree.map ordered (node_pairs table m.entries)
  node_tree-ordered m = ap (node_tree table) (sym (node.rolls-Ordered m)) ∙ fold-roll-Node Tree (view_step table) (Node-F.Ordered m)

  pub node_tree-hashed : (m : BTreeMap (String Global) Node) → node_tree table (node.Hashed m) ≡ tree.map hashed (node_pairs table m.entries)
  node_tree-hashed m = ap (node_tree table) (sym (node.rolls-Hashed m)) ∙ fold-roll-Node Tree (view_step table) (Node-F.Hashed m)

  pub node_tree-kept : (v : Vec (String Global × Node) Global) → node_tree table (node.Kept v) ≡ tree.map kept (node_pairs table v.items)
  node_tree-kept v = ap (node_tree table) (sym (node.rolls-Kept v)) ∙ fold-roll-Node Tree (view_step table) (Node-F.Kept v)

  pub count-node_trees : (ns : List Node) → tree.count (node_trees table ns) ≡ length ns
  count-node_trees [] = refl
  count-node_trees (n ∷ ns) = omega (arith, count-node_trees ns)

  pub pair_count-node_pairs : (ps : List (String Global × Node)) → tree.pair_count (node_pairs table ps) ≡ length ps
  pair_count-node_pairs [] = refl
  pair_count-node_pairs (p ∷ ps) = omega (arith, pair_count-node_pairs ps)

  -- the heads of a list and of a map with n elements or pairs
  pub head-list : {t : Tree} (ns : List Node) (n : ℕ) → t ≡ tree.list (node_trees table ns) → n ≡ length ns → list_item n ≡ head_of t
  head-list ns n is counted = ap list_item (counted ∙ sym (count-node_trees ns)) ∙ sym (ap head_of is)

  pub head-map : {t : Tree} (kind : MapKind) (ps : List (String Global × Node)) (n : ℕ) → t ≡ tree.map kind (node_pairs table ps) → n ≡ length ps → map_item kind n ≡ head_of t
  head-map kind ps n is counted = ap (map_item kind) (counted ∙ sym (pair_count-node_pairs ps)) ∙ sym (ap head_of is)

  pub node_tree-whole : (n : ℕ) → node_tree table (node.Whole n) ≡ whole_of (numbered table n)
  node_tree-whole n = ap (node_tree table) (sym (node.rolls-Whole n)) ∙ fold-roll-Node Tree (view_step table) (Node-F.Whole n)

  -- the head of a whole has no number
  pub head-whole : {t : Tree} (n : ℕ) → t ≡ node_tree table (node.Whole n) → whole_head ≡ head_of t
  head-whole n is = sym (ap head_of (is ∙ node_tree-whole n) ∙ of (numbered table n))
    where
      of : (found : Option Tree) → head_of (whole_of found) ≡ whole_head
      of None = refl
      of (Some t) = refl
