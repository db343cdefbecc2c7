-- The depth of a node, from the depths of the nodes in it.
use Rattle.std.proofs.Common.{◌≡◌, ℕ, suc, ◌+◌, ◌-◌, ◌<◌, ◌^◌, List, [], ◌∷◌, length, refl, sym, ap, ◌∙◌, subst, arith, inl, inr, Option, Some, None, Global, String, Vec, Box}
use Rattle.std.specs.Prelude.{max, min, slice_get}
use Rattle.std.specs.Ordering.{nat_cmp, ord_max}
use Rattle.std.proofs.lemmas.Bool.{cases_lt}
use Rattle.std.proofs.lemmas.Bool.Decides.{nat_tests}
use Rattle.std.proofs.lemmas.Option.{slice_get_past}
use Rattle.cabinet_text_grammar.specs.Tree.{Tree, depth, most_depth}
use Rattle.cabinet_text_grammar.specs.Wholes.{numbered}
use Rattle.cabinet_text_grammar.proofs.Tables.{is_numbered, not_numbered}
use Rattle.cabinet_text_nodes.specs.Depths.{NodeDepth, NodesDepth}
use Rattle.cabinet_text_nodes.specs.Faults.{AreDepths}
use Rattle.cabinet_text_nodes.specs.View.{node_tree, node_trees, whole_of}
use Rattle.cabinet_text_nodes.proofs.Faults.{values, values_depth}
use Rattle.cabinet_text_nodes.proofs.Views.{node_tree-none, node_tree-some, node_tree-list, node_tree-ordered, node_tree-hashed, node_tree-kept, node_tree-whole}
use Rattle.std.specs.BTreeMap.{BTreeMap}
use Rattle.std.specs.Option.{unwrap_or}
use Rattle.cabinet_text_nodes.specs.declared.node.Node.{Node}
use Rattle.cabinet_text_nodes.specs.declared.node.Node.TheVariants as node

-- ---- the depths of containers

module _ (table : List Tree) where
  pub depth-none : {n : Node} → n ≡ node.Maybe None → depth (node_tree table n) ≡ suc 0
  depth-none is = ap (λ n. depth (node_tree table n)) is ∙ ap depth (node_tree-none table)

  pub depth-some : {n : Node} (b : Box Node Global) → n ≡ node.Maybe (Some b) → depth (node_tree table n) ≡ suc (depth (node_tree table b.value))
  depth-some b is = ap (λ n. depth (node_tree table n)) is ∙ ap depth (node_tree-some table b)

  pub depth-list : {n : Node} (v : Vec Node Global) → n ≡ node.List v → depth (node_tree table n) ≡ suc (most_depth (node_trees table v.items))
  depth-list v is = ap (λ n. depth (node_tree table n)) is ∙ ap depth (node_tree-list table v)

  pub depth-ordered : {n : Node} (m : BTreeMap (String Global) Node) → n ≡ node.Ordered m → depth (node_tree table n) ≡ suc (most_depth (node_trees table (values m.entries)))
  depth-ordered m is = ap (λ n. depth (node_tree table n)) is ∙ ap depth (node_tree-ordered table m) ∙ ap (λ d. suc d) (sym (values_depth table m.entries))

  pub depth-hashed : {n : Node} (m : BTreeMap (String Global) Node) → n ≡ node.Hashed m → depth (node_tree table n) ≡ suc (most_depth (node_trees table (values m.entries)))
  depth-hashed m is = ap (λ n. depth (node_tree table n)) is ∙ ap depth (node_tree-hashed table m) ∙ ap (λ d. suc d) (sym (values_depth table m.entries))

  pub depth-kept : {n : Node} (v : Vec (String Global × Node) Global) → n ≡ node.Kept v → depth (node_tree table n) ≡ suc (most_depth (node_trees table (values v.items)))
  depth-kept v is = ap (λ n. depth (node_tree table n)) is ∙ ap depth (node_tree-kept table v) ∙ ap (λ d. suc d) (sym (values_depth table v.items))

-- what lies in a whole, and 0 where there is none
pub depth_inside : Option Tree → ℕ
depth_inside None = 0
depth_inside (Some t) = depth t

depth-whole_of : (found : Option Tree) → depth (whole_of found) ≡ suc (depth_inside found)
unfolding depth_inside
depth-whole_of None = refl
depth-whole_of (Some t) = refl

pub depth-whole : (table : List Tree) {n : Node} (m : ℕ) → n ≡ node.Whole m → depth (node_tree table n) ≡ suc (depth_inside (numbered table m))
depth-whole table m is = ap (λ n. depth (node_tree table n)) is ∙ ap depth (node_tree-whole table m) ∙ depth-whole_of (numbered table m)

-- the depth that is found by a number
pub depth_found : (table : List Tree) (depths : List ℕ) (m : ℕ) → AreDepths table depths → unwrap_or (slice_get depths m) 0 ≡ depth_inside (numbered table m)
unfolding depth_inside
depth_found table depths m d =
    elim (cases_lt m (length table)) [
      | inr above ↦ rw (not_numbered table m above, slice_get_past depths m (omega (arith, above, d.as_many))) refl
      | inl below ↦
          let found = is_numbered table m below in
          rw (found.1, d.each m found.0 found.1) refl
    ]

-- ---- the code

larger : (m n : ℕ) → ord_max nat_cmp m n ≡ max m n
larger m n = grind (arith, nat_tests)

module _ (depths : List ℕ) where
  -- the largest depth of some nodes and of the rest is that of all
  abbrev pub IsDepthBefore : List Node → List Node → ℕ → Type 0
  IsDepthBefore all rest most = (table : List Tree) → AreDepths table depths → most_depth (node_trees table all) < 2 ^ 64 - 1 → max most (most_depth (node_trees table rest)) ≡ most_depth (node_trees table all)

  pub depth_before_more : (all : List Node) (n : Node) (rest before : List Node) (most now next : ℕ) → before ≡ n ∷ rest → IsDepthBefore all before most → NodeDepth depths n now → next ≡ ord_max nat_cmp most now → IsDepthBefore all rest next
  depth_before_more all n rest before most now next split told here is table d small =
      let all_told : max most (most_depth (node_trees table (n ∷ rest))) ≡ most_depth (node_trees table all) = subst (λ ns. max most (most_depth (node_trees table ns)) ≡ most_depth (node_trees table all)) split (told table d small) in
      let now_is = here table d (omega (arith, all_told, small)) in
      omega (arith, all_told, now_is, is ∙ larger most now)

  pub depth_before_none : (all before : List Node) (most : ℕ) → before ≡ [] → IsDepthBefore all before most → NodesDepth depths all most
  depth_before_none all before most is told table d small =
      let all_told : max most 0 ≡ most_depth (node_trees table all) = subst (λ ns. max most (most_depth (node_trees table ns)) ≡ most_depth (node_trees table all)) is (told table d small) in
      omega (arith, all_told)

  -- a container is one deeper than what lies in it
  pub container_depth : (n : Node) (inside r : ℕ) (within : List Tree → ℕ) → ((table : List Tree) → depth (node_tree table n) ≡ suc (within table)) → ((table : List Tree) → AreDepths table depths → within table < 2 ^ 64 - 1 → inside ≡ within table) → r ≡ min (inside + 1) (2 ^ 64 - 1)
      → NodeDepth depths n r
  container_depth n inside r within one_more told is table d small =
      let inside_is = told table d (omega (arith, one_more table, small)) in
      omega (arith, one_more table, small, inside_is, is)
