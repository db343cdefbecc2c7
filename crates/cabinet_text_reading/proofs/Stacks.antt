-- The stack of the code as open containers.
use Rattle.std.proofs.Common.{◌≡◌, ◌≢◌, ℕ, zero, suc, ◌+◌, get_or, slice_set, List, [], ◌∷◌, ◌++◌, length, length-append, ◌<◌, subst, sym, ap, ◌∙◌, refl, arith, inl, inr, Vec, Global, String}
use Rattle.std.specs.Prelude.{string_bytes}
use Rattle.std.proofs.Math.Nat.{lt_irrefl}
use Rattle.std.proofs.lemmas.List.{set-get_or}
use Rattle.std.proofs.lemmas.Bool.Decides.{eqb_tells}
use Rattle.cabinet_text_grammar.specs.Due.{a_head, a_key, due_in}
use Rattle.cabinet_text_grammar.specs.Frame as frame
use Rattle.cabinet_text_grammar.specs.Frame.{keys_after, WantsNode}
use Rattle.cabinet_text_grammar.specs.Keys.{MapKind}
use Rattle.cabinet_text_grammar.specs.Tree as tree
use Rattle.cabinet_text_grammar.specs.Tree.{Tree, Trees, Pairs, no_pairs, more_pairs, ArePairs}
use Rattle.cabinet_text_grammar.proofs.Legal.{head_due}
use Rattle.cabinet_text_grammar.specs.Machine.{going, then_tree, then_pair, plug}
use Rattle.cabinet_text_nodes.specs.View.{node_tree, node_trees, node_pairs}
use Rattle.cabinet_text_nodes.specs.declared.node.Node.{Node}
use Rattle.cabinet_text_nodes.proofs.Views.{count-node_trees, pair_count-node_pairs}
use Rattle.cabinet_text_reading.specs.View.{kind_of, entries_of, key_due, frame_of, stack_onto, stack_of, inside_map}
use Rattle.cabinet_text_reading.specs.declared.stack.frame.Frame.{Frame}
use Rattle.cabinet_text_reading.specs.declared.stack.frame.OpenMap.{OpenMap}
use Rattle.cabinet_text_reading.specs.declared.stack.frame.Frame.TheVariants as code_frame

pub counted_items : {A : Type 0} (v : Vec A Global) → length v.items ≡ v.len
counted_items v = omega (arith, v.ok)

-- an element is put in its own place
pub unchanged : {A : Type 0} (xs : List A) (n : ℕ) (x y : A) → y ≡ x → y ≡ get_or xs n y → slice_set xs n x ≡ xs
unchanged xs n x y same there = ap (slice_set xs n) (sym same ∙ there) ∙ set-get_or xs n y

module _ (table : List Tree) where
  stack_onto-push : (outer : List frame.Frame) (fs : List Frame) (f : Frame) → stack_onto table outer (fs ++ f ∷ []) ≡ frame_of table f ∷ stack_onto table outer fs
  stack_onto-push outer [] f = refl
  stack_onto-push outer (g ∷ fs) f = stack_onto-push (frame_of table g ∷ outer) fs f

  pub stack_of-push : (fs : List Frame) (f : Frame) → stack_of table (fs ++ f ∷ []) ≡ frame_of table f ∷ stack_of table fs
  stack_of-push fs f = stack_onto-push [] fs f

  -- the stack before its last frame was taken
  pub opened : (all before : List Frame) (f g : Frame) → all ≡ before ++ f ∷ [] → f ≡ g → stack_of table all ≡ frame_of table g ∷ stack_of table before
  opened all before f g h is = ap (stack_of table) h ∙ stack_of-push before f ∙ ap (λ e. frame_of table e ∷ stack_of table before) is

  -- the innermost container, and that in its place, inside the same others
  changed_onto : (outer : List frame.Frame) (fs : List Frame) (n : ℕ) (f g : Frame) → length fs ≡ suc n → get_or fs n f ≡ f
      → (others : List frame.Frame) × (stack_onto table outer fs ≡ frame_of table f ∷ others) × (stack_onto table outer (slice_set fs n g) ≡ frame_of table g ∷ others)
  changed_onto outer [] n f g long is = absurd cc
  changed_onto outer (h ∷ []) zero f g long is = (outer, ap (λ x. frame_of table x ∷ outer) is, refl)
  changed_onto outer (h ∷ []) (suc n) f g long is = absurd cc
  changed_onto outer (h ∷ i ∷ fs) zero f g long is = absurd cc
  changed_onto outer (h ∷ i ∷ fs) (suc n) f g long is = changed_onto (frame_of table h ∷ outer) (i ∷ fs) n f g (omega (arith, long)) is

  pub changed : (fs : List Frame) (n : ℕ) (f g : Frame) → length fs ≡ suc n → get_or fs n f ≡ f
      → (others : List frame.Frame) × (stack_of table fs ≡ frame_of table f ∷ others) × (stack_of table (slice_set fs n g) ≡ frame_of table g ∷ others)
  changed fs n f g long is = changed_onto [] fs n f g long is

  length-stack_onto : (outer : List frame.Frame) (fs : List Frame) → length (stack_onto table outer fs) ≡ length outer + length fs
  length-stack_onto outer [] = omega arith
  length-stack_onto outer (f ∷ fs) = omega (arith, length-stack_onto (frame_of table f ∷ outer) fs)

  wants_onto : (outer : List frame.Frame) (fs : List Frame) → WantsNode outer → WantsNode (stack_onto table outer fs)
  wants_onto outer [] wants = wants
  wants_onto outer (code_frame.Maybe ∷ fs) wants = wants_onto (frame_of table code_frame.Maybe ∷ outer) fs tt
  wants_onto outer (code_frame.List n v ∷ fs) wants = wants_onto (frame_of table (code_frame.List n v) ∷ outer) fs tt
  wants_onto outer (code_frame.Value n ps ∷ fs) wants = wants_onto (frame_of table (code_frame.Value n ps) ∷ outer) fs tt

  -- inside the code's containers a head is expected
  pub head_told : (around : ℕ) (fs : List Frame) → due_in table around (stack_of table fs) ≡ a_head table (around + length fs)
  head_told around fs = head_due table around (stack_of table fs) (wants_onto [] fs tt) ∙ ap (a_head table) (omega (arith, length-stack_onto [] fs))

  pub node_trees-push : (ns : List Node) (n : Node) → node_trees table (ns ++ n ∷ []) ≡ then_tree (node_trees table ns) (node_tree table n)
  node_trees-push [] n = refl
  node_trees-push (m ∷ ns) n = ap (tree.more_trees (node_tree table m)) (node_trees-push ns n)

  pub node_pairs-push : (ps : List (String Global × Node)) (k : String Global) (n : Node) → node_pairs table (ps ++ (k, n) ∷ []) ≡ then_pair (node_pairs table ps) (string_bytes k) (node_tree table n)
  node_pairs-push [] k n = refl
  node_pairs-push (p ∷ ps) k n = ap (tree.more_pairs (string_bytes p.0) (node_tree table p.1)) (node_pairs-push ps k n)

  -- a container that is full by a node, and one that is not
  pub list_full : (ns all : List Node) (n : Node) (count : ℕ) (outer : List frame.Frame) → all ≡ ns ++ n ∷ [] → length all ≡ count → plug (tree.list (node_trees table all)) outer ≡ plug (node_tree table n) (frame.in_list count (node_trees table ns) ∷ outer)
  list_full ns all n count outer h full =
      let trees : node_trees table all ≡ then_tree (node_trees table ns) (node_tree table n) = ap (node_trees table) h ∙ node_trees-push ns n in
      let counted : tree.count (then_tree (node_trees table ns) (node_tree table n)) ≡ count = ap tree.count (sym trees) ∙ count-node_trees table all ∙ full in
      elim (eqb_tells (tree.count (then_tree (node_trees table ns) (node_tree table n))) count) [
        | inl is ↦ rw is.0 (ap (λ ts. plug (tree.list ts) outer) trees)
        | inr differs ↦ absurd (differs.1 counted)
      ]

  pub list_more : (ns all : List Node) (n : Node) (count : ℕ) (outer : List frame.Frame) → all ≡ ns ++ n ∷ [] → length all ≢ count → going (frame.in_list count (node_trees table all) ∷ outer) ≡ plug (node_tree table n) (frame.in_list count (node_trees table ns) ∷ outer)
  list_more ns all n count outer h short =
      let trees : node_trees table all ≡ then_tree (node_trees table ns) (node_tree table n) = ap (node_trees table) h ∙ node_trees-push ns n in
      let counted : tree.count (then_tree (node_trees table ns) (node_tree table n)) ≡ length all = ap tree.count (sym trees) ∙ count-node_trees table all in
      elim (eqb_tells (tree.count (then_tree (node_trees table ns) (node_tree table n))) count) [
        | inl is ↦ absurd (short (sym counted ∙ is.1))
        | inr differs ↦ rw differs.0 (ap (λ ts. going (frame.in_list count ts ∷ outer)) trees)
      ]

  pub pairs_full : (kind : MapKind) (ps all : List (String Global × Node)) (k : String Global) (n : Node) (count : ℕ) (outer : List frame.Frame) → all ≡ ps ++ (k, n) ∷ [] → length all ≡ count → plug (tree.map kind (node_pairs table all)) outer ≡ plug (node_tree table n) (frame.at_value kind count (node_pairs table ps) (string_bytes k) ∷ outer)
  pairs_full kind ps all k n count outer h full =
      let trees : node_pairs table all ≡ then_pair (node_pairs table ps) (string_bytes k) (node_tree table n) = ap (node_pairs table) h ∙ node_pairs-push ps k n in
      let counted : tree.pair_count (then_pair (node_pairs table ps) (string_bytes k) (node_tree table n)) ≡ count = ap tree.pair_count (sym trees) ∙ pair_count-node_pairs table all ∙ full in
      elim (eqb_tells (tree.pair_count (then_pair (node_pairs table ps) (string_bytes k) (node_tree table n))) count) [
        | inl is ↦ rw is.0 (ap (λ ts. plug (tree.map kind ts) outer) trees)
        | inr differs ↦ absurd (differs.1 counted)
      ]

  pub pairs_more : (kind : MapKind) (ps all : List (String Global × Node)) (k : String Global) (n : Node) (count : ℕ) (outer : List frame.Frame) → all ≡ ps ++ (k, n) ∷ [] → length all ≢ count → going (frame.at_key kind count (node_pairs table all) ∷ outer) ≡ plug (node_tree table n) (frame.at_value kind count (node_pairs table ps) (string_bytes k) ∷ outer)
  pairs_more kind ps all k n count outer h short =
      let trees : node_pairs table all ≡ then_pair (node_pairs table ps) (string_bytes k) (node_tree table n) = ap (node_pairs table) h ∙ node_pairs-push ps k n in
      let counted : tree.pair_count (then_pair (node_pairs table ps) (string_bytes k) (node_tree table n)) ≡ length all = ap tree.pair_count (sym trees) ∙ pair_count-node_pairs table all in
      elim (eqb_tells (tree.pair_count (then_pair (node_pairs table ps) (string_bytes k) (node_tree table n))) count) [
        | inl is ↦ absurd (short (sym counted ∙ is.1))
        | inr differs ↦ rw differs.0 (ap (λ ts. going (frame.at_key kind count ts ∷ outer)) trees)
      ]

  -- a list that expects more than one node expects more after one
  pub list_open : (ns all : List Node) (n : Node) (count : ℕ) (outer : List frame.Frame) → all ≡ ns ++ n ∷ [] → length ns + 1 < count → going (frame.in_list count (node_trees table all) ∷ outer) ≡ plug (node_tree table n) (frame.in_list count (node_trees table ns) ∷ outer)
  list_open ns all n count outer h more =
      let long = ap length h ∙ length-append ns (n ∷ []) in
      list_more ns all n count outer h (λ e. lt_irrefl count (subst (λ i. i < count) (sym long ∙ e) more))

-- no table changes the keys of a map
same_keys : (table : List Tree) (keys : List (List ℕ)) (es : List (String Global × Node)) → keys_after keys (node_pairs table es) ≡ keys_after keys (node_pairs [] es)
same_keys table keys [] = refl
same_keys table keys (e ∷ es) = same_keys table (string_bytes e.0 ∷ keys) es

-- inside a map that is open a key is expected
pub key_told : (table : List Tree) (around : ℕ) (m : OpenMap) (fs : List Frame) → due_in table around (inside_map table m fs) ≡ key_due m.pairs
key_told table around m fs = ap (a_key (kind_of m.pairs)) (same_keys table [] (entries_of m.pairs))
