-- The states that the items of a tree, and of a stack of open containers, lead to.
use Rattle.std.proofs.Common.{◌≡◌, ℕ, ◌+◌, ◌<◌, ◌≤◌, true, false, List, [], ◌∷◌, ◌++◌, sym, ap, ◌∙◌, refl, arith, append_assoc, append-nil, inl, inr}
use Rattle.std.specs.Prelude.{◌==◌}
use Rattle.std.proofs.lemmas.Bool.Decides.{eqb_tells}
use Rattle.cabinet_text_grammar.specs.Keys.{MapKind}
use Rattle.cabinet_text_grammar.specs.Tree.{Tree, leaf, shared, nothing, just, list, map, whole, Trees, no_trees, more_trees, Pairs, no_pairs, more_pairs, count, pair_count}
use Rattle.cabinet_text_grammar.specs.Wholes.{IsNumbered, AreNumbered, ArePairsNumbered}
use Rattle.cabinet_text_grammar.specs.Item.{Item, some_item, list_item, map_item, key_item, items, items_of, items_of_pairs}
use Rattle.cabinet_text_grammar.specs.Frame.{Frame, in_option, in_list, at_key, at_value, items_of_stack, AreOpen}
use Rattle.cabinet_text_grammar.specs.Machine.{going, then_tree, then_pair, plug, plug_whole, settle, settle_pairs, run}
use Rattle.cabinet_text_grammar.proofs.Items.{count-then, pair_count-then}
use Rattle.cabinet_text_grammar.proofs.Tables.{numbered_back}

-- some elements after others
abbrev pub join : Trees → Trees → Trees
join ds no_trees = ds
join ds (more_trees t ts) = join (then_tree ds t) ts

abbrev pub join_pairs : Pairs → Pairs → Pairs
join_pairs ds no_pairs = ds
join_pairs ds (more_pairs k t ps) = join_pairs (then_pair ds k t) ps

join-more : (d : Tree) (ds ts : Trees) → join (more_trees d ds) ts ≡ more_trees d (join ds ts)
join-more d ds no_trees = refl
join-more d ds (more_trees t ts) = join-more d (then_tree ds t) ts

join-none : (ts : Trees) → join no_trees ts ≡ ts
join-none no_trees = refl
join-none (more_trees t ts) = join-more t no_trees ts ∙ ap (more_trees t) (join-none ts)

join_pairs-more : (k : List ℕ) (d : Tree) (ds ps : Pairs) → join_pairs (more_pairs k d ds) ps ≡ more_pairs k d (join_pairs ds ps)
join_pairs-more k d ds no_pairs = refl
join_pairs-more k d ds (more_pairs l t ps) = join_pairs-more k d (then_pair ds l t) ps

join_pairs-none : (ps : Pairs) → join_pairs no_pairs ps ≡ ps
join_pairs-none no_pairs = refl
join_pairs-none (more_pairs k t ps) = join_pairs-more k t no_pairs ps ∙ ap (more_pairs k t) (join_pairs-none ps)

not_all : (m n : ℕ) → m < n → (m == n) ≡ false
not_all m n fewer =
    elim (eqb_tells m n) [
      | inl is ↦ absurd (omega (arith, fewer, is.1))
      | inr differs ↦ differs.0
    ]

all : (n : ℕ) → (n == n) ≡ true
all n =
    elim (eqb_tells n n) [
      | inl is ↦ is.0
      | inr differs ↦ absurd (differs.1 refl)
    ]

pub settle-going : (n : ℕ) (ts : Trees) (fs : List Frame) → count ts < n → settle n ts fs ≡ going (in_list n ts ∷ fs)
settle-going n ts fs fewer = rw (not_all (count ts) n fewer) refl

pub settle_pairs-going : (kind : MapKind) (n : ℕ) (ps : Pairs) (fs : List Frame) → pair_count ps < n → settle_pairs kind n ps fs ≡ going (at_key kind n ps ∷ fs)
settle_pairs-going kind n ps fs fewer = rw (not_all (pair_count ps) n fewer) refl

settle-whole : (ts : Trees) (fs : List Frame) → settle (count ts) ts fs ≡ plug (list ts) fs
settle-whole ts fs = rw (all (count ts)) refl

settle_pairs-whole : (kind : MapKind) (ps : Pairs) (fs : List Frame) → settle_pairs kind (pair_count ps) ps fs ≡ plug (map kind ps) fs
settle_pairs-whole kind ps fs = rw (all (pair_count ps)) refl

module _ (table : List Tree) where
  mutual
    -- a tree's items put the tree in
    pub run-tree : (t : Tree) (fs : List Frame) (rest : List Item) → IsNumbered table t → run table (going fs) (items table t ++ rest) ≡ run table (plug t fs) rest
    run-tree (leaf l) fs rest is = refl
    run-tree (shared t) fs rest is = refl
    run-tree nothing fs rest is = refl
    run-tree (just t) fs rest is = run-tree t (in_option ∷ fs) rest is
    run-tree (whole t) fs rest is = ap (λ found. run table (plug_whole fs found) rest) (numbered_back table t is)
    run-tree (list ts) fs rest is =
        run-trees ts no_trees (count ts) fs rest (omega arith) is ∙ ap (λ ds. run table (settle (count ts) ds fs) rest) (join-none ts) ∙ ap (λ s. run table s rest) (settle-whole ts fs)
    run-tree (map kind ps) fs rest is =
        run-pairs ps no_pairs kind (pair_count ps) fs rest (omega arith) is
        ∙ ap (λ ds. run table (settle_pairs kind (pair_count ps) ds fs) rest) (join_pairs-none ps)
        ∙ ap (λ s. run table s rest) (settle_pairs-whole kind ps fs)

    pub run-trees : (ts ds : Trees) (n : ℕ) (fs : List Frame) (rest : List Item) → count ds + count ts ≤ n → AreNumbered table ts → run table (settle n ds fs) (items_of table ts ++ rest) ≡ run table (settle n (join ds ts) fs) rest
    run-trees no_trees ds n fs rest most are = refl
    run-trees (more_trees t ts) ds n fs rest most are =
        let more : count (then_tree ds t) + count ts ≤ n = omega (arith, most, count-then ds t) in
        ap (λ s. run table s ((items table t ++ items_of table ts) ++ rest)) (settle-going n ds fs (omega (arith, most)))
        ∙ ap (run table (going (in_list n ds ∷ fs))) (append_assoc (items table t) (items_of table ts) rest)
        ∙ run-tree t (in_list n ds ∷ fs) (items_of table ts ++ rest) are.0
        ∙ run-trees ts (then_tree ds t) n fs rest more are.1

    pub run-pairs : (ps ds : Pairs) (kind : MapKind) (n : ℕ) (fs : List Frame) (rest : List Item) → pair_count ds + pair_count ps ≤ n → ArePairsNumbered table ps → run table (settle_pairs kind n ds fs) (items_of_pairs table ps ++ rest) ≡ run table (settle_pairs kind n (join_pairs ds ps) fs) rest
    run-pairs no_pairs ds kind n fs rest most are = refl
    run-pairs (more_pairs k t ps) ds kind n fs rest most are =
        let more : pair_count (then_pair ds k t) + pair_count ps ≤ n = omega (arith, most, pair_count-then ds k t) in
        ap (λ s. run table s (key_item k ∷ ((items table t ++ items_of_pairs table ps) ++ rest))) (settle_pairs-going kind n ds fs (omega (arith, most)))
        ∙ ap (run table (going (at_value kind n ds k ∷ fs))) (append_assoc (items table t) (items_of_pairs table ps) rest)
        ∙ run-tree t (at_value kind n ds k ∷ fs) (items_of_pairs table ps ++ rest) are.0
        ∙ run-pairs ps (then_pair ds k t) kind n fs rest more are.1

  -- the items of open containers open them
  pub run-stack : (around : ℕ) (fs : List Frame) (rest : List Item) → AreOpen table around fs → run table (going []) (items_of_stack table fs ++ rest) ≡ run table (going fs) rest
  run-stack around [] rest are = refl
  run-stack around (in_option ∷ outer) rest are =
      ap (run table (going [])) (append_assoc (items_of_stack table outer) (some_item ∷ []) rest) ∙ run-stack around outer (some_item ∷ rest) are.2
  run-stack around (in_list n ts ∷ outer) rest are =
      ap (run table (going [])) (append_assoc (items_of_stack table outer) (list_item n ∷ items_of table ts) rest)
      ∙ run-stack around outer (list_item n ∷ (items_of table ts ++ rest)) are.2
      ∙ run-trees ts no_trees n outer rest (omega (arith, are.0.1)) are.0.4
      ∙ ap (λ ds. run table (settle n ds outer) rest) (join-none ts)
      ∙ ap (λ s. run table s rest) (settle-going n ts outer are.0.1)
  run-stack around (at_key kind n ps ∷ outer) rest are =
      ap (run table (going [])) (append_assoc (items_of_stack table outer) (map_item kind n ∷ items_of_pairs table ps) rest)
      ∙ run-stack around outer (map_item kind n ∷ (items_of_pairs table ps ++ rest)) are.2
      ∙ run-pairs ps no_pairs kind n outer rest (omega (arith, are.0.1)) are.0.4
      ∙ ap (λ ds. run table (settle_pairs kind n ds outer) rest) (join_pairs-none ps)
      ∙ ap (λ s. run table s rest) (settle_pairs-going kind n ps outer are.0.1)
  run-stack around (at_value kind n ps k ∷ outer) rest are =
      ap (run table (going [])) (append_assoc (items_of_stack table outer) (map_item kind n ∷ (items_of_pairs table ps ++ key_item k ∷ [])) rest)
      ∙ ap (λ w. run table (going []) (items_of_stack table outer ++ map_item kind n ∷ w)) (append_assoc (items_of_pairs table ps) (key_item k ∷ []) rest)
      ∙ run-stack around outer (map_item kind n ∷ (items_of_pairs table ps ++ key_item k ∷ rest)) are.2
      ∙ run-pairs ps no_pairs kind n outer (key_item k ∷ rest) (omega (arith, are.0.0.1)) are.0.0.4
      ∙ ap (λ ds. run table (settle_pairs kind n ds outer) (key_item k ∷ rest)) (join_pairs-none ps)
      ∙ ap (λ s. run table s (key_item k ∷ rest)) (settle_pairs-going kind n ps outer are.0.0.1)

  pub run_all : (t : Tree) (fs : List Frame) → IsNumbered table t → run table (going fs) (items table t) ≡ plug t fs
  run_all t fs is = ap (run table (going fs)) (sym (append-nil (items table t))) ∙ run-tree t fs [] is

  pub stack_run : (around : ℕ) (fs : List Frame) → AreOpen table around fs → run table (going []) (items_of_stack table fs) ≡ going fs
  stack_run around fs are = ap (run table (going [])) (sym (append-nil (items_of_stack table fs))) ∙ run-stack around fs [] are
