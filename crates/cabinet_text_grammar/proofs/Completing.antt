-- When a node completes the tree that is read, and the wholes of that tree.
use Rattle.std.proofs.Common.{◌≡◌, ℕ, ◌<◌, length, if◌then◌else◌, List, [], ◌∷◌, sym, ap, ◌∙◌, refl, inl, inr}
use Rattle.std.specs.Prelude.{◌^◌}
use Rattle.std.proofs.lemmas.Bool.Decides.{eqb_tells}
use Rattle.cabinet_text_grammar.specs.Tree.{Tree, leaf, shared, nothing, just, list, map, whole, Trees, no_trees, more_trees, Pairs, no_pairs, more_pairs, count, pair_count}
use Rattle.cabinet_text_grammar.specs.Wholes.{with_wholes, with_wholes_in, with_wholes_by, wholes_of}
use Rattle.cabinet_text_grammar.specs.Frame.{Frame, in_option, in_list, at_key, at_value}
use Rattle.cabinet_text_grammar.specs.Due.{AdmitsHead}
use Rattle.cabinet_text_grammar.specs.Machine.{step, plug_whole, going, complete, plug, then_tree, then_pair}
use Rattle.cabinet_text_grammar.specs.Tree.{IsLegal}
use Rattle.cabinet_text_grammar.specs.Wholes.{IsNumbered}
use Rattle.cabinet_text_grammar.specs.Machine.{run}
use Rattle.cabinet_text_grammar.specs.Item.{Item, leaf_item, shared_item, none_item, some_item, list_item, map_item, key_item, whole_item, wholes_item, whole_head, items}
use Rattle.cabinet_text_grammar.specs.Spelling.{lines_of, ended}
use Rattle.cabinet_text_grammar.proofs.Spelled.{AreItems-tree}
use Rattle.cabinet_text_grammar.proofs.Runs.{run_all}
use Rattle.cabinet_text_grammar.proofs.Faults.{one_text}
use Rattle.cabinet_text_grammar.specs.Completing.{AllLackOne, EndsAlone, with_stack}
use Rattle.cabinet_text_grammar.proofs.Items.{count-then, pair_count-then}

-- a node completes the tree where it fills each open container
pub fills_all : (t : Tree) (fs : List Frame) → AllLackOne fs → (u : Tree) × (plug t fs ≡ complete u)
fills_all t [] h = (t, refl)
fills_all t (in_option ∷ outer) h = fills_all (just t) outer h.1
fills_all t (in_list n ts ∷ outer) h =
    elim (eqb_tells (count (then_tree ts t)) n) [
      | inl is ↦
          let rest = fills_all (list (then_tree ts t)) outer h.1 in
          (rest.0, ap (λ b. if b then plug (list (then_tree ts t)) outer else going (in_list n (then_tree ts t) ∷ outer)) is.0 ∙ rest.1)
      | inr differs ↦ absurd (differs.1 (count-then ts t ∙ h.0))
    ]
fills_all t (at_key kind n ps ∷ outer) h = absurd h.0
fills_all t (at_value kind n ps k ∷ outer) h =
    elim (eqb_tells (pair_count (then_pair ps k t)) n) [
      | inl is ↦
          let rest = fills_all (map kind (then_pair ps k t)) outer h.1 in
          (rest.0, ap (λ b. if b then plug (map kind (then_pair ps k t)) outer else going (at_key kind n (then_pair ps k t) ∷ outer)) is.0 ∙ rest.1)
      | inr differs ↦ absurd (differs.1 (pair_count-then ps k t ∙ h.0))
    ]

-- and only there
pub filled_all : (t : Tree) (fs : List Frame) (u : Tree) → plug t fs ≡ complete u → AllLackOne fs
filled_all t [] u h = tt {0}
filled_all t (in_option ∷ outer) u h = (tt {0}, filled_all (just t) outer u h)
filled_all t (in_list n ts ∷ outer) u h =
    elim (eqb_tells (count (then_tree ts t)) n) [
      | inl is ↦ (
        sym (count-then ts t) ∙ is.1,
        filled_all (list (then_tree ts t)) outer u (sym (ap (λ b. if b then plug (list (then_tree ts t)) outer else going (in_list n (then_tree ts t) ∷ outer)) is.0) ∙ h),
      )
      | inr differs ↦
          let no = sym (ap (λ b. if b then plug (list (then_tree ts t)) outer else going (in_list n (then_tree ts t) ∷ outer)) differs.0) ∙ h in
          cc
    ]
filled_all t (at_key kind n ps ∷ outer) u h = cc
filled_all t (at_value kind n ps k ∷ outer) u h =
    elim (eqb_tells (pair_count (then_pair ps k t)) n) [
      | inl is ↦ (
        sym (pair_count-then ps k t) ∙ is.1,
        filled_all (map kind (then_pair ps k t)) outer u (sym (ap (λ b. if b then plug (map kind (then_pair ps k t)) outer else going (at_key kind n (then_pair ps k t) ∷ outer)) is.0) ∙ h),
      )
      | inr differs ↦
          let no = sym (ap (λ b. if b then plug (map kind (then_pair ps k t)) outer else going (at_key kind n (then_pair ps k t) ∷ outer)) differs.0) ∙ h in
          cc
    ]

-- ---- the wholes of a tree that is complete

pub wholes-then : (table : List Tree) (ts : Trees) (t : Tree) → with_wholes_in table (then_tree ts t) ≡ with_wholes (with_wholes_in table ts) t
wholes-then table no_trees t = refl
wholes-then table (more_trees s ts) t = wholes-then (with_wholes table s) ts t

pub wholes-then_pair : (table : List Tree) (ps : Pairs) (k : List ℕ) (t : Tree) → with_wholes_by table (then_pair ps k t) ≡ with_wholes (with_wholes_by table ps) t
wholes-then_pair table no_pairs k t = refl
wholes-then_pair table (more_pairs l s ps) k t = wholes-then_pair (with_wholes table s) ps k t

pub wholes-plug : (t : Tree) (fs : List Frame) (u : Tree) → plug t fs ≡ complete u → wholes_of u ≡ with_wholes (with_stack [] fs) t
wholes-plug t [] u h =
    let same : t ≡ u = cc in
    ap wholes_of (sym same)
wholes-plug t (in_option ∷ outer) u h = wholes-plug (just t) outer u h
wholes-plug t (in_list n ts ∷ outer) u h =
    elim (eqb_tells (count (then_tree ts t)) n) [
      | inl is ↦
          wholes-plug (list (then_tree ts t)) outer u (sym (ap (λ b. if b then plug (list (then_tree ts t)) outer else going (in_list n (then_tree ts t) ∷ outer)) is.0) ∙ h)
          ∙ wholes-then (with_stack [] outer) ts t
      | inr differs ↦
          let no = sym (ap (λ b. if b then plug (list (then_tree ts t)) outer else going (in_list n (then_tree ts t) ∷ outer)) differs.0) ∙ h in
          cc
    ]
wholes-plug t (at_key kind n ps ∷ outer) u h = cc
wholes-plug t (at_value kind n ps k ∷ outer) u h =
    elim (eqb_tells (pair_count (then_pair ps k t)) n) [
      | inl is ↦
          wholes-plug (map kind (then_pair ps k t)) outer u (sym (ap (λ b. if b then plug (map kind (then_pair ps k t)) outer else going (at_key kind n (then_pair ps k t) ∷ outer)) is.0) ∙ h)
          ∙ wholes-then_pair (with_stack [] outer) ps k t
      | inr differs ↦
          let no = sym (ap (λ b. if b then plug (map kind (then_pair ps k t)) outer else going (at_key kind n (then_pair ps k t) ∷ outer)) differs.0) ∙ h in
          cc
    ]

-- ---- the text of the tree of a whole

-- no tree's text is another's under one table
pub one_tree : (table : List Tree) (s t : Tree) → length table < 2 ^ 64 → IsLegal s → IsLegal t → IsNumbered table s → IsNumbered table t → ended (lines_of (items table s)) ≡ ended (lines_of (items table t)) → s ≡ t
one_tree table s t few legal_s legal_t known_s known_t h =
    let same = one_text (items table s) (items table t) (AreItems-tree table few s legal_s known_s) (AreItems-tree table few t legal_t known_t) h in
    let runs : complete s ≡ complete t = sym (run_all table s [] known_s) ∙ ap (run table (going [])) same ∙ run_all table t [] known_t in
    cc

-- ---- heads

-- a head completes the tree where it is the only line of its node and each open container lacks one
pub step_completes : (table : List Tree) (d : ℕ) (fs : List Frame) (i : Item) → AdmitsHead table d i → EndsAlone i → AllLackOne fs → (t : Tree) × (step table fs i ≡ complete t)
step_completes table d fs (leaf_item l) p alone all = fills_all (leaf l) fs all
step_completes table d fs (shared_item t) p alone all = fills_all (shared t) fs all
step_completes table d fs none_item p alone all = fills_all nothing fs all
step_completes table d fs some_item p alone all = absurd alone
step_completes table d fs (list_item n) p alone all = rw alone (fills_all (list no_trees) fs all)
step_completes table d fs (map_item kind n) p alone all = rw alone (fills_all (map kind no_pairs) fs all)
step_completes table d fs (key_item k) p alone all = absurd alone
step_completes table d fs (whole_item n) p alone all = rw p.1.1 (fills_all (whole p.1.0) fs all)
step_completes table d fs (wholes_item n) p alone all = absurd alone
step_completes table d fs whole_head p alone all = absurd alone

pub step_completed : (table : List Tree) (d : ℕ) (fs : List Frame) (i : Item) (t : Tree) → AdmitsHead table d i → step table fs i ≡ complete t → EndsAlone i × AllLackOne fs
step_completed table d fs (leaf_item l) t p h = (tt {0}, filled_all (leaf l) fs t h)
step_completed table d fs (shared_item u) t p h = (tt {0}, filled_all (shared u) fs t h)
step_completed table d fs none_item t p h = (tt {0}, filled_all nothing fs t h)
step_completed table d fs some_item t p h = cc
step_completed table d fs (list_item n) t p h =
    elim (eqb_tells 0 n) [
      | inl is ↦ (sym is.1, filled_all (list no_trees) fs t (sym (ap (λ b. if b then plug (list no_trees) fs else going (in_list n no_trees ∷ fs)) is.0) ∙ h))
      | inr differs ↦
          let no = sym (ap (λ b. if b then plug (list no_trees) fs else going (in_list n no_trees ∷ fs)) differs.0) ∙ h in
          cc
    ]
step_completed table d fs (map_item kind n) t p h =
    elim (eqb_tells 0 n) [
      | inl is ↦ (sym is.1, filled_all (map kind no_pairs) fs t (sym (ap (λ b. if b then plug (map kind no_pairs) fs else going (at_key kind n no_pairs ∷ fs)) is.0) ∙ h))
      | inr differs ↦
          let no = sym (ap (λ b. if b then plug (map kind no_pairs) fs else going (at_key kind n no_pairs ∷ fs)) differs.0) ∙ h in
          cc
    ]
step_completed table d fs (key_item k) t p h = absurd p
step_completed table d fs (whole_item n) t p h =
    let here : plug (whole p.1.0) fs ≡ complete t = sym (ap (plug_whole fs) p.1.1) ∙ h in
    (tt {0}, filled_all (whole p.1.0) fs t here)
step_completed table d fs (wholes_item n) t p h = absurd p
step_completed table d fs whole_head t p h = absurd p
