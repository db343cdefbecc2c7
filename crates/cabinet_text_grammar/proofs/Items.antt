-- One more item, and the items of what it leads to.
use Rattle.std.proofs.Common.{◌≡◌, ℕ, suc, List, [], ◌∷◌, ◌++◌, Option, Some, None, sym, ap, ◌∙◌, refl, append_assoc, append-nil, inl, inr}
use Rattle.std.proofs.lemmas.Bool.Decides.{eqb_tells}
use Rattle.cabinet_text_grammar.specs.Tree.{Tree, leaf, shared, nothing, just, list, map, whole, Trees, no_trees, more_trees, Pairs, no_pairs, more_pairs, count, pair_count}
use Rattle.cabinet_text_grammar.specs.Wholes.{numbered, IsTable}
use Rattle.cabinet_text_grammar.specs.Item.{Item, leaf_item, shared_item, none_item, some_item, list_item, map_item, key_item, whole_item, wholes_item, whole_head, items, items_of, items_of_pairs}
use Rattle.cabinet_text_grammar.specs.Frame.{Frame, in_option, in_list, at_key, at_value, items_of_stack}
use Rattle.cabinet_text_grammar.specs.Machine.{State, going, complete, stuck, then_tree, then_pair, plug, plug_whole, step, items_of_state}
use Rattle.cabinet_text_grammar.proofs.Tables.{number_back}

pub count-then : (ts : Trees) (t : Tree) → count (then_tree ts t) ≡ suc (count ts)
count-then no_trees t = refl
count-then (more_trees s ts) t = ap suc (count-then ts t)

pub pair_count-then : (ps : Pairs) (k : List ℕ) (t : Tree) → pair_count (then_pair ps k t) ≡ suc (pair_count ps)
pair_count-then no_pairs k t = refl
pair_count-then (more_pairs l s ps) k t = ap suc (pair_count-then ps k t)

-- the state is not stuck
abbrev pub IsUnstuck : State → Type 0
IsUnstuck (going fs) = Unit {0}
IsUnstuck (complete t) = Unit {0}
IsUnstuck stuck = ⊥

module _ (table : List Tree) where
  pub items-then : (ts : Trees) (t : Tree) → items_of table (then_tree ts t) ≡ items_of table ts ++ items table t
  items-then no_trees t = append-nil (items table t)
  items-then (more_trees s ts) t = ap (λ w. items table s ++ w) (items-then ts t) ∙ sym (append_assoc (items table s) (items_of table ts) (items table t))

  pub items-then_pair : (ps : Pairs) (k : List ℕ) (t : Tree) → items_of_pairs table (then_pair ps k t) ≡ items_of_pairs table ps ++ key_item k ∷ items table t
  items-then_pair no_pairs k t = ap (λ w. key_item k ∷ w) (append-nil (items table t))
  items-then_pair (more_pairs l s ps) k t =
      ap (λ w. key_item l ∷ (items table s ++ w)) (items-then_pair ps k t) ∙ ap (λ w. key_item l ∷ w) (sym (append_assoc (items table s) (items_of_pairs table ps) (key_item k ∷ items table t)))

  -- the items so far, and after them those of the node that is put in
  pub items-plug : (t : Tree) (fs : List Frame) → IsUnstuck (plug t fs) → items_of_state table (plug t fs) ≡ items_of_stack table fs ++ items table t
  items-plug t [] u = refl
  items-plug t (in_option ∷ outer) u = items-plug (just t) outer u ∙ sym (append_assoc (items_of_stack table outer) (some_item ∷ []) (items table t))
  items-plug t (in_list n ts ∷ outer) u =
      elim (eqb_tells (count (then_tree ts t)) n) [
        | inl is ↦
            let node = list (then_tree ts t) in
            let computed : plug t (in_list n ts ∷ outer) ≡ plug node outer = rw is.0 refl in
            let here = items-plug node outer (rw (← computed) u) in
            rw (computed, here, is.1, items-then ts t, append_assoc (items_of_stack table outer) (list_item n ∷ items_of table ts) (items table t)) refl
        | inr differs ↦ rw (differs.0, items-then ts t, append_assoc (items_of_stack table outer) (list_item n ∷ items_of table ts) (items table t)) refl
      ]
  items-plug t (at_key kind n ps ∷ outer) u = absurd u
  items-plug t (at_value kind n ps k ∷ outer) u =
      elim (eqb_tells (pair_count (then_pair ps k t)) n) [
        | inl is ↦
            let node = map kind (then_pair ps k t) in
            let computed : plug t (at_value kind n ps k ∷ outer) ≡ plug node outer = rw is.0 refl in
            let here = items-plug node outer (rw (← computed) u) in
            rw (computed, here, is.1, items-then_pair ps k t, append_assoc (items_of_stack table outer) (map_item kind n ∷ (items_of_pairs table ps ++ key_item k ∷ [])) (items table t), append_assoc (items_of_pairs table ps) (key_item k ∷ []) (items table t)) refl
        | inr differs ↦ rw (differs.0, items-then_pair ps k t, append_assoc (items_of_stack table outer) (map_item kind n ∷ (items_of_pairs table ps ++ key_item k ∷ [])) (items table t), append_assoc (items_of_pairs table ps) (key_item k ∷ []) (items table t)) refl
      ]

  -- the items so far, and the one more
  pub items-step : IsTable table → (fs : List Frame) (i : Item) → IsUnstuck (step table fs i) → items_of_state table (step table fs i) ≡ items_of_stack table fs ++ i ∷ []
  items-step is_table fs (leaf_item l) u = items-plug (leaf l) fs u
  items-step is_table fs (shared_item t) u = items-plug (shared t) fs u
  items-step is_table fs none_item u = items-plug nothing fs u
  items-step is_table fs some_item u = refl
  items-step is_table fs (list_item n) u =
      elim (eqb_tells 0 n) [
        | inl is ↦
            let computed : step table fs (list_item n) ≡ plug (list no_trees) fs = rw is.0 refl in
            rw (computed, items-plug (list no_trees) fs (rw (← computed) u), ← is.1) refl
        | inr differs ↦ rw differs.0 refl
      ]
  items-step is_table fs (map_item kind n) u =
      elim (eqb_tells 0 n) [
        | inl is ↦
            let computed : step table fs (map_item kind n) ≡ plug (map kind no_pairs) fs = rw is.0 refl in
            rw (computed, items-plug (map kind no_pairs) fs (rw (← computed) u), ← is.1) refl
        | inr differs ↦ rw differs.0 refl
      ]
  items-step is_table [] (key_item k) u = absurd u
  items-step is_table (in_option ∷ outer) (key_item k) u = absurd u
  items-step is_table (in_list n ts ∷ outer) (key_item k) u = absurd u
  items-step is_table (at_value kind n ps l ∷ outer) (key_item k) u = absurd u
  items-step is_table (at_key kind n ps ∷ outer) (key_item k) u = sym (append_assoc (items_of_stack table outer) (map_item kind n ∷ items_of_pairs table ps) (key_item k ∷ []))
  items-step is_table fs (whole_item n) u =
      at (numbered table n) refl u
    where
      at :
          (found : Option Tree)
          → numbered table n ≡ found
          → IsUnstuck (plug_whole fs found)
          → items_of_state table (plug_whole fs found) ≡ items_of_stack table fs ++ whole_item n ∷ []
      at None h v = absurd v
      at (Some t) h v = items-plug (whole t) fs v ∙ ap (λ m. items_of_stack table fs ++ whole_item m ∷ []) (number_back table n t is_table h)
  items-step is_table fs (wholes_item n) u = absurd u
  items-step is_table fs whole_head u = absurd u
