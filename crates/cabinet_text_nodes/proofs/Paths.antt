-- The node that a path leads to in a node, by its first step.
use Rattle.std.proofs.Common.{◌≡◌, ℕ, zero, suc, ◌+◌, ◌<◌, length, get_or, drop, drop-cons, add-one, Bool, true, false, if◌then◌else◌, cond, List, [], ◌∷◌, sym, ap, ◌∙◌, refl, subst, arith, Option, Some, None, Bor, Global, String}
use Rattle.std.specs.Prelude.{string_bytes, slice_get}
use Rattle.std.specs.Option.{option_map, option_copied, option_and_then}
use Rattle.std.specs.Ordering.{nat_cmp, is_eq}
use Rattle.std.specs.Cmp.Lexicographic.{slice_cmp}
use Rattle.std.specs.List.{ItemBy}
use Rattle.std.specs.Map.{lookup}
use Rattle.std.specs.Str.{bytes_eq}
use Rattle.std.proofs.lemmas.Map.Text.{is_eq-slice_cmp}
use Rattle.std.proofs.lemmas.Option.{slice_get_past, slice_get-get_or}
use Rattle.std.proofs.lemmas.Slice.Eq.{bytes_eq-Decides}
use Rattle.cabinet_text_grammar.specs.Keys.{MapKind, kept}
use Rattle.cabinet_text_grammar.specs.Tree.{Tree, leaf, shared, nothing, just, list, map, whole, Trees, no_trees, more_trees, Pairs, no_pairs, more_pairs, IsLegal, AreLegal, ArePairs}
use Rattle.cabinet_text_grammar.proofs.Tables.{some_same}
use Rattle.cabinet_text_grammar.specs.Path.{Step, key, place, inside, node_at, node_in, node_by}
use Rattle.cabinet_text_nodes.specs.View.{node_tree, node_trees, node_pairs, step_of, path_of}
use Rattle.cabinet_text_nodes.specs.declared.line.Step as view
use Rattle.cabinet_text_nodes.specs.declared.node.Node.{Node}

pub no_items : {A : Type 0} (xs : List A) → length xs ≡ 0 → xs ≡ []
no_items [] h = refl
no_items (x ∷ xs) h = absurd (omega (arith, h))

-- where the rest of a path leads from where its first steps lead
abbrev pub then_at : Option Tree → List Step → Option Tree
then_at found path = option_and_then (λ t. node_at t path) found

pub first_in : (ts : Trees) (i : ℕ) (path : List Step) → node_in ts i path ≡ then_at (node_in ts i []) path
first_in no_trees i path = refl
first_in (more_trees t ts) zero path = refl
first_in (more_trees t ts) (suc i) path = first_in ts i path

then_if : (b : Bool) (t : Tree) (found : Option Tree) (path : List Step) → (if b then node_at t path else then_at found path) ≡ then_at (if b then Some t else found) path
then_if true t found path = refl
then_if false t found path = refl

pub first_by : (ps : Pairs) (k : List ℕ) (path : List Step) → node_by ps k path ≡ then_at (node_by ps k []) path
first_by no_pairs k path = refl
first_by (more_pairs l t ps) k path =
    ap (λ rest. if bytes_eq l k then node_at t path else rest) (first_by ps k path)
    ∙ then_if (bytes_eq l k) t (node_by ps k []) path

-- a path leads where its rest leads from where its first step leads
pub first_step : (t : Tree) (step : Step) (path : List Step) → node_at t (step ∷ path) ≡ then_at (node_at t (step ∷ [])) path
first_step (leaf l) step path = refl
first_step (shared u) step path = refl
first_step nothing step path = refl
first_step (just t) inside path = refl
first_step (just t) (key k) path = refl
first_step (just t) (place i) path = refl
first_step (list ts) (place i) path = first_in ts i path
first_step (list ts) (key k) path = refl
first_step (list ts) inside path = refl
first_step (map kind ps) (key k) path = first_by ps k path
first_step (map kind ps) (place i) path = refl
first_step (map kind ps) inside path = refl
first_step (whole t) inside path = refl
first_step (whole t) (key k) path = refl
first_step (whole t) (place i) path = refl

-- a node of a legal tree is legal
mutual
  pub legal_behind : (t : Tree) (step : Step) (u : Tree) → IsLegal t → node_at t (step ∷ []) ≡ Some u → IsLegal u
  legal_behind (leaf l) step u legal there = cc
  legal_behind (shared b) step u legal there = cc
  legal_behind nothing step u legal there = cc
  legal_behind (just t) inside u legal there = subst IsLegal (some_same t u there) legal
  legal_behind (just t) (key k) u legal there = cc
  legal_behind (just t) (place i) u legal there = cc
  legal_behind (list ts) (place i) u legal there = legal_in ts i u legal.0 there
  legal_behind (list ts) (key k) u legal there = cc
  legal_behind (list ts) inside u legal there = cc
  legal_behind (map kind ps) (key k) u legal there = legal_by kind [] ps k u legal.0 there
  legal_behind (map kind ps) (place i) u legal there = cc
  legal_behind (map kind ps) inside u legal there = cc
  legal_behind (whole t) inside u legal there = subst IsLegal (some_same t u there) legal
  legal_behind (whole t) (key k) u legal there = cc
  legal_behind (whole t) (place i) u legal there = cc

  pub legal_in : (ts : Trees) (i : ℕ) (u : Tree) → AreLegal ts → node_in ts i [] ≡ Some u → IsLegal u
  legal_in no_trees i u legal there = cc
  legal_in (more_trees t ts) zero u legal there = subst IsLegal (some_same t u there) legal.0
  legal_in (more_trees t ts) (suc i) u legal there = legal_in ts i u legal.1 there

  pub legal_by : (kind : MapKind) (keys : List (List ℕ)) (ps : Pairs) (k : List ℕ) (u : Tree) → ArePairs kind keys ps → node_by ps k [] ≡ Some u → IsLegal u
  legal_by kind keys no_pairs k u legal there = cc
  legal_by kind keys (more_pairs l t ps) k u legal there = at (bytes_eq l k) there (λ h. legal_by kind (l ∷ keys) ps k u legal.1.1 h)
    where
      at : (b : Bool) → (if b then Some t else node_by ps k []) ≡ Some u → (node_by ps k [] ≡ Some u → IsLegal u) → IsLegal u
      at true h rest = subst IsLegal (some_same t u h) legal.1.0
      at false h rest = rest h

-- whether a key is the query of a look-up
pub same_test : (k l : List ℕ) → is_eq (slice_cmp nat_cmp k l) ≡ bytes_eq l k
same_test k l = is_eq-slice_cmp k l ∙ flipped
  where
    flipped : bytes_eq k l ≡ bytes_eq l k
    flipped = grind (arith, bytes_eq-Decides k l, bytes_eq-Decides l k)

-- the test by which a key is looked up in a map of texts
abbrev pub is_key : List ℕ → String Global → Bool
is_key k l = is_eq (slice_cmp nat_cmp k (string_bytes l))

-- what is found at a place of a list
pub item_found : {R X : Type 0} (now : R → X) (xs : List X) (i : ℕ) (found : Option R) → ItemBy now xs i i found → option_map now found ≡ slice_get xs i
item_found now xs i None h = sym (slice_get_past xs i h.3)
item_found now xs i (Some x) h = ap Some h.1 ∙ sym (slice_get-get_or xs i (now x) h.3.0)

module _ (table : List Tree) where
  pub node_in-nodes : (ns : List Node) (i : ℕ) → node_in (node_trees table ns) i [] ≡ option_map (node_tree table) (slice_get ns i)
  node_in-nodes [] i = refl
  node_in-nodes (n ∷ ns) zero = refl
  node_in-nodes (n ∷ ns) (suc i) = node_in-nodes ns i

  if_mapped : (b c : Bool) (n : Node) (found : Option Node) → b ≡ c → (if c then Some (node_tree table n) else option_map (node_tree table) found) ≡ option_map (node_tree table) (cond b (Some n) found)
  if_mapped true true n found h = refl
  if_mapped false false n found h = refl
  if_mapped true false n found h = cc
  if_mapped false true n found h = cc

  pub node_by-entries : (ps : List (String Global × Node)) (k : List ℕ) → node_by (node_pairs table ps) k [] ≡ option_map (node_tree table) (lookup (is_key k) ps)
  node_by-entries [] k = refl
  node_by-entries (p ∷ ps) k =
      ap (λ rest. if bytes_eq (string_bytes p.0) k then Some (node_tree table p.1) else rest) (node_by-entries ps k)
      ∙ if_mapped (is_key k p.0) (bytes_eq (string_bytes p.0) k) p.1 (lookup (is_key k) ps) (same_test k (string_bytes p.0))

  pub map_behind : (found : Option (Bor Node)) → option_map (λ n. node_tree table n.now) found ≡ option_map (node_tree table) (option_copied found)
  map_behind None = refl
  map_behind (Some n) = refl

  -- the node at a place, and the node of a key
  pub element_at : {t : Tree} {step : Step} (ns : List Node) (i : ℕ) (found : Option (Bor Node)) → t ≡ list (node_trees table ns) → step ≡ place i → option_copied found ≡ slice_get ns i → option_map (λ n. node_tree table n.now) found ≡ node_at t (step ∷ [])
  element_at {t} {step} ns i found is_list is_place is_found =
      map_behind found ∙ ap (option_map (node_tree table)) is_found ∙ sym (node_in-nodes ns i)
      ∙ sym (ap (λ u. node_at u (place i ∷ [])) is_list) ∙ sym (ap (λ s. node_at t (s ∷ [])) is_place)

  pub value_at : {t : Tree} {step : Step} (kind : MapKind) (ps : List (String Global × Node)) (k : List ℕ) (found : Option (Bor Node)) → t ≡ map kind (node_pairs table ps) → step ≡ key k → option_copied found ≡ lookup (is_key k) ps → option_map (λ n. node_tree table n.now) found ≡ node_at t (step ∷ [])
  value_at {t} {step} kind ps k found is_map is_step is_found =
      map_behind found ∙ ap (option_map (node_tree table)) is_found ∙ sym (node_by-entries ps k)
      ∙ sym (ap (λ u. node_at u (key k ∷ [])) is_map) ∙ sym (ap (λ s. node_at t (s ∷ [])) is_step)

  pub kept_value_at : {t : Tree} {step : Step} (ps : List (String Global × Node)) (k : List ℕ) (found : Option (Bor Node)) → t ≡ map kept (node_pairs table ps) → step ≡ key k → option_map (λ n. node_tree table n.now) found ≡ node_by (node_pairs table ps) k [] → option_map (λ n. node_tree table n.now) found ≡ node_at t (step ∷ [])
  kept_value_at {t} {step} ps k found is_map is_step is_found =
      is_found ∙ sym (ap (λ u. node_at u (key k ∷ [])) is_map) ∙ sym (ap (λ s. node_at t (s ∷ [])) is_step)

-- the rest of a path from one of its steps on
pub rest_at : (t : Tree) (path : List view.Step) (i : ℕ) (step : view.Step) → i < length path → step ≡ get_or path i step → node_at t (path_of (drop i path)) ≡ then_at (node_at t (step_of step ∷ [])) (path_of (drop (i + 1) path))
rest_at t path i step within is =
    ap (λ steps. node_at t (path_of steps)) (drop-cons path i step within)
    ∙ ap (λ s. node_at t (step_of s ∷ path_of (drop (suc i) path))) (sym is)
    ∙ first_step t (step_of step) (path_of (drop (suc i) path))
    ∙ ap (λ j. then_at (node_at t (step_of step ∷ [])) (path_of (drop j path))) (sym (add-one i))

-- ---- the nodes in a legal one

module _ (table : List Tree) where
  pub legal_element : (ns : List Node) (i : ℕ) (n : Node) → AreLegal (node_trees table ns) → slice_get ns i ≡ Some n → IsLegal (node_tree table n)
  legal_element ns i n legal there = legal_in (node_trees table ns) i (node_tree table n) legal (node_in-nodes table ns i ∙ ap (option_map (node_tree table)) there)

  pub legal_value : (kind : MapKind) (ps : List (String Global × Node)) (k : List ℕ) (n : Node) → ArePairs kind [] (node_pairs table ps) → lookup (is_key k) ps ≡ Some n → IsLegal (node_tree table n)
  legal_value kind ps k n legal there = legal_by kind [] (node_pairs table ps) k (node_tree table n) legal (node_by-entries table ps k ∙ ap (option_map (node_tree table)) there)

  pub legal_pair : (kind : MapKind) (keys : List (List ℕ)) (ps : List (String Global × Node)) (i : ℕ) (p : String Global × Node) → ArePairs kind keys (node_pairs table ps) → slice_get ps i ≡ Some p → IsLegal (node_tree table p.1)
  legal_pair kind keys [] i p legal there = cc
  legal_pair kind keys (q ∷ ps) zero p legal there =
      let same : q ≡ p = cc in
      subst (λ x. IsLegal (node_tree table x.1)) same legal.1.0
  legal_pair kind keys (q ∷ ps) (suc i) p legal there = legal_pair kind (string_bytes q.0 ∷ keys) ps i p legal.1.1 there
