-- What edits at the last step of a path leave, by the first step.
use Rattle.std.proofs.Common.{◌≡◌, ℕ, zero, suc, ◌+◌, ◌-◌, ◌^◌, ◌≤◌, Bool, true, false, if◌then◌else◌, cond, List, [], ◌∷◌, set, Some, None, Result, refl, sym, ap, subst, arith, Global, String}
use Rattle.std.specs.Prelude.{max, min, nat_le, slice_get, string_bytes}
use Rattle.std.specs.Map.{lookup, set_value}
use Rattle.std.specs.Str.{bytes_eq}
use Rattle.std.specs.declared.alloc.AllocError.{AllocError}
use Rattle.cabinet_text_grammar.specs.Keys.{MapKind}
use Rattle.cabinet_text_grammar.specs.Path.{Step, key, place, inside}
use Rattle.cabinet_text_grammar.specs.Tree.{Tree, just, list, map, more_trees, more_pairs, depth, most_depth, pairs_depth}
use Rattle.cabinet_text_nodes.specs.Restructures.{BecomesOrStays, limited_by, limited}
use Rattle.cabinet_text_grammar.specs.Restructuring.{Edited, missing, within, at_last, at_last_in, at_last_by}
use Rattle.cabinet_text_nodes.specs.View.{node_tree, node_trees, node_pairs}
use Rattle.cabinet_text_nodes.specs.declared.answer.EditAnswer.{EditAnswer}
use Rattle.cabinet_text_nodes.specs.declared.node.Node.{Node}
use Rattle.cabinet_text_nodes.proofs.Paths.{is_key, same_test}
use Rattle.cabinet_text_nodes.proofs.Restructures.{stays_within}
use Rattle.cabinet_text_nodes.proofs.RestructuresDepths.{limited_alike, over_left, over_right}

-- the number of containers around what lies in one
pub one_more : (outer inner d : ℕ) → inner ≡ min (outer + 1) (2 ^ 64 - 1) → outer + suc d ≤ 64 → inner ≡ suc outer
one_more outer inner d is shallow = omega (arith, is, shallow)

-- the limit of what lies in a container
abbrev pub fits_inside : ℕ → Tree → Bool
fits_inside outer u = nat_le (outer + suc (depth u)) 64

limited_inside : (outer inner : ℕ) (e : Edited Tree) → inner ≡ suc outer → limited inner e ≡ limited_by (fits_inside outer) e
limited_inside outer inner e is =
    limited_alike (λ u. nat_le (inner + depth u) 64) (fits_inside outer) e (λ u.
    let sum : inner + depth u ≡ outer + suc (depth u) = omega (arith, is) in
    ap (λ d. nat_le d 64) sum)

module _ (table : List Tree) (edit : Tree → Step → Edited Tree) (outer inner : ℕ) (next : Step) (path : List Step) where
  -- through an option
  pub edits_inside : (r : Result EditAnswer AllocError) (old new : Tree) → inner ≡ suc outer
      → BecomesOrStays (limited inner (at_last edit old next path)) r old new
      → BecomesOrStays (limited outer (at_last edit (just old) inside (next ∷ path))) r (just old) (just new)
  edits_inside r old new is h =
      stays_within just (fits_inside outer) (λ u. nat_le (outer + depth u) 64) (at_last edit old next path) r old new (λ u. refl)
      (subst (λ e. BecomesOrStays e r old new) (limited_inside outer inner (at_last edit old next path) is) h)

  -- through a list
  elements_left : (ns : List Node) (i : ℕ) (r : Result EditAnswer AllocError) (old new : Node) → slice_get ns i ≡ Some old
      → outer + suc (most_depth (node_trees table ns)) ≤ 64
      → BecomesOrStays (limited_by (fits_inside outer) (at_last edit (node_tree table old) next path)) r (node_tree table old) (node_tree table new)
      → BecomesOrStays (limited_by (λ ts. nat_le (outer + suc (most_depth ts)) 64) (at_last_in edit (node_trees table ns) i next path)) r
      (node_trees table ns) (node_trees table (set ns i new))
  elements_left [] i r old new there shallow h = cc
  elements_left (n ∷ ns) zero r old new there shallow h =
      let same : n ≡ old = cc in
      stays_within (λ u. more_trees u (node_trees table ns)) (fits_inside outer) (λ ts. nat_le (outer + suc (most_depth ts)) 64)
      (at_last edit (node_tree table n) next path) r _ _
      (λ u. over_left outer (depth u) (most_depth (node_trees table ns)) (omega (arith, shallow)))
      (subst (λ m. BecomesOrStays (limited_by (fits_inside outer) (at_last edit (node_tree table m) next path)) r (node_tree table m)
      (node_tree table new)) (sym same) h)
  elements_left (n ∷ ns) (suc i) r old new there shallow h =
      stays_within (more_trees (node_tree table n)) (λ ts. nat_le (outer + suc (most_depth ts)) 64) (λ ts. nat_le (outer + suc (most_depth ts)) 64)
      (at_last_in edit (node_trees table ns) i next path) r _ _
      (λ ts. over_right outer (depth (node_tree table n)) (most_depth ts) (omega (arith, shallow)))
      (elements_left ns i r old new there (omega (arith, shallow)) h)

  pub edits_element : (ns : List Node) (i : ℕ) (r : Result EditAnswer AllocError) (old new : Node) → slice_get ns i ≡ Some old
      → outer + suc (most_depth (node_trees table ns)) ≤ 64 → inner ≡ suc outer
      → BecomesOrStays (limited inner (at_last edit (node_tree table old) next path)) r (node_tree table old) (node_tree table new)
      → BecomesOrStays (limited outer (at_last edit (list (node_trees table ns)) (place i) (next ∷ path))) r (list (node_trees table ns))
      (list (node_trees table (set ns i new)))
  edits_element ns i r old new there shallow is h =
      stays_within list (λ ts. nat_le (outer + suc (most_depth ts)) 64) (λ u. nat_le (outer + depth u) 64)
      (at_last_in edit (node_trees table ns) i next path) r _ _ (λ ts. refl)
      (elements_left ns i r old new there shallow
      (subst (λ e. BecomesOrStays e r (node_tree table old) (node_tree table new))
      (limited_inside outer inner (at_last edit (node_tree table old) next path) is) h))

  -- through a map
  pairs_left : (ps : List (String Global × Node)) (k : List ℕ) (r : Result EditAnswer AllocError) (old new : Node) → lookup (is_key k) ps ≡ Some old
      → outer + suc (pairs_depth (node_pairs table ps)) ≤ 64
      → BecomesOrStays (limited_by (fits_inside outer) (at_last edit (node_tree table old) next path)) r (node_tree table old) (node_tree table new)
      → BecomesOrStays (limited_by (λ qs. nat_le (outer + suc (pairs_depth qs)) 64) (at_last_by edit (node_pairs table ps) k next path)) r
      (node_pairs table ps) (node_pairs table (set_value (is_key k) ps new))
  pairs_left [] k r old new there shallow h = cc
  pairs_left (p ∷ ps) k r old new there shallow h =
      by (is_key k p.0) (bytes_eq (string_bytes p.0) k) (same_test k (string_bytes p.0)) there
      (λ found. pairs_left ps k r old new found (omega (arith, shallow)) h)
    where
      by :
          (a b : Bool) → a ≡ b
          → cond a (Some p.1) (lookup (is_key k) ps) ≡ Some old
          → (lookup (is_key k) ps ≡ Some old
          → BecomesOrStays (limited_by (λ qs. nat_le (outer + suc (pairs_depth qs)) 64) (at_last_by edit (node_pairs table ps) k next path)) r
          (node_pairs table ps) (node_pairs table (set_value (is_key k) ps new)))
          → BecomesOrStays (limited_by (λ qs. nat_le (outer + suc (pairs_depth qs)) 64) (
          if b then within (λ u. more_pairs (string_bytes p.0) u (node_pairs table ps)) (at_last edit (node_tree table p.1) next path)
          else within (more_pairs (string_bytes p.0) (node_tree table p.1)) (at_last_by edit (node_pairs table ps) k next path)))
          r (more_pairs (string_bytes p.0) (node_tree table p.1) (node_pairs table ps))
          (node_pairs table (cond a ((p.0, new) ∷ ps) (p ∷ set_value (is_key k) ps new)))
      by true true same found rest =
          let is : p.1 ≡ old = cc in
          stays_within (λ u. more_pairs (string_bytes p.0) u (node_pairs table ps)) (fits_inside outer)
          (λ qs. nat_le (outer + suc (pairs_depth qs)) 64) (at_last edit (node_tree table p.1) next path) r _ _
          (λ u. over_left outer (depth u) (pairs_depth (node_pairs table ps)) (omega (arith, shallow)))
          (subst (λ m. BecomesOrStays (limited_by (fits_inside outer) (at_last edit (node_tree table m) next path)) r (node_tree table m)
          (node_tree table new)) (sym is) h)
      by false false same found rest =
          stays_within (more_pairs (string_bytes p.0) (node_tree table p.1)) (λ qs. nat_le (outer + suc (pairs_depth qs)) 64)
          (λ qs. nat_le (outer + suc (pairs_depth qs)) 64) (at_last_by edit (node_pairs table ps) k next path) r _ _
          (λ qs. over_right outer (depth (node_tree table p.1)) (pairs_depth qs) (omega (arith, shallow)))
          (rest found)
      by true false same found rest = cc
      by false true same found rest = cc

  pub edits_value : (kind : MapKind) (ps : List (String Global × Node)) (k : List ℕ) (r : Result EditAnswer AllocError) (old new : Node)
      → lookup (is_key k) ps ≡ Some old → outer + suc (pairs_depth (node_pairs table ps)) ≤ 64 → inner ≡ suc outer
      → BecomesOrStays (limited inner (at_last edit (node_tree table old) next path)) r (node_tree table old) (node_tree table new)
      → BecomesOrStays (limited outer (at_last edit (map kind (node_pairs table ps)) (key k) (next ∷ path))) r (map kind (node_pairs table ps))
      (map kind (node_pairs table (set_value (is_key k) ps new)))
  edits_value kind ps k r old new there shallow is h =
      stays_within (map kind) (λ qs. nat_le (outer + suc (pairs_depth qs)) 64) (λ u. nat_le (outer + depth u) 64)
      (at_last_by edit (node_pairs table ps) k next path) r _ _ (λ qs. refl)
      (pairs_left ps k r old new there shallow
      (subst (λ e. BecomesOrStays e r (node_tree table old) (node_tree table new))
      (limited_inside outer inner (at_last edit (node_tree table old) next path) is) h))

  -- where there is no such element or key
  pub no_element : (ns : List Node) (i : ℕ) → slice_get ns i ≡ None → at_last_in edit (node_trees table ns) i next path ≡ missing
  no_element [] i none = refl
  no_element (n ∷ ns) zero none = cc
  no_element (n ∷ ns) (suc i) none = ap (within (more_trees (node_tree table n))) (no_element ns i none)

  pub no_value : (ps : List (String Global × Node)) (k : List ℕ) → lookup (is_key k) ps ≡ None
      → at_last_by edit (node_pairs table ps) k next path ≡ missing
  no_value [] k none = refl
  no_value (p ∷ ps) k none = by (is_key k p.0) (bytes_eq (string_bytes p.0) k) (same_test k (string_bytes p.0)) none (λ absent. no_value ps k absent)
    where
      by :
          (a b : Bool) → a ≡ b → cond a (Some p.1) (lookup (is_key k) ps) ≡ None
          → (lookup (is_key k) ps ≡ None → at_last_by edit (node_pairs table ps) k next path ≡ missing)
          → (if b then within (λ u. more_pairs (string_bytes p.0) u (node_pairs table ps)) (at_last edit (node_tree table p.1) next path)
          else within (more_pairs (string_bytes p.0) (node_tree table p.1)) (at_last_by edit (node_pairs table ps) k next path))
          ≡ missing
      by false false same absent rest = ap (within (more_pairs (string_bytes p.0) (node_tree table p.1))) (rest absent)
      by true b same absent rest = cc
      by false true same absent rest = cc

-- the depth of an element and of a value
module _ (table : List Tree) where
  pub depth_element : (ns : List Node) (i : ℕ) (n : Node) → slice_get ns i ≡ Some n → depth (node_tree table n) ≤ most_depth (node_trees table ns)
  depth_element [] i n there = cc
  depth_element (m ∷ ns) zero n there =
      let same : m ≡ n = cc in
      subst (λ x. depth (node_tree table x) ≤ max (depth (node_tree table m)) (most_depth (node_trees table ns))) same (omega arith)
  depth_element (m ∷ ns) (suc i) n there = omega (arith, depth_element ns i n there)

  pub depth_value : (ps : List (String Global × Node)) (k : List ℕ) (n : Node) → lookup (is_key k) ps ≡ Some n
      → depth (node_tree table n) ≤ pairs_depth (node_pairs table ps)
  depth_value [] k n there = cc
  depth_value (p ∷ ps) k n there = by (is_key k p.0) there (λ found. depth_value ps k n found)
    where
      by :
          (a : Bool) → cond a (Some p.1) (lookup (is_key k) ps) ≡ Some n
          → (lookup (is_key k) ps ≡ Some n → depth (node_tree table n) ≤ pairs_depth (node_pairs table ps))
          → depth (node_tree table n) ≤ max (depth (node_tree table p.1)) (pairs_depth (node_pairs table ps))
      by true found rest =
          let is : p.1 ≡ n = cc in
          subst (λ x. depth (node_tree table x) ≤ max (depth (node_tree table p.1)) (pairs_depth (node_pairs table ps))) is (omega arith)
      by false found rest = omega (arith, rest found)
