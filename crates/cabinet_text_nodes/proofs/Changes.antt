-- The result of setting a leaf in a node, by the first step of its path.
use Rattle.std.proofs.Common.{◌≡◌, ◌<◌, length, get_or, ℕ, zero, suc, Bool, true, false, if◌then◌else◌, cond, set, List, [], ◌∷◌, sym, ap, ◌∙◌, refl, arith, Option, Some, None, Global, String}
use Rattle.std.proofs.lemmas.Option.{slice_get-get_or}
use Rattle.std.specs.Prelude.{string_bytes, slice_get}
use Rattle.std.specs.Option.{option_map}
use Rattle.std.specs.List.{remove}
use Rattle.std.specs.Map.{lookup, set_value, remove_entry}
use Rattle.std.specs.Str.{bytes_eq}
use Rattle.cabinet_text_grammar.specs.Keys.{MapKind, kept}
use Rattle.cabinet_text_grammar.specs.Tree.{Leaf, Tree, just, list, map, whole, more_trees, Pairs, no_pairs, more_pairs}
use Rattle.cabinet_text_grammar.specs.Path.{Step, key, place, inside, node_at, node_in, node_by, enters, enters_in, enters_by}
use Rattle.cabinet_text_grammar.specs.Line as line
use Rattle.cabinet_text_grammar.specs.Answering.{answer, missing, refused, if_there, outcome_there, outcome_at, change, change_in, change_by}
use Rattle.cabinet_text_grammar.proofs.Changes.{only_done_changes}
use Rattle.cabinet_text_nodes.specs.Answers.{Sets, place_by}
use Rattle.cabinet_text_nodes.specs.View.{node_tree, node_trees, node_pairs}
use Rattle.cabinet_text_nodes.specs.declared.node.Node.{Node}
use Rattle.cabinet_text_nodes.specs.declared.answer.EditAnswer.{EditAnswer}
use Rattle.cabinet_text_nodes.specs.declared.answer.EditAnswer.TheVariants.{Missing, Refused}
use Rattle.cabinet_text_nodes.proofs.Paths.{then_at, first_in, first_by, node_in-nodes, node_by-entries, is_key, same_test}

-- the same of equal trees and paths
pub sets-moved : {s t u v : Tree} {p q : List Step} {l : Leaf} {r : EditAnswer} → t ≡ s → q ≡ p → v ≡ u → Sets s p l r u → Sets t q l r v
sets-moved {s} {t} {u} {v} {p} {q} {l} {r} same_tree same_path same_after h = record {
  answered = h.answered ∙ sym (ap (λ x. answer x (line.set q l)) same_tree ∙ ap (λ x. answer s (line.set x l)) same_path);
  left = same_after ∙ h.left ∙ sym (ap (λ x. change x q l) same_tree ∙ ap (λ x. change s x l) same_path);
}

-- where a path leads nowhere
pub sets_nothing : (t : Tree) (path : List Step) (l : Leaf) → node_at t path ≡ None → Sets t path l Missing t
sets_nothing t path l nowhere =
    let is_missing : if_there (node_at t path) (outcome_at t path l) ≡ missing = ap (λ found. if_there found (outcome_at t path l)) nowhere in
    record {
      answered = sym is_missing;
      left = sym (only_done_changes t path l (λ is_done. cc));
    }

module _ (table : List Tree) (path : List Step) (l : Leaf) where
  -- through an option
  pub sets_inside : {r : EditAnswer} {t u : Tree} → Sets t path l r u → Sets (just t) (inside ∷ path) l r (just u)
  sets_inside h = record { answered = h.answered; left = ap just h.left }

  element_left : (ns : List Node) (i : ℕ) (old new : Node) → slice_get ns i ≡ Some old → node_tree table new ≡ change (node_tree table old) path l → node_trees table (set ns i new) ≡ change_in (node_trees table ns) i path l
  element_left [] i old new there h = cc
  element_left (n ∷ ns) zero old new there h =
      let same : n ≡ old = cc in
      ap (λ t. more_trees t (node_trees table ns)) (h ∙ ap (λ m. change (node_tree table m) path l) (sym same))
  element_left (n ∷ ns) (suc i) old new there h = ap (more_trees (node_tree table n)) (element_left ns i old new there h)

  -- the same outcome where the same node is found, in a whole or not
  same_outcome : {found other : Option Tree} {is_inside is_within : Bool} → found ≡ other → is_inside ≡ is_within → if_there other (λ u. if is_within then refused else outcome_there l u) ≡ if_there found (λ u. if is_inside then refused else outcome_there l u)
  same_outcome {found} {other} {is_inside} {is_within} same within =
      ap (λ b. if_there other (λ u. if b then refused else outcome_there l u)) (sym within) ∙ ap (λ f. if_there f (λ u. if is_inside then refused else outcome_there l u)) (sym same)

  element_found : (ns : List Node) (i : ℕ) (old : Node) → slice_get ns i ≡ Some old → (node_in (node_trees table ns) i path ≡ node_at (node_tree table old) path) × (enters_in (node_trees table ns) i path ≡ enters (node_tree table old) path)
  element_found [] i old there = cc
  element_found (n ∷ ns) zero old there =
      let same : n ≡ old = cc in
      (ap (λ m. node_at (node_tree table m) path) same, ap (λ m. enters (node_tree table m) path) same)
  element_found (n ∷ ns) (suc i) old there = element_found ns i old there

  -- through a list
  pub sets_element : {r : EditAnswer} (ns : List Node) (i : ℕ) (old new : Node) → slice_get ns i ≡ Some old → Sets (node_tree table old) path l r (node_tree table new) → Sets (list (node_trees table ns)) (place i ∷ path) l r (list (node_trees table (set ns i new)))
  sets_element ns i old new there h =
      let found = element_found ns i old there in
      record { answered = h.answered ∙ same_outcome found.0 found.1; left = ap list (element_left ns i old new there h.left) }

  value_left : (ps : List (String Global × Node)) (k : List ℕ) (old new : Node) → lookup (is_key k) ps ≡ Some old → node_tree table new ≡ change (node_tree table old) path l → node_pairs table (set_value (is_key k) ps new) ≡ change_by (node_pairs table ps) k path l
  value_left [] k old new there h = cc
  value_left (p ∷ ps) k old new there h = by (is_key k p.0) (bytes_eq (string_bytes p.0) k) (same_test k (string_bytes p.0)) there (λ found. value_left ps k old new found h)
    where
      by :
          (a b : Bool) → a ≡ b
          → cond a (Some p.1) (lookup (is_key k) ps) ≡ Some old
          → (lookup (is_key k) ps ≡ Some old → node_pairs table (set_value (is_key k) ps new) ≡ change_by (node_pairs table ps) k path l)
          → node_pairs table (cond a ((p.0, new) ∷ ps) (p ∷ set_value (is_key k) ps new))
          ≡ (if b then more_pairs (string_bytes p.0) (change (node_tree table p.1) path l) (node_pairs table ps) else more_pairs (string_bytes p.0) (node_tree table p.1) (change_by (node_pairs table ps) k path l))
      by true true same found rest =
          let is_old : p.1 ≡ old = cc in
          ap (λ t. more_pairs (string_bytes p.0) t (node_pairs table ps)) (h ∙ ap (λ m. change (node_tree table m) path l) (sym is_old))
      by false false same found rest = ap (more_pairs (string_bytes p.0) (node_tree table p.1)) (rest found)
      by true false same found rest = cc
      by false true same found rest = cc

  value_found : (ps : List (String Global × Node)) (k : List ℕ) (old : Node) → lookup (is_key k) ps ≡ Some old → (node_by (node_pairs table ps) k path ≡ node_at (node_tree table old) path) × (enters_by (node_pairs table ps) k path ≡ enters (node_tree table old) path)
  value_found [] k old there = cc
  value_found (p ∷ ps) k old there = by (is_key k p.0) (bytes_eq (string_bytes p.0) k) (same_test k (string_bytes p.0)) there (λ found. value_found ps k old found)
    where
      by :
          (a b : Bool) → a ≡ b
          → cond a (Some p.1) (lookup (is_key k) ps) ≡ Some old
          → (lookup (is_key k) ps ≡ Some old → (node_by (node_pairs table ps) k path ≡ node_at (node_tree table old) path) × (enters_by (node_pairs table ps) k path ≡ enters (node_tree table old) path))
          → ((if b then node_at (node_tree table p.1) path else node_by (node_pairs table ps) k path) ≡ node_at (node_tree table old) path)
          × ((if b then enters (node_tree table p.1) path else enters_by (node_pairs table ps) k path) ≡ enters (node_tree table old) path)
      by true true same found rest =
          let is_old : p.1 ≡ old = cc in
          (ap (λ m. node_at (node_tree table m) path) is_old, ap (λ m. enters (node_tree table m) path) is_old)
      by false false same found rest = rest found
      by true false same found rest = cc
      by false true same found rest = cc

  -- through a map
  pub sets_value : {r : EditAnswer} (kind : MapKind) (ps : List (String Global × Node)) (k : List ℕ) (old new : Node) → lookup (is_key k) ps ≡ Some old → Sets (node_tree table old) path l r (node_tree table new) → Sets (map kind (node_pairs table ps)) (key k ∷ path) l r (map kind (node_pairs table (set_value (is_key k) ps new)))
  sets_value kind ps k old new there h =
      let found = value_found ps k old there in
      record { answered = h.answered ∙ same_outcome found.0 found.1; left = ap (map kind) (value_left ps k old new there h.left) }

  -- through a list or a map that has no such node
  pub sets_no_element : (ns : List Node) (i : ℕ) → slice_get ns i ≡ None → Sets (list (node_trees table ns)) (place i ∷ path) l Missing (list (node_trees table ns))
  sets_no_element ns i none = sets_nothing (list (node_trees table ns)) (place i ∷ path) l (first_in (node_trees table ns) i path ∙ ap (λ found. then_at found path) (node_in-nodes table ns i ∙ ap (option_map (node_tree table)) none))

  pub sets_no_value : (kind : MapKind) (ps : List (String Global × Node)) (k : List ℕ) → lookup (is_key k) ps ≡ None → Sets (map kind (node_pairs table ps)) (key k ∷ path) l Missing (map kind (node_pairs table ps))
  sets_no_value kind ps k none = sets_nothing (map kind (node_pairs table ps)) (key k ∷ path) l (first_by (node_pairs table ps) k path ∙ ap (λ found. then_at found path) (node_by-entries table ps k ∙ ap (option_map (node_tree table)) none))

-- a key that has a place, and one that has none
pub record Placed (ps : List (String Global × Node)) (k : List ℕ) (i : ℕ) (p : String Global × Node) : Type 0 where
  pub found : lookup (is_key k) ps ≡ Some p.1
  pub put : (new : Node) → set ps i (p.0, new) ≡ set_value (is_key k) ps new
  pub taken : remove ps i ≡ remove_entry (is_key k) ps

record IsAfter (found : Option ℕ) (i : ℕ) : Type 0 where
  pub before : ℕ
  pub found_is : found ≡ Some before
  pub next_is : i ≡ suc before

next_place : (found : Option ℕ) (i : ℕ) → option_map (λ j. suc j) found ≡ Some i → IsAfter found i
next_place None i h = cc
next_place (Some j) i h = record { before = j; found_is = refl; next_is = cc }

pub no_next : (found : Option ℕ) → option_map (λ j. suc j) found ≡ None → found ≡ None
no_next None h = refl
no_next (Some j) h = cc

pub placed : (table : List Tree) (ps : List (String Global × Node)) (k : List ℕ) (i : ℕ) (p : String Global × Node) → place_by (node_pairs table ps) k ≡ Some i → slice_get ps i ≡ Some p → Placed ps k i p
placed table [] k i p h there = cc
placed table (q ∷ ps) k i p h there =
    let r = by (is_key k q.0) (bytes_eq (string_bytes q.0) k) (same_test k (string_bytes q.0)) i h there (λ j at here. placed table ps k j p at here) in
    record { found = r.0; put = r.1.0; taken = r.1.1 }
  where
    by :
        (a b : Bool) → a ≡ b → (i : ℕ)
        → (if b then Some 0 else option_map (λ j. suc j) (place_by (node_pairs table ps) k)) ≡ Some i
        → slice_get (q ∷ ps) i ≡ Some p
        → ((j : ℕ) → place_by (node_pairs table ps) k ≡ Some j → slice_get ps j ≡ Some p → Placed ps k j p)
        → (cond a (Some q.1) (lookup (is_key k) ps) ≡ Some p.1)
        × (((new : Node) → set (q ∷ ps) i (p.0, new) ≡ cond a ((q.0, new) ∷ ps) (q ∷ set_value (is_key k) ps new)) × (remove (q ∷ ps) i ≡ cond a ps (q ∷ remove_entry (is_key k) ps)))
    by true true same zero at here rest =
        let is : q ≡ p = cc in
        (ap (λ x. Some x.1) is, (λ new. ap (λ x. (x.0, new) ∷ ps) (sym is), refl))
    by true true same (suc i) at here rest =
        let no : 0 ≡ suc i = cc in
        absurd (omega (arith, no))
    by false false same zero at here rest = absurd (omega (arith, (next_place (place_by (node_pairs table ps) k) 0 at).next_is))
    by false false same (suc i) at here rest =
        let after : IsAfter (place_by (node_pairs table ps) k) (suc i) = next_place (place_by (node_pairs table ps) k) (suc i) at in
        let is : after.before ≡ i = omega (arith, after.next_is) in
        let r : Placed ps k i p = rest i (after.found_is ∙ ap Some is) here in
        (r.found, (λ new. ap (λ x. q ∷ x) (r.put new), ap (λ x. q ∷ x) r.taken))
    by true false same i at here rest = cc
    by false true same i at here rest = cc

pub unplaced : (ps : Pairs) (k : List ℕ) (path : List Step) → place_by ps k ≡ None → node_by ps k path ≡ None
unplaced no_pairs k path h = refl
unplaced (more_pairs m t ps) k path h = by (bytes_eq m k) h (unplaced ps k path)
  where
    by : (b : Bool) → (if b then Some 0 else option_map (λ j. suc j) (place_by ps k)) ≡ None → (place_by ps k ≡ None → node_by ps k path ≡ None) → (if b then node_at t path else node_by ps k path) ≡ None
    by true g rest = cc
    by false g rest = rest (no_next (place_by ps k) g)

-- through a kept map, by the place of a key
pub sets_kept_value : (table : List Tree) (path : List Step) (l : Leaf) {r : EditAnswer} (ps : List (String Global × Node)) (k : List ℕ) (i : ℕ) (p : String Global × Node) (new : Node) → Some i ≡ place_by (node_pairs table ps) k → i < length ps → p ≡ get_or ps i p → Sets (node_tree table p.1) path l r (node_tree table new) → Sets (map kept (node_pairs table ps)) (key k ∷ path) l r (map kept (node_pairs table (set ps i (p.0, new))))
sets_kept_value table path l ps k i p new at within is h =
    let there : Placed ps k i p = placed table ps k i p (sym at) (slice_get-get_or ps i p within ∙ ap Some (sym is)) in
    sets-moved refl refl (ap (λ qs. map kept (node_pairs table qs)) (there.put new)) (sets_value table path l kept ps k p.1 new there.found h)

-- into a whole
pub sets_in_whole : (t u : Tree) (path : List Step) (l : Leaf) → node_at t path ≡ Some u → Sets (whole t) (inside ∷ path) l Refused (whole t)
sets_in_whole t u path l there = record { answered = sym (ap (λ found. if_there found (λ v. refused)) there); left = refl }

-- the place of a key is not changed by the table
pub place_same : (table other : List Tree) (ps : List (String Global × Node)) (k : List ℕ) → place_by (node_pairs table ps) k ≡ place_by (node_pairs other ps) k
place_same table other [] k = refl
place_same table other (p ∷ ps) k = ap (λ found. if bytes_eq (string_bytes p.0) k then Some 0 else option_map (λ i. suc i) found) (place_same table other ps k)
