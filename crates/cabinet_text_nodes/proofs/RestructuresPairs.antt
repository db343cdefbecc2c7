-- What edits that add, replace and remove nodes leave of the pairs of a map.
use Rattle.std.proofs.Common.{◌≡◌, ◌≢◌, ℕ, suc, Bool, true, false, if◌then◌else◌, cond, List, [], ◌∷◌, ◌++◌, Some, None, refl, sym, ap, ◌∙◌, subst, Global, String}
use Rattle.std.specs.Prelude.{string_bytes}
use Rattle.std.specs.BTreeMap.{insert_entry}
use Rattle.std.specs.Cmp.Lexicographic.{slice_cmp}
use Rattle.std.specs.Map.{lookup, set_value, remove_entry}
use Rattle.std.specs.Option.{option_map}
use Rattle.std.specs.declared.cmp.Ordering.{Ordering}
use Rattle.std.specs.declared.cmp.Ordering.TheVariants.{Less, Equal, Greater}
use Rattle.std.specs.Ordering.{nat_cmp, is_eq, is_lt, match_ordering, ordering_reverse}
use Rattle.std.specs.Str.{bytes_eq}
use Rattle.std.specs.String.{string_cmp}
use Rattle.std.proofs.lemmas.Cmp.{nat_list_cmp_total}
use Rattle.cabinet_text_grammar.specs.Keys.{MapKind, ordered, hashed, kept, MayFollow, IsBelow}
use Rattle.cabinet_text_grammar.specs.Tree.{Tree, Pairs, no_pairs, more_pairs, ArePairs}
use Rattle.cabinet_text_grammar.specs.Wholes.{wholes_of}
use Rattle.cabinet_text_nodes.specs.Answers.{place_by}
use Rattle.cabinet_text_nodes.specs.Restructures.{Becomes, if_fits}
use Rattle.cabinet_text_grammar.specs.Restructuring.{Edited, edited, missing, refused, within, without, in_place_of, comes_before, put_pair, remove_pair}
use Rattle.cabinet_text_nodes.specs.View.{node_tree, node_pairs}
use Rattle.cabinet_text_nodes.specs.declared.answer.EditAnswer.{EditAnswer}
use Rattle.cabinet_text_nodes.specs.declared.node.Node.{Node}
use Rattle.cabinet_text_nodes.proofs.Changes.{no_next}
use Rattle.cabinet_text_nodes.proofs.Paths.{is_key, same_test}
use Rattle.cabinet_text_nodes.proofs.Restructures.{becomes_within, within-without}

-- ---- where a node does not fit, it is refused under each key

refused_within : {A B : Type 0} (f : A → B) (e : Edited A) → if_fits false e ≡ refused → if_fits false (within f e) ≡ refused
refused_within f (edited x) h = refl
refused_within f refused h = refl
refused_within f missing h = cc

refused_in_place : {B : Type 0} (f : Tree → B) (ws : List Tree) (new : Tree) → if_fits false (within f (without ws new)) ≡ refused
refused_in_place f [] new = refl
refused_in_place f (w ∷ ws) new = refl

pub put_pair-refused : (kind : MapKind) (ps : Pairs) (k : List ℕ) (new : Tree) → if_fits false (put_pair kind ps k new) ≡ refused
put_pair-refused kind no_pairs k new = refl
put_pair-refused kind (more_pairs l t ps) k new = by (bytes_eq l k) (comes_before kind k l) (put_pair-refused kind ps k new)
  where
    by :
        (b before : Bool) → if_fits false (put_pair kind ps k new) ≡ refused
        → if_fits false (
        if b then within (λ u. more_pairs l u ps) (in_place_of t new)
        else if before then edited (more_pairs k new (more_pairs l t ps))
        else within (more_pairs l t) (put_pair kind ps k new))
        ≡ refused
    by true before rest = refused_in_place (λ u. more_pairs l u ps) (wholes_of t) new
    by false true rest = refl
    by false false rest = refused_within (more_pairs l t) (put_pair kind ps k new) rest

-- ---- the order of keys

ascends : (kind : MapKind) (keys : List (List ℕ)) (l k : List ℕ) → kind ≢ kept → MayFollow kind (l ∷ keys) k → IsBelow l k
ascends ordered keys l k not h = h
ascends hashed keys l k not h = h
ascends kept keys l k not h = absurd (not refl)

before_is : (kind : MapKind) (k l : List ℕ) → kind ≢ kept → comes_before kind k l ≡ is_lt (slice_cmp nat_cmp k l)
before_is ordered k l not = refl
before_is hashed k l not = refl
before_is kept k l not = absurd (not refl)

module _ (table : List Tree) where
  -- the keys that come after another one are above it
  below_found : (kind : MapKind) (keys : List (List ℕ)) (ps : List (String Global × Node)) (l k : List ℕ) (old : Node) → kind ≢ kept
      → ArePairs kind (l ∷ keys) (node_pairs table ps) → lookup (is_key k) ps ≡ Some old → IsBelow l k
  below_found kind keys [] l k old not legal there = cc
  below_found kind keys (p ∷ ps) l k old not legal there =
      by (slice_cmp nat_cmp k (string_bytes p.0)) refl there (λ found. below_found kind (l ∷ keys) ps (string_bytes p.0) k old not legal.1.1 found)
    where
      first : IsBelow l (string_bytes p.0)
      first = ascends kind keys l (string_bytes p.0) not legal.0.1

      by : (o : Ordering) → slice_cmp nat_cmp k (string_bytes p.0) ≡ o → cond (is_eq o) (Some p.1) (lookup (is_key k) ps) ≡ Some old
          → (lookup (is_key k) ps ≡ Some old → IsBelow (string_bytes p.0) k) → IsBelow l k
      by Equal e found rest =
          nat_list_cmp_total.antisymm l k ∙ ap ordering_reverse (nat_list_cmp_total.congr k (string_bytes p.0) l e)
          ∙ sym (nat_list_cmp_total.antisymm l (string_bytes p.0)) ∙ first
      by Less e found rest = nat_list_cmp_total.trans l (string_bytes p.0) k first (rest found)
      by Greater e found rest = nat_list_cmp_total.trans l (string_bytes p.0) k first (rest found)

  -- so a key that is there does not come before one of those that are before it
  not_before : (kind : MapKind) (keys : List (List ℕ)) (ps : List (String Global × Node)) (l k : List ℕ) (old : Node)
      → ArePairs kind (l ∷ keys) (node_pairs table ps) → lookup (is_key k) ps ≡ Some old → comes_before kind k l ≡ false
  not_before ordered keys ps l k old legal there = ap is_lt
      (nat_list_cmp_total.antisymm k l ∙ ap ordering_reverse (below_found ordered keys ps l k old (λ e. cc) legal there))
  not_before hashed keys ps l k old legal there = ap is_lt
      (nat_list_cmp_total.antisymm k l ∙ ap ordering_reverse (below_found hashed keys ps l k old (λ e. cc) legal there))
  not_before kept keys ps l k old legal there = refl

  -- ---- putting

  pub puts_value : (kind : MapKind) (keys : List (List ℕ)) (ps : List (String Global × Node)) (k : List ℕ) (old put new : Node) (fits : Bool)
      (r : EditAnswer) → ArePairs kind keys (node_pairs table ps) → lookup (is_key k) ps ≡ Some old
      → Becomes (if_fits fits (in_place_of (node_tree table old) (node_tree table put))) r (node_tree table old) (node_tree table new)
      → Becomes (if_fits fits (put_pair kind (node_pairs table ps) k (node_tree table put))) r (node_pairs table ps)
      (node_pairs table (set_value (is_key k) ps new))
  puts_value kind keys [] k old put new fits r legal there h = cc
  puts_value kind keys (p ∷ ps) k old put new fits r legal there h =
      by (is_key k p.0) (bytes_eq (string_bytes p.0) k) (same_test k (string_bytes p.0)) there
      (λ found. puts_value kind (string_bytes p.0 ∷ keys) ps k old put new fits r legal.1.1 found h)
      (λ found. not_before kind keys ps (string_bytes p.0) k old legal.1.1 found)
    where
      by :
          (a b : Bool) → a ≡ b
          → cond a (Some p.1) (lookup (is_key k) ps) ≡ Some old
          → (lookup (is_key k) ps ≡ Some old
          → Becomes (if_fits fits (put_pair kind (node_pairs table ps) k (node_tree table put))) r (node_pairs table ps)
          (node_pairs table (set_value (is_key k) ps new)))
          → (lookup (is_key k) ps ≡ Some old → comes_before kind k (string_bytes p.0) ≡ false)
          → Becomes (if_fits fits (
          if b then within (λ u. more_pairs (string_bytes p.0) u (node_pairs table ps)) (in_place_of (node_tree table p.1) (node_tree table put))
          else if comes_before kind k (string_bytes p.0) then edited
          (more_pairs k (node_tree table put) (more_pairs (string_bytes p.0) (node_tree table p.1) (node_pairs table ps)))
          else within (more_pairs (string_bytes p.0) (node_tree table p.1)) (put_pair kind (node_pairs table ps) k (node_tree table put))))
          r (more_pairs (string_bytes p.0) (node_tree table p.1) (node_pairs table ps))
          (node_pairs table (cond a ((p.0, new) ∷ ps) (p ∷ set_value (is_key k) ps new)))
      by true true same found after not =
          let is : p.1 ≡ old = cc in
          becomes_within (λ u. more_pairs (string_bytes p.0) u (node_pairs table ps)) (λ _. fits) (λ _. fits)
          (in_place_of (node_tree table p.1) (node_tree table put)) r _ _ (λ x. refl)
          (subst (λ m. Becomes (if_fits fits (in_place_of (node_tree table m) (node_tree table put))) r (node_tree table m) (node_tree table new))
          (sym is) h)
      by false false same found after not =
          rw (not found)
          (becomes_within (more_pairs (string_bytes p.0) (node_tree table p.1)) (λ _. fits) (λ _. fits)
          (put_pair kind (node_pairs table ps) k (node_tree table put)) r _ _ (λ x. refl) (after found))
      by true false same found after not = cc
      by false true same found after not = cc

  -- a new key, in its place among those that ascend
  pub put_pair-new : (kind : MapKind) (ps : List (String Global × Node)) (s : String Global) (put : Node) → kind ≢ kept
      → lookup (is_key (string_bytes s)) ps ≡ None
      → put_pair kind (node_pairs table ps) (string_bytes s) (node_tree table put) ≡ edited (node_pairs table (insert_entry string_cmp ps s put))
  put_pair-new kind [] s put not none = refl
  put_pair-new kind (p ∷ ps) s put not none =
      by (slice_cmp nat_cmp (string_bytes s) (string_bytes p.0)) (bytes_eq (string_bytes p.0) (string_bytes s))
      (comes_before kind (string_bytes s) (string_bytes p.0)) (same_test (string_bytes s) (string_bytes p.0))
      (before_is kind (string_bytes s) (string_bytes p.0) not) none
      (λ absent. put_pair-new kind ps s put not absent)
    where
      by :
          (o : Ordering) (b before : Bool) → is_eq o ≡ b → before ≡ is_lt o
          → cond (is_eq o) (Some p.1) (lookup (is_key (string_bytes s)) ps) ≡ None
          → (lookup (is_key (string_bytes s)) ps ≡ None → put_pair kind (node_pairs table ps) (string_bytes s) (node_tree table put)
          ≡ edited (node_pairs table (insert_entry string_cmp ps s put)))
          → (if b then within (λ u. more_pairs (string_bytes p.0) u (node_pairs table ps)) (in_place_of (node_tree table p.1) (node_tree table put))
          else if before then edited (more_pairs (string_bytes s) (node_tree table put)
          (more_pairs (string_bytes p.0) (node_tree table p.1) (node_pairs table ps)))
          else within (more_pairs (string_bytes p.0) (node_tree table p.1))
          (put_pair kind (node_pairs table ps) (string_bytes s) (node_tree table put)))
          ≡ edited (node_pairs table (match_ordering o ((s, put) ∷ p ∷ ps) ((p.0, put) ∷ ps) (p ∷ insert_entry string_cmp ps s put)))
      by Less false true same is absent rest = refl
      by Greater false false same is absent rest = ap (within (more_pairs (string_bytes p.0) (node_tree table p.1))) (rest absent)
      by Equal b before same is absent rest = cc
      by Less true before same is absent rest = cc
      by Less false false same is absent rest = cc
      by Greater true before same is absent rest = cc
      by Greater false true same is absent rest = cc

  -- and after all in a map that keeps the order of its keys
  pub put_pair-last : (ps : List (String Global × Node)) (s : String Global) (put : Node) → place_by (node_pairs table ps) (string_bytes s) ≡ None
      → put_pair kept (node_pairs table ps) (string_bytes s) (node_tree table put) ≡ edited (node_pairs table (ps ++ (s, put) ∷ []))
  put_pair-last [] s put none = refl
  put_pair-last (p ∷ ps) s put none = by (bytes_eq (string_bytes p.0) (string_bytes s)) none (λ absent. put_pair-last ps s put absent)
    where
      by :
          (b : Bool) → (if b then Some 0 else option_map (λ j. suc j) (place_by (node_pairs table ps) (string_bytes s))) ≡ None
          → (place_by (node_pairs table ps) (string_bytes s) ≡ None → put_pair kept (node_pairs table ps) (string_bytes s) (node_tree table put)
          ≡ edited (node_pairs table (ps ++ (s, put) ∷ [])))
          → (if b then within (λ u. more_pairs (string_bytes p.0) u (node_pairs table ps)) (in_place_of (node_tree table p.1) (node_tree table put))
          else within (more_pairs (string_bytes p.0) (node_tree table p.1))
          (put_pair kept (node_pairs table ps) (string_bytes s) (node_tree table put)))
          ≡ edited (node_pairs table (p ∷ ps ++ (s, put) ∷ []))
      by true absent rest = cc
      by false absent rest = ap (within (more_pairs (string_bytes p.0) (node_tree table p.1)))
          (rest (no_next (place_by (node_pairs table ps) (string_bytes s)) absent))

  -- ---- removing

  pub remove_pair-there : (ps : List (String Global × Node)) (k : List ℕ) (old : Node) → lookup (is_key k) ps ≡ Some old
      → remove_pair (node_pairs table ps) k ≡ without (wholes_of (node_tree table old)) (node_pairs table (remove_entry (is_key k) ps))
  remove_pair-there [] k old there = cc
  remove_pair-there (p ∷ ps) k old there = by (is_key k p.0) (bytes_eq (string_bytes p.0) k) (same_test k (string_bytes p.0)) there
      (λ found. remove_pair-there ps k old found)
    where
      by :
          (a b : Bool) → a ≡ b
          → cond a (Some p.1) (lookup (is_key k) ps) ≡ Some old
          → (lookup (is_key k) ps ≡ Some old → remove_pair (node_pairs table ps) k
          ≡ without (wholes_of (node_tree table old)) (node_pairs table (remove_entry (is_key k) ps)))
          → (if b then without (wholes_of (node_tree table p.1)) (node_pairs table ps) else within
          (more_pairs (string_bytes p.0) (node_tree table p.1)) (remove_pair (node_pairs table ps) k))
          ≡ without (wholes_of (node_tree table old)) (node_pairs table (cond a ps (p ∷ remove_entry (is_key k) ps)))
      by true true same found rest =
          let is : p.1 ≡ old = cc in
          ap (λ m. without (wholes_of (node_tree table m)) (node_pairs table ps)) is
      by false false same found rest =
          ap (within (more_pairs (string_bytes p.0) (node_tree table p.1))) (rest found)
          ∙ within-without (more_pairs (string_bytes p.0) (node_tree table p.1)) (wholes_of (node_tree table old))
          (node_pairs table (remove_entry (is_key k) ps))
      by true false same found rest = cc
      by false true same found rest = cc

  pub remove_pair-absent : (ps : List (String Global × Node)) (k : List ℕ) → lookup (is_key k) ps ≡ None
      → remove_pair (node_pairs table ps) k ≡ missing
  remove_pair-absent [] k none = refl
  remove_pair-absent (p ∷ ps) k none = by (is_key k p.0) (bytes_eq (string_bytes p.0) k) (same_test k (string_bytes p.0)) none
      (λ absent. remove_pair-absent ps k absent)
    where
      by :
          (a b : Bool) → a ≡ b → cond a (Some p.1) (lookup (is_key k) ps) ≡ None
          → (lookup (is_key k) ps ≡ None → remove_pair (node_pairs table ps) k ≡ missing)
          → (if b then without (wholes_of (node_tree table p.1)) (node_pairs table ps) else within
          (more_pairs (string_bytes p.0) (node_tree table p.1)) (remove_pair (node_pairs table ps) k)) ≡ missing
      by false false same absent rest = ap (within (more_pairs (string_bytes p.0) (node_tree table p.1))) (rest absent)
      by true b same absent rest = cc
      by false true same absent rest = cc

  -- a key without a place is not found
  pub not_found : (ps : List (String Global × Node)) (k : List ℕ) → place_by (node_pairs table ps) k ≡ None → lookup (is_key k) ps ≡ None
  not_found [] k none = refl
  not_found (p ∷ ps) k none = by (is_key k p.0) (bytes_eq (string_bytes p.0) k) (same_test k (string_bytes p.0)) none
      (λ absent. not_found ps k absent)
    where
      by :
          (a b : Bool) → a ≡ b → (if b then Some 0 else option_map (λ j. suc j) (place_by (node_pairs table ps) k)) ≡ None
          → (place_by (node_pairs table ps) k ≡ None → lookup (is_key k) ps ≡ None)
          → cond a (Some p.1) (lookup (is_key k) ps) ≡ None
      by false false same absent rest = rest (no_next (place_by (node_pairs table ps) k) absent)
      by a true same absent rest = cc
      by true false same absent rest = cc
