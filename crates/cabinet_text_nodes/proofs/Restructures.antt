-- What edits that add, replace and remove nodes leave.
use Rattle.std.proofs.Common.{◌≡◌, ℕ, zero, suc, ◌≤◌, ◌<◌, ◌==◌, Bool, true, false, if◌then◌else◌, List, [], ◌∷◌, ◌++◌, length, set, Some, None, Result, Ok, Err, refl, sym, ap, ◌∙◌, subst, arith, append-nil}
use Rattle.std.specs.Prelude.{slice_get}
use Rattle.std.specs.List.{insert, remove}
use Rattle.std.specs.declared.alloc.AllocError.{AllocError}
use Rattle.std.specs.Bool.{Decides}
use Rattle.std.proofs.lemmas.Bool.{false≢true}
use Rattle.std.proofs.lemmas.Bool.Decides.{Decides-eqb}
use Rattle.cabinet_text_grammar.specs.Path.{Step}
use Rattle.cabinet_text_grammar.specs.Tree.{Tree, more_trees}
use Rattle.cabinet_text_grammar.specs.Wholes.{with_wholes, wholes_of}
use Rattle.cabinet_text_nodes.specs.Order.{IsEnd, IsWalk}
use Rattle.cabinet_text_nodes.specs.Restructures.{Becomes, BecomesOrStays, limited_by, if_fits}
use Rattle.cabinet_text_grammar.specs.Restructuring.{Edited, edited, missing, refused, within, without, in_place_of, put_element, insert_element, remove_element}
use Rattle.cabinet_text_nodes.specs.View.{node_tree, node_trees}
use Rattle.cabinet_text_nodes.specs.declared.answer.EditAnswer.{EditAnswer}
use Rattle.cabinet_text_nodes.specs.declared.answer.EditAnswer.TheVariants.{Done, Missing, Refused}
use Rattle.cabinet_text_nodes.specs.declared.node.Node.{Node}

no_length : {A : Type 0} (xs : List A) → length xs ≡ 0 → xs ≡ []
no_length [] e = refl
no_length (x ∷ xs) e = absurd (omega (arith, e))

-- a walk from nothing that ends at a number of wholes tells whether there are any
pub walk_tells : (table : List Tree) (t : Tree) (n : ℕ) → IsWalk table 0 (λ done. with_wholes done t) (Some n) → Decides (n == 0) (wholes_of t ≡ [])
walk_tells table t n walk =
    let ends = walk [] (table, append-nil table) refl in
    (λ e. no_length (wholes_of t) (ends.1 ∙ (Decides-eqb n 0).0 e), λ e. (Decides-eqb n 0).1 (sym ends.1 ∙ ap length e))

-- and one that completes another whole first, that there are some
pub walk_stops : (table : List Tree) (t : Tree) → IsWalk table 0 (λ done. with_wholes done t) None → Decides false (wholes_of t ≡ [])
walk_stops table t walk = (
  λ e. absurd (false≢true e),
  λ e. absurd
      (walk [] (table, append-nil table) refl table ([], refl) (subst (λ done. IsEnd done table) (sym e) (table, append-nil table))),
)

-- a node without wholes is replaced
pub replaced : (old new : Tree) → wholes_of old ≡ [] → Becomes (if_fits true (in_place_of old new)) Done old new
replaced old new none = subst (λ table. Becomes (if_fits true (without table new)) Done old new) (sym none) refl

-- ---- an edit of a part, as one of what the part lies in

pub becomes_within : {A B : Type 0} (f : A → B) (a : A → Bool) (b : B → Bool) (e : Edited A) (r : EditAnswer) (old new : A)
    → ((x : A) → b (f x) ≡ a x) → Becomes (limited_by a e) r old new → Becomes (limited_by b (within f e)) r (f old) (f new)
becomes_within {A} {B} f a b (edited x) r old new same h = by (b (f x)) (a x) (same x) r h
  where
    by : (c d : Bool) → c ≡ d → (r : EditAnswer) → Becomes (if d then edited x else refused) r old new
        → Becomes (if c then edited (f x) else refused) r (f old) (f new)
    by true true s Done h = ap f h
    by true true s Missing h = h
    by true true s Refused h = h
    by false false s Done h = h
    by false false s Missing h = h
    by false false s Refused h = ap f h
    by true false s r h = cc
    by false true s r h = cc
becomes_within f a b missing Done old new same h = h
becomes_within f a b missing Missing old new same h = ap f h
becomes_within f a b missing Refused old new same h = h
becomes_within f a b refused Done old new same h = h
becomes_within f a b refused Missing old new same h = h
becomes_within f a b refused Refused old new same h = ap f h

-- the same of an edit that may be without memory
pub stays_within : {A B : Type 0} (f : A → B) (a : A → Bool) (b : B → Bool) (e : Edited A) (r : Result EditAnswer AllocError) (old new : A)
    → ((x : A) → b (f x) ≡ a x) → BecomesOrStays (limited_by a e) r old new → BecomesOrStays (limited_by b (within f e)) r (f old) (f new)
stays_within f a b e (Ok r) old new same h = becomes_within f a b e r old new same h
stays_within f a b e (Err x) old new same h = ap f h

-- and of one without a limit
pub done_within : {A B : Type 0} (f : A → B) (e : Edited A) (r : EditAnswer) (old new : A) → Becomes e r old new
    → Becomes (within f e) r (f old) (f new)
done_within f (edited x) Done old new h = ap f h
done_within f (edited x) Missing old new h = h
done_within f (edited x) Refused old new h = h
done_within f missing Done old new h = h
done_within f missing Missing old new h = ap f h
done_within f missing Refused old new h = h
done_within f refused Done old new h = h
done_within f refused Missing old new h = h
done_within f refused Refused old new h = ap f h

-- of equal trees and steps
pub moved : (edit : Tree → Step → Edited Tree) (r : Result EditAnswer AllocError) {t u v w : Tree} {s p : Step} → t ≡ u → s ≡ p → v ≡ w
    → BecomesOrStays (edit u p) r u w → BecomesOrStays (edit t s) r t v
moved edit r same_tree same_step same_after h = rw (same_tree, same_step, same_after) h

-- what has no wholes is given up, and nothing else
pub given_up : {A : Type 0} (ws : List Tree) (x : A) → ws ≡ [] → without ws x ≡ edited x
given_up ws x none = ap (λ table. without table x) none

pub not_given_up : {A : Type 0} (ws : List Tree) (x : A) → (ws ≡ [] → ⊥) → without ws x ≡ refused
not_given_up [] x some = absurd (some refl)
not_given_up (w ∷ ws) x some = refl

pub within-without : {A B : Type 0} (f : A → B) (ws : List Tree) (x : A) → within f (without ws x) ≡ without ws (f x)
within-without f [] x = refl
within-without f (w ∷ ws) x = refl

-- ---- the elements of a list

module _ (table : List Tree) where
  pub puts_element : (ns : List Node) (i : ℕ) (old put new : Node) (fits : Bool) (r : EditAnswer) → slice_get ns i ≡ Some old
      → Becomes (if_fits fits (in_place_of (node_tree table old) (node_tree table put))) r (node_tree table old) (node_tree table new)
      → Becomes (if_fits fits (put_element (node_trees table ns) i (node_tree table put))) r (node_trees table ns) (node_trees table (set ns i new))
  puts_element [] i old put new fits r there h = cc
  puts_element (n ∷ ns) zero old put new fits r there h =
      let same : n ≡ old = cc in
      becomes_within (λ u. more_trees u (node_trees table ns)) (λ _. fits) (λ _. fits) (in_place_of (node_tree table n) (node_tree table put)) r _ _
      (λ x. refl)
      (subst (λ m. Becomes (if_fits fits (in_place_of (node_tree table m) (node_tree table put))) r (node_tree table m) (node_tree table new))
      (sym same) h)
  puts_element (n ∷ ns) (suc i) old put new fits r there h =
      becomes_within (more_trees (node_tree table n)) (λ _. fits) (λ _. fits) (put_element (node_trees table ns) i (node_tree table put)) r _ _
      (λ x. refl) (puts_element ns i old put new fits r there h)

  pub put_element-last : (ns : List Node) (i : ℕ) (put : Node) → i ≡ length ns
      → put_element (node_trees table ns) i (node_tree table put) ≡ edited (node_trees table (ns ++ put ∷ []))
  put_element-last [] zero put is = refl
  put_element-last [] (suc i) put is = absurd (omega (arith, is))
  put_element-last (n ∷ ns) zero put is = absurd (omega (arith, is))
  put_element-last (n ∷ ns) (suc i) put is = ap (within (more_trees (node_tree table n))) (put_element-last ns i put (omega (arith, is)))

  pub put_element-past : (ns : List Node) (i : ℕ) (put : Node) → length ns < i → put_element (node_trees table ns) i (node_tree table put) ≡ missing
  put_element-past [] zero put past = absurd (omega (arith, past))
  put_element-past [] (suc i) put past = refl
  put_element-past (n ∷ ns) zero put past = absurd (omega (arith, past))
  put_element-past (n ∷ ns) (suc i) put past = ap (within (more_trees (node_tree table n))) (put_element-past ns i put (omega (arith, past)))

  pub insert_element-before : (ns : List Node) (i : ℕ) (put : Node) → i ≤ length ns
      → insert_element (node_trees table ns) i (node_tree table put) ≡ edited (node_trees table (insert ns i put))
  insert_element-before ns zero put below = refl
  insert_element-before [] (suc i) put below = absurd (omega (arith, below))
  insert_element-before (n ∷ ns) (suc i) put below = ap (within (more_trees (node_tree table n)))
      (insert_element-before ns i put (omega (arith, below)))

  pub insert_element-past : (ns : List Node) (i : ℕ) (put : Node) → length ns < i
      → insert_element (node_trees table ns) i (node_tree table put) ≡ missing
  insert_element-past ns zero put past = absurd (omega (arith, past))
  insert_element-past [] (suc i) put past = refl
  insert_element-past (n ∷ ns) (suc i) put past = ap (within (more_trees (node_tree table n))) (insert_element-past ns i put (omega (arith, past)))

  pub remove_element-there : (ns : List Node) (i : ℕ) (old : Node) → slice_get ns i ≡ Some old
      → remove_element (node_trees table ns) i ≡ without (wholes_of (node_tree table old)) (node_trees table (remove ns i))
  remove_element-there [] i old there = cc
  remove_element-there (n ∷ ns) zero old there =
      let same : n ≡ old = cc in
      ap (λ m. without (wholes_of (node_tree table m)) (node_trees table ns)) same
  remove_element-there (n ∷ ns) (suc i) old there =
      ap (within (more_trees (node_tree table n))) (remove_element-there ns i old there)
      ∙ within-without (more_trees (node_tree table n)) (wholes_of (node_tree table old)) (node_trees table (remove ns i))

  pub remove_element-past : (ns : List Node) (i : ℕ) → slice_get ns i ≡ None → remove_element (node_trees table ns) i ≡ missing
  remove_element-past [] i past = refl
  remove_element-past (n ∷ ns) zero past = cc
  remove_element-past (n ∷ ns) (suc i) past = ap (within (more_trees (node_tree table n))) (remove_element-past ns i past)
