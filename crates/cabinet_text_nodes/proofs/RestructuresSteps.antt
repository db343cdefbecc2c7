-- The steps of a path at which a node is put are those of lines.
use Rattle.std.proofs.Common.{ℕ, zero, suc, ◌<◌, ◌≤◌, List, [], ◌∷◌, All, arith}
use Rattle.std.specs.Prelude.{⊤, IsUtf8}
use Rattle.std.specs.Str.{bytes_eq}
use Rattle.std.proofs.lemmas.List.Elements.{All-nil, All-cons, All-head, All-tail}
use Rattle.std.proofs.lemmas.Str.{IsUtf8-string_bytes}
use Rattle.cabinet_text_grammar.specs.Line.{IsStep}
use Rattle.cabinet_text_grammar.specs.Path.{Step, key, place, inside}
use Rattle.cabinet_text_grammar.specs.Tree.{Tree, just, list, map, whole, Trees, no_trees, more_trees, Pairs, no_pairs, more_pairs, count, IsLegal, AreLegal, ArePairs}
use Rattle.cabinet_text_grammar.specs.Keys.{MapKind}
use Rattle.cabinet_text_grammar.specs.Wholes.{wholes_of}
use Rattle.cabinet_text_grammar.specs.Restructuring.{Edited, edited, missing, refused, in_place_of, put_element, put_step, at_last, at_last_in, at_last_by}
use Rattle.cabinet_text_grammar.proofs.Restructured.{IfEdited, if_within, if_without, if_either}
use Rattle.cabinet_text_nodes.specs.View.{step_of, path_of}
use Rattle.cabinet_text_nodes.specs.declared.line.Step as code
use Rattle.cabinet_text_nodes.specs.declared.line.Step.TheVariants as code_step

-- a key is UTF-8
abbrev pub IsText : Step → Type 0
IsText (key k) = IsUtf8 k
IsText _ = ⊤

text_step : (step : code.Step) → IsText (step_of step)
text_step (code_step.Key k) = IsUtf8-string_bytes k
text_step (code_step.Place n) = tt
text_step code_step.Inside = tt

pub are_texts : (path : List code.Step) → All IsText (path_of path)
are_texts [] = All-nil IsText
are_texts (step ∷ path) = All-cons IsText (step_of step) (path_of path) (text_step step) (are_texts path)

always : {A P : Type 0} (e : Edited A) → P → IfEdited (λ x. P) e
always (edited x) h = h
always missing h = tt
always refused h = tt

if_all : {A P Q : Type 0} → (P → Q) → (e : Edited A) → IfEdited (λ x. P) e → IfEdited (λ x. Q) e
if_all f (edited x) h = f h
if_all f missing h = tt
if_all f refused h = tt

module _ (new : Tree) where
  put_within : (ts : Trees) (i : ℕ) → IfEdited (λ us. i ≤ count ts) (put_element ts i new)
  put_within no_trees zero = omega arith
  put_within no_trees (suc i) = tt
  put_within (more_trees t ts) zero =
      if_within (λ us. 0 ≤ suc (count ts)) (λ u p. p) (in_place_of t new)
      (if_without (λ u. 0 ≤ suc (count ts)) (wholes_of t) new (λ e. omega arith))
  put_within (more_trees t ts) (suc i) = if_within (λ us. suc i ≤ suc (count ts)) (λ us p. omega (arith, p)) (put_element ts i new) (put_within ts i)

  put_at : (t : Tree) (step : Step) → IsLegal t → IsText step → IfEdited (λ u. IsStep step) (put_step t step new)
  put_at t (key k) legal text = always (put_step t (key k) new) text
  put_at t inside legal text = always (put_step t inside new) tt
  put_at (list ts) (place i) legal text =
      if_within (λ u. IsStep (place i)) (λ us p. omega (arith, p, legal.1)) (put_element ts i new) (put_within ts i)
  put_at _ (place i) legal text = tt

  mutual
    pub are_steps : (t : Tree) (step : Step) (path : List Step) → IsLegal t → All IsText (step ∷ path)
        → IfEdited (λ u. All IsStep (step ∷ path)) (at_last (λ u s. put_step u s new) t step path)
    are_steps t step [] legal texts =
        if_all (λ is. All-cons IsStep step [] is (All-nil IsStep)) (put_step t step new) (put_at t step legal (All-head IsText step [] texts))
    are_steps (just t) inside (next ∷ path) legal texts =
        if_within (λ u. All IsStep (inside ∷ next ∷ path)) (λ u are. All-cons IsStep inside (next ∷ path) tt are)
        (at_last (λ u s. put_step u s new) t next path) (are_steps t next path legal (All-tail IsText inside (next ∷ path) texts))
    are_steps (list ts) (place i) (next ∷ path) legal texts =
        if_within (λ u. All IsStep (place i ∷ next ∷ path)) (λ us h. All-cons IsStep (place i) (next ∷ path) (omega (arith, h.0, legal.1)) h.1)
        (at_last_in (λ u s. put_step u s new) ts i next path)
        (are_steps_in ts i next path legal.0 (All-tail IsText (place i) (next ∷ path) texts))
    are_steps (map kind ps) (key k) (next ∷ path) legal texts =
        if_within (λ u. All IsStep (key k ∷ next ∷ path))
        (λ qs are. All-cons IsStep (key k) (next ∷ path) (All-head IsText (key k) (next ∷ path) texts) are)
        (at_last_by (λ u s. put_step u s new) ps k next path)
        (are_steps_by kind [] ps k next path legal.0 (All-tail IsText (key k) (next ∷ path) texts))
    are_steps (whole t) inside (next ∷ path) legal texts = tt
    are_steps _ step (next ∷ path) legal texts = tt

    are_steps_in : (ts : Trees) (i : ℕ) (step : Step) (path : List Step) → AreLegal ts → All IsText (step ∷ path)
        → IfEdited (λ us. (i < count ts) × All IsStep (step ∷ path)) (at_last_in (λ u s. put_step u s new) ts i step path)
    are_steps_in no_trees i step path legal texts = tt
    are_steps_in (more_trees t ts) zero step path legal texts =
        if_within (λ us. (0 < suc (count ts)) × All IsStep (step ∷ path)) (λ u are. (omega arith, are))
        (at_last (λ u s. put_step u s new) t step path) (are_steps t step path legal.0 texts)
    are_steps_in (more_trees t ts) (suc i) step path legal texts =
        if_within (λ us. (suc i < suc (count ts)) × All IsStep (step ∷ path)) (λ us h. (omega (arith, h.0), h.1))
        (at_last_in (λ u s. put_step u s new) ts i step path) (are_steps_in ts i step path legal.1 texts)

    are_steps_by : (kind : MapKind) (keys : List (List ℕ)) (ps : Pairs) (k : List ℕ) (step : Step) (path : List Step) → ArePairs kind keys ps
        → All IsText (step ∷ path) → IfEdited (λ qs. All IsStep (step ∷ path)) (at_last_by (λ u s. put_step u s new) ps k step path)
    are_steps_by kind keys no_pairs k step path legal texts = tt
    are_steps_by kind keys (more_pairs l t ps) k step path legal texts =
        let Are = λ (qs : Pairs). All IsStep (step ∷ path) in
        if_either Are (bytes_eq l k) _ _
        (λ same. if_within Are (λ u are. are) (at_last (λ u s. put_step u s new) t step path) (are_steps t step path legal.1.0 texts))
        (λ differs. if_within Are (λ qs are. are) (at_last_by (λ u s. put_step u s new) ps k step path)
        (are_steps_by kind (l ∷ keys) ps k step path legal.1.1 texts))
