-- Edits that add, replace and remove nodes.
use Rattle.std.specs.Prelude.{ℕ, zero, suc, Bool, false, if◌then◌else◌, nat_le, List, [], ◌∷◌}
use Rattle.std.specs.Str.{bytes_eq}
use Rattle.std.specs.Ordering.{is_lt, nat_cmp}
use Rattle.std.specs.Cmp.Lexicographic.{slice_cmp}
use Rattle.cabinet_text_grammar.specs.Keys.{MapKind, kept}
use Rattle.cabinet_text_grammar.specs.Tree.{Tree, nothing, just, list, map, whole, Trees, no_trees, more_trees, Pairs, no_pairs, more_pairs, depth}
use Rattle.cabinet_text_grammar.specs.Path.{Step, key, place, inside}
use Rattle.cabinet_text_grammar.specs.Wholes.{wholes_of}

-- what becomes of a tree, its elements or its pairs
pub data Edited (A : Type 0) : Type 0 where
  edited : A → Edited A
  -- there is no such place
  missing : Edited A
  -- the place is there, and what is asked is not done
  refused : Edited A

abbrev pub within : {A B : Type 0} → (A → B) → Edited A → Edited B
within f (edited x) = edited (f x)
within f missing = missing
within f refused = refused

-- what is given up has this table, which must be empty: the wholes of a document stay
abbrev pub without : {A : Type 0} → List Tree → A → Edited A
without [] x = edited x
without (t ∷ table) x = refused

-- a node in the place of another
abbrev pub in_place_of : Tree → Tree → Edited Tree
in_place_of old new = without (wholes_of old) new

-- ---- edits of a container by a step from it

-- in an ordered and a hashed map a new key comes before the first one above it, in a kept one after all
abbrev pub comes_before : MapKind → List ℕ → List ℕ → Bool
comes_before kept k l = false
comes_before kind k l = is_lt (slice_cmp nat_cmp k l)

abbrev pub put_pair : MapKind → Pairs → List ℕ → Tree → Edited Pairs
put_pair kind no_pairs k new = edited (more_pairs k new no_pairs)
put_pair kind (more_pairs l t ps) k new =
    if bytes_eq l k then within (λ u. more_pairs l u ps) (in_place_of t new)
    else if comes_before kind k l then edited (more_pairs k new (more_pairs l t ps))
    else within (more_pairs l t) (put_pair kind ps k new)

abbrev pub put_element : Trees → ℕ → Tree → Edited Trees
put_element no_trees zero new = edited (more_trees new no_trees)
put_element no_trees (suc i) new = missing
put_element (more_trees t ts) zero new = within (λ u. more_trees u ts) (in_place_of t new)
put_element (more_trees t ts) (suc i) new = within (more_trees t) (put_element ts i new)

-- a node in the place of the one there, under a new key, after the last element, or in an empty option
abbrev pub put_step : Tree → Step → Tree → Edited Tree
put_step nothing inside new = edited (just new)
put_step (just t) inside new = within just (in_place_of t new)
put_step (list ts) (place i) new = within list (put_element ts i new)
put_step (map kind ps) (key k) new = within (map kind) (put_pair kind ps k new)
put_step (whole t) inside new = refused
put_step _ step new = missing

abbrev pub insert_element : Trees → ℕ → Tree → Edited Trees
insert_element ts zero new = edited (more_trees new ts)
insert_element no_trees (suc i) new = missing
insert_element (more_trees t ts) (suc i) new = within (more_trees t) (insert_element ts i new)

-- a node before an element of a list, or after the last
abbrev pub insert_step : Tree → Step → Tree → Edited Tree
insert_step (list ts) (place i) new = within list (insert_element ts i new)
insert_step (whole t) inside new = refused
insert_step _ step new = missing

abbrev pub remove_element : Trees → ℕ → Edited Trees
remove_element no_trees i = missing
remove_element (more_trees t ts) zero = without (wholes_of t) ts
remove_element (more_trees t ts) (suc i) = within (more_trees t) (remove_element ts i)

abbrev pub remove_pair : Pairs → List ℕ → Edited Pairs
remove_pair no_pairs k = missing
remove_pair (more_pairs l t ps) k = if bytes_eq l k then without (wholes_of t) ps else within (more_pairs l t) (remove_pair ps k)

-- what a step leads to, taken out of its container
abbrev pub remove_step : Tree → Step → Edited Tree
remove_step (just t) inside = in_place_of t nothing
remove_step (list ts) (place i) = within list (remove_element ts i)
remove_step (map kind ps) (key k) = within (map kind) (remove_pair ps k)
remove_step (whole t) inside = refused
remove_step _ step = missing

-- ---- edits by paths

-- an edit by the last step of a path, and what becomes of the containers that the steps before it lead through
abbrev mutual
  pub at_last : (Tree → Step → Edited Tree) → Tree → Step → List Step → Edited Tree
  at_last edit t step [] = edit t step
  at_last edit (just t) inside (next ∷ path) = within just (at_last edit t next path)
  at_last edit (list ts) (place i) (next ∷ path) = within list (at_last_in edit ts i next path)
  at_last edit (map kind ps) (key k) (next ∷ path) = within (map kind) (at_last_by edit ps k next path)
  at_last edit (whole t) inside (next ∷ path) = refused
  at_last edit _ step (next ∷ path) = missing

  pub at_last_in : (Tree → Step → Edited Tree) → Trees → ℕ → Step → List Step → Edited Trees
  at_last_in edit no_trees i step path = missing
  at_last_in edit (more_trees t ts) zero step path = within (λ u. more_trees u ts) (at_last edit t step path)
  at_last_in edit (more_trees t ts) (suc i) step path = within (more_trees t) (at_last_in edit ts i step path)

  pub at_last_by : (Tree → Step → Edited Tree) → Pairs → List ℕ → Step → List Step → Edited Pairs
  at_last_by edit no_pairs k step path = missing
  at_last_by edit (more_pairs l t ps) k step path =
      if bytes_eq l k then within (λ u. more_pairs l u ps) (at_last edit t step path) else within (more_pairs l t) (at_last_by edit ps k step path)

-- a document has at most 64 containers in one another
abbrev pub if_shallow : Edited Tree → Edited Tree
if_shallow (edited t) = if nat_le (depth t) 64 then edited t else refused
if_shallow missing = missing
if_shallow refused = refused

-- the root too may be replaced, but neither inserted nor removed
abbrev pub put : Tree → List Step → Tree → Edited Tree
put t [] new = if_shallow (in_place_of t new)
put t (step ∷ path) new = if_shallow (at_last (λ u s. put_step u s new) t step path)

abbrev pub insert : Tree → List Step → Tree → Edited Tree
insert t [] new = missing
insert t (step ∷ path) new = if_shallow (at_last (λ u s. insert_step u s new) t step path)

abbrev pub remove : Tree → List Step → Edited Tree
remove t [] = refused
remove t (step ∷ path) = at_last remove_step t step path
