-- How deep trees are after edits that add, replace and remove nodes.
use Rattle.std.proofs.Common.{◌≡◌, ℕ, zero, suc, ◌+◌, ◌-◌, ◌^◌, ◌≤◌, ◌<◌, Bool, true, false, if◌then◌else◌, List, [], ◌∷◌, refl, sym, ap, ◌∙◌, arith}
use Rattle.std.specs.Prelude.{⊤, max, min, nat_le}
use Rattle.std.specs.Str.{bytes_eq}
use Rattle.std.proofs.lemmas.Bool.Decides.{nat_tests}
use Rattle.cabinet_text_grammar.specs.Keys.{MapKind}
use Rattle.cabinet_text_grammar.specs.Path.{Step, key, place, inside}
use Rattle.cabinet_text_grammar.specs.Tree.{Tree, leaf, shared, nothing, just, list, map, whole, Trees, no_trees, more_trees, Pairs, no_pairs, more_pairs, depth, most_depth, pairs_depth}
use Rattle.cabinet_text_grammar.specs.Wholes.{wholes_of}
use Rattle.cabinet_text_nodes.specs.Restructures.{IsNew, limited_by, if_fits, limited}
use Rattle.cabinet_text_grammar.specs.Restructuring.{Edited, edited, missing, refused, within, without, in_place_of, comes_before, put_pair, put_element, put_step, insert_element, insert_step, remove_element, remove_pair, remove_step}
use Rattle.cabinet_text_nodes.specs.View.{node_tree}
use Rattle.cabinet_text_nodes.specs.declared.node.Node.{Node}
use Rattle.cabinet_text_nodes.proofs.NewNodes.{new_alone}

-- what is there after an edit that is done has this
abbrev IfEdited : {A : Type 0} → (A → Type 0) → Edited A → Type 0
IfEdited P (edited x) = P x
IfEdited P missing = ⊤
IfEdited P refused = ⊤

if_within : {A B : Type 0} (f : A → B) (P : B → Type 0) (e : Edited A) → IfEdited (λ x. P (f x)) e → IfEdited P (within f e)
if_within f P (edited x) h = h
if_within f P missing h = h
if_within f P refused h = h

if_without : {A : Type 0} (P : A → Type 0) (ws : List Tree) (x : A) → P x → IfEdited P (without ws x)
if_without P [] x h = h
if_without P (w ∷ ws) x h = tt

if_too : {A : Type 0} (P Q : A → Type 0) (e : Edited A) → ((x : A) → P x → Q x) → IfEdited P e → IfEdited Q e
if_too P Q (edited x) f h = f x h
if_too P Q missing f h = h
if_too P Q refused f h = h

-- two limits that admit the same are one limit
limited_same : {A : Type 0} (a b : A → Bool) (e : Edited A) → IfEdited (λ x. a x ≡ b x) e → limited_by a e ≡ limited_by b e
limited_same a b (edited x) h = ap (λ fits. if fits then edited x else refused) h
limited_same a b missing h = refl
limited_same a b refused h = refl

pub limited_alike : {A : Type 0} (a b : A → Bool) (e : Edited A) → ((x : A) → a x ≡ b x) → limited_by a e ≡ limited_by b e
limited_alike a b (edited x) h = ap (λ fits. if fits then edited x else refused) (h x)
limited_alike a b missing h = refl
limited_alike a b refused h = refl

pub unlimited : {A : Type 0} (a : A → Bool) (e : Edited A) → IfEdited (λ x. a x ≡ true) e → limited_by a e ≡ e
unlimited a (edited x) h = ap (λ fits. if fits then edited x else refused) h
unlimited a missing h = refl
unlimited a refused h = refl

-- where the one of two depths is within the limit, the larger is if the other is
pub over_left : (outer a b : ℕ) → outer + suc b ≤ 64 → nat_le (outer + suc (max a b)) 64 ≡ nat_le (outer + suc a) 64
over_left outer a b h = grind (arith, nat_tests, h)

pub over_right : (outer a b : ℕ) → outer + suc a ≤ 64 → nat_le (outer + suc (max a b)) 64 ≡ nat_le (outer + suc b) 64
over_right outer a b h = grind (arith, nat_tests, h)

-- what is put into a container is one deeper in it
module _ (outer : ℕ) (new : Tree) where
  abbrev IsAsDeep : ℕ → Type 0
  IsAsDeep d = nat_le (outer + suc d) 64 ≡ nat_le (outer + suc (depth new)) 64

  put_element-depth : (ts : Trees) (i : ℕ) → outer + suc (most_depth ts) ≤ 64 → IfEdited (λ us. IsAsDeep (most_depth us)) (put_element ts i new)
  put_element-depth no_trees zero h = over_left outer (depth new) 0 h
  put_element-depth no_trees (suc i) h = tt
  put_element-depth (more_trees t ts) zero h =
      if_within (λ u. more_trees u ts) (λ us. IsAsDeep (most_depth us)) (in_place_of t new)
      (if_without (λ u. IsAsDeep (max (depth u) (most_depth ts))) (wholes_of t) new (over_left outer (depth new) (most_depth ts) (omega (arith, h))))
  put_element-depth (more_trees t ts) (suc i) h =
      if_within (more_trees t) (λ us. IsAsDeep (most_depth us)) (put_element ts i new)
      (if_too (λ us. IsAsDeep (most_depth us)) (λ us. IsAsDeep (max (depth t) (most_depth us))) (put_element ts i new)
      (λ us same. over_right outer (depth t) (most_depth us) (omega (arith, h)) ∙ same)
      (put_element-depth ts i (omega (arith, h))))

  insert_element-depth : (ts : Trees) (i : ℕ) → outer + suc (most_depth ts) ≤ 64 → IfEdited (λ us. IsAsDeep (most_depth us)) (insert_element ts i new)
  insert_element-depth ts zero h = over_left outer (depth new) (most_depth ts) h
  insert_element-depth no_trees (suc i) h = tt
  insert_element-depth (more_trees t ts) (suc i) h =
      if_within (more_trees t) (λ us. IsAsDeep (most_depth us)) (insert_element ts i new)
      (if_too (λ us. IsAsDeep (most_depth us)) (λ us. IsAsDeep (max (depth t) (most_depth us))) (insert_element ts i new)
      (λ us same. over_right outer (depth t) (most_depth us) (omega (arith, h)) ∙ same)
      (insert_element-depth ts i (omega (arith, h))))

  put_pair-depth : (kind : MapKind) (ps : Pairs) (k : List ℕ) → outer + suc (pairs_depth ps) ≤ 64
      → IfEdited (λ qs. IsAsDeep (pairs_depth qs)) (put_pair kind ps k new)
  put_pair-depth kind no_pairs k h = over_left outer (depth new) 0 h
  put_pair-depth kind (more_pairs l t ps) k h = by (bytes_eq l k) (comes_before kind k l) (put_pair-depth kind ps k (omega (arith, h)))
    where
      by :
          (b before : Bool) → IfEdited (λ qs. IsAsDeep (pairs_depth qs)) (put_pair kind ps k new)
          → IfEdited (λ qs. IsAsDeep (pairs_depth qs)) (
          if b then within (λ u. more_pairs l u ps) (in_place_of t new)
          else if before then edited (more_pairs k new (more_pairs l t ps))
          else within (more_pairs l t) (put_pair kind ps k new))
      by true before rest =
          if_within (λ u. more_pairs l u ps) (λ qs. IsAsDeep (pairs_depth qs)) (in_place_of t new)
          (if_without (λ u. IsAsDeep (max (depth u) (pairs_depth ps))) (wholes_of t) new
          (over_left outer (depth new) (pairs_depth ps) (omega (arith, h))))
      by false true rest = over_left outer (depth new) (max (depth t) (pairs_depth ps)) h
      by false false rest =
          if_within (more_pairs l t) (λ qs. IsAsDeep (pairs_depth qs)) (put_pair kind ps k new)
          (if_too (λ qs. IsAsDeep (pairs_depth qs)) (λ qs. IsAsDeep (max (depth t) (pairs_depth qs))) (put_pair kind ps k new)
          (λ qs same. over_right outer (depth t) (pairs_depth qs) (omega (arith, h)) ∙ same) rest)

  abbrev FitsAlike : Tree → Type 0
  FitsAlike u = nat_le (outer + depth u) 64 ≡ nat_le (outer + suc (depth new)) 64

  put_step-depth : (t : Tree) (s : Step) → outer + depth t ≤ 64
      → IfEdited (λ u. nat_le (outer + depth u) 64 ≡ nat_le (outer + suc (depth new)) 64) (put_step t s new)
  put_step-depth nothing inside h = refl
  put_step-depth (just t) inside h = if_within just (λ u. FitsAlike u) (in_place_of t new)
      (if_without (λ u. FitsAlike (just u)) (wholes_of t) new refl)
  put_step-depth (list ts) (place i) h = if_within list (λ u. FitsAlike u) (put_element ts i new) (put_element-depth ts i h)
  put_step-depth (map kind ps) (key k) h = if_within (map kind) (λ u. FitsAlike u) (put_pair kind ps k new) (put_pair-depth kind ps k h)
  put_step-depth (whole t) inside h = tt
  put_step-depth (leaf l) s h = tt
  put_step-depth (shared b) s h = tt
  put_step-depth nothing (key k) h = tt
  put_step-depth nothing (place i) h = tt
  put_step-depth (just t) (key k) h = tt
  put_step-depth (just t) (place i) h = tt
  put_step-depth (list ts) (key k) h = tt
  put_step-depth (list ts) inside h = tt
  put_step-depth (map kind ps) (place i) h = tt
  put_step-depth (map kind ps) inside h = tt
  put_step-depth (whole t) (key k) h = tt
  put_step-depth (whole t) (place i) h = tt

  insert_step-depth : (t : Tree) (s : Step) → outer + depth t ≤ 64
      → IfEdited (λ u. nat_le (outer + depth u) 64 ≡ nat_le (outer + suc (depth new)) 64) (insert_step t s new)
  insert_step-depth (list ts) (place i) h = if_within list (λ u. FitsAlike u) (insert_element ts i new) (insert_element-depth ts i h)
  insert_step-depth (whole t) inside h = tt
  insert_step-depth (leaf l) s h = tt
  insert_step-depth (shared b) s h = tt
  insert_step-depth nothing s h = tt
  insert_step-depth (just t) s h = tt
  insert_step-depth (list ts) (key k) h = tt
  insert_step-depth (list ts) inside h = tt
  insert_step-depth (map kind ps) s h = tt
  insert_step-depth (whole t) (key k) h = tt
  insert_step-depth (whole t) (place i) h = tt

-- nothing gets deeper where something is removed
remove_element-depth : (ts : Trees) (i : ℕ) → IfEdited (λ us. most_depth us ≤ most_depth ts) (remove_element ts i)
remove_element-depth no_trees i = tt
remove_element-depth (more_trees t ts) zero = if_without (λ us. most_depth us ≤ max (depth t) (most_depth ts)) (wholes_of t) ts (omega arith)
remove_element-depth (more_trees t ts) (suc i) =
    if_within (more_trees t) (λ us. most_depth us ≤ max (depth t) (most_depth ts)) (remove_element ts i)
    (if_too (λ us. most_depth us ≤ most_depth ts) (λ us. max (depth t) (most_depth us) ≤ max (depth t) (most_depth ts)) (remove_element ts i)
    (λ us less. omega (arith, less)) (remove_element-depth ts i))

remove_pair-depth : (ps : Pairs) (k : List ℕ) → IfEdited (λ qs. pairs_depth qs ≤ pairs_depth ps) (remove_pair ps k)
remove_pair-depth no_pairs k = tt
remove_pair-depth (more_pairs l t ps) k = by (bytes_eq l k) (remove_pair-depth ps k)
  where
    by : (b : Bool) → IfEdited (λ qs. pairs_depth qs ≤ pairs_depth ps) (remove_pair ps k)
        → IfEdited (λ qs. pairs_depth qs ≤ max (depth t) (pairs_depth ps))
        (if b then without (wholes_of t) ps else within (more_pairs l t) (remove_pair ps k))
    by true rest = if_without (λ qs. pairs_depth qs ≤ max (depth t) (pairs_depth ps)) (wholes_of t) ps (omega arith)
    by false rest =
        if_within (more_pairs l t) (λ qs. pairs_depth qs ≤ max (depth t) (pairs_depth ps)) (remove_pair ps k)
        (if_too (λ qs. pairs_depth qs ≤ pairs_depth ps) (λ qs. max (depth t) (pairs_depth qs) ≤ max (depth t) (pairs_depth ps)) (remove_pair ps k)
        (λ qs less. omega (arith, less)) rest)

remove_step-depth : (t : Tree) (s : Step) → IfEdited (λ u. depth u ≤ depth t) (remove_step t s)
remove_step-depth (just t) inside = if_without (λ u. depth u ≤ suc (depth t)) (wholes_of t) nothing (omega arith)
remove_step-depth (list ts) (place i) = if_within list (λ u. depth u ≤ suc (most_depth ts)) (remove_element ts i)
    (if_too (λ us. most_depth us ≤ most_depth ts) (λ us. suc (most_depth us) ≤ suc (most_depth ts)) (remove_element ts i)
    (λ us less. omega (arith, less)) (remove_element-depth ts i))
remove_step-depth (map kind ps) (key k) = if_within (map kind) (λ u. depth u ≤ suc (pairs_depth ps)) (remove_pair ps k)
    (if_too (λ qs. pairs_depth qs ≤ pairs_depth ps) (λ qs. suc (pairs_depth qs) ≤ suc (pairs_depth ps)) (remove_pair ps k)
    (λ qs less. omega (arith, less)) (remove_pair-depth ps k))
remove_step-depth (whole t) inside = tt
remove_step-depth (leaf l) s = tt
remove_step-depth (shared b) s = tt
remove_step-depth nothing s = tt
remove_step-depth (just t) (key k) = tt
remove_step-depth (just t) (place i) = tt
remove_step-depth (list ts) (key k) = tt
remove_step-depth (list ts) inside = tt
remove_step-depth (map kind ps) (place i) = tt
remove_step-depth (map kind ps) inside = tt
remove_step-depth (whole t) (key k) = tt
remove_step-depth (whole t) (place i) = tt

-- an edit without a limit has the limit already
pub remove_step-unlimited : (outer : ℕ) (t : Tree) (s : Step) → outer + depth t ≤ 64
    → limited_by (λ u. nat_le (outer + depth u) 64) (remove_step t s) ≡ remove_step t s
remove_step-unlimited outer t s h =
    unlimited (λ u. nat_le (outer + depth u) 64) (remove_step t s)
    (if_too (λ u. depth u ≤ depth t) (λ u. nat_le (outer + depth u) 64 ≡ true) (remove_step t s) (λ u less. grind (arith, nat_tests, h, less))
    (remove_step-depth t s))

-- whether a new node fits is told by the depth of its own tree
pub new_fits : (table : List Tree) (outer inner : ℕ) (fits : Bool) (n : Node) (around : ℕ) → IsNew n → outer + around ≤ 64
    → inner ≡ min (outer + 1) (2 ^ 64 - 1)
    → (depth (node_tree [] n) < 2 ^ 64 - 1 → fits ≡ nat_le (inner + depth (node_tree [] n)) 64) → fits
    ≡ nat_le (outer + suc (depth (node_tree table n))) 64
new_fits table outer inner fits n around is_new shallow is told =
    let same = ap depth (new_alone table n is_new.0) in
    let sum : inner + depth (node_tree [] n) ≡ outer + suc (depth (node_tree table n)) = omega (arith, is, shallow, same) in
    told (omega (arith, is_new.1)) ∙ ap (λ d. nat_le d 64) sum

-- so an edit that refuses what does not fit is limited
pub put_step-limited : (outer : ℕ) (new t : Tree) (s : Step) (fits : Bool) → outer + depth t ≤ 64 → fits ≡ nat_le (outer + suc (depth new)) 64
    → limited outer (put_step t s new) ≡ if_fits fits (put_step t s new)
put_step-limited outer new t s fits shallow told =
    limited_same (λ u. nat_le (outer + depth u) 64) (λ _. nat_le (outer + suc (depth new)) 64) (put_step t s new)
    (put_step-depth outer new t s shallow) ∙ ap (λ b. if_fits b (put_step t s new)) (sym told)

pub insert_step-limited : (outer : ℕ) (new t : Tree) (s : Step) (fits : Bool) → outer + depth t ≤ 64 → fits ≡ nat_le (outer + suc (depth new)) 64
    → limited outer (insert_step t s new) ≡ if_fits fits (insert_step t s new)
insert_step-limited outer new t s fits shallow told =
    limited_same (λ u. nat_le (outer + depth u) 64) (λ _. nat_le (outer + suc (depth new)) 64) (insert_step t s new)
    (insert_step-depth outer new t s shallow) ∙ ap (λ b. if_fits b (insert_step t s new)) (sym told)

pub in_place_of-limited : (t new : Tree) (fits : Bool) → fits ≡ nat_le (0 + depth new) 64
    → limited 0 (in_place_of t new) ≡ if_fits fits (in_place_of t new)
in_place_of-limited t new fits told =
    limited_same (λ u. nat_le (0 + depth u) 64) (λ _. nat_le (0 + depth new) 64) (in_place_of t new)
    (if_without (λ u. nat_le (0 + depth u) 64 ≡ nat_le (0 + depth new) 64) (wholes_of t) new refl)
    ∙ ap (λ b. if_fits b (in_place_of t new)) (sym told)
