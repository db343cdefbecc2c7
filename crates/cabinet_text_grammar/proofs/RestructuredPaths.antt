-- Where paths lead after an edit that adds, replaces or removes a node.
use Rattle.std.proofs.Common.{◌≡◌, ◌≢◌, ℕ, zero, suc, ◌<◌, ◌≤◌, true, if◌then◌else◌, List, [], ◌∷◌, ◌++◌, Option, Some, None, inl, inr, ap, sym, subst, ◌∙◌, append-nil, refl, arith}
use Rattle.std.specs.Prelude.{⊤}
use Rattle.std.specs.Str.{bytes_eq}
use Rattle.std.proofs.lemmas.Bool.{false_from_ne_true}
use Rattle.std.proofs.lemmas.Slice.Eq.{bytes_eq-Decides}
use Rattle.cabinet_text_grammar.specs.Keys.{MapKind}
use Rattle.cabinet_text_grammar.specs.Tree.{Tree, nothing, just, list, map, whole, Trees, no_trees, more_trees, Pairs, no_pairs, more_pairs, IsLegal, AreLegal, ArePairs}
use Rattle.cabinet_text_grammar.specs.Path.{Step, key, place, inside, node_at, node_in, node_by}
use Rattle.cabinet_text_grammar.specs.PairsLaws.{HasPair}
use Rattle.cabinet_text_grammar.specs.Restructuring.{Edited, in_place_of, comes_before, put_pair, put_element, put_step, insert_element, insert_step, remove_element, remove_pair, remove_step, at_last}
use Rattle.cabinet_text_grammar.specs.RestructuringLaws.{Part, PutLeads, PutLeadsToNew, InsertMovesElements, RemoveMovesElements}
use Rattle.cabinet_text_grammar.proofs.DistinctKeys.{later_differ}
use Rattle.cabinet_text_grammar.proofs.Restructured.{IfEdited, if_within, if_so, if_without, if_either, shallow, front, last_of, IsCarried, carried}

-- ---- steps that lead where they led

-- other steps than this lead where they led
abbrev OtherSteps : Step → Tree → Tree → Type 0
OtherSteps step t u = (other : Step) (rest : List Step) → step ≢ other → node_at u (other ∷ rest) ≡ node_at t (other ∷ rest)

others_in_just : (t u : Tree) → OtherSteps inside (just t) (just u)
others_in_just t u inside rest differ = absurd (differ refl)
others_in_just t u _ rest differ = refl

others_in_nothing : (u : Tree) → OtherSteps inside nothing (just u)
others_in_nothing u inside rest differ = absurd (differ refl)
others_in_nothing u _ rest differ = refl

others_first :
    (ts us : Trees) → ((j : ℕ) (rest : List Step) → node_in us (suc j) rest ≡ node_in ts (suc j) rest)
    → OtherSteps (place zero) (list ts) (list us)
others_first ts us h (place zero) rest differ = absurd (differ refl)
others_first ts us h (place (suc j)) rest differ = h j rest
others_first ts us h _ rest differ = refl

others_later :
    (i : ℕ) (t : Tree) (ts us : Trees)
    → OtherSteps (place i) (list ts) (list us) → OtherSteps (place (suc i)) (list (more_trees t ts)) (list (more_trees t us))
others_later i t ts us h (place zero) rest differ = refl
others_later i t ts us h (place (suc j)) rest differ = h (place j) rest (λ e. differ (cc))
others_later i t ts us h _ rest differ = refl

-- where a key that differs from that of the first pair leads
passed : (l k : List ℕ) (t : Tree) (ps : Pairs) (rest : List Step) → l ≢ k → node_by (more_pairs l t ps) k rest ≡ node_by ps k rest
passed l k t ps rest differ = rw (false_from_ne_true (bytes_eq l k) (λ e. differ ((bytes_eq-Decides l k).0 e))) refl

module _ (kind : MapKind) (k : List ℕ) where
  others_new_key : (l : List ℕ) (t : Tree) (ps : Pairs) → bytes_eq l k ≡ true → OtherSteps (key k) (map kind ps) (map kind (more_pairs l t ps))
  others_new_key l t ps same (key m) rest differ = passed l m t ps rest (λ e. differ (ap key (sym ((bytes_eq-Decides l k).0 same) ∙ e)))
  others_new_key l t ps same _ rest differ = refl

  others_value :
      (l : List ℕ) (t u : Tree) (ps : Pairs)
      → bytes_eq l k ≡ true → OtherSteps (key k) (map kind (more_pairs l t ps)) (map kind (more_pairs l u ps))
  others_value l t u ps same other rest differ = others_new_key l u ps same other rest differ ∙ sym (others_new_key l t ps same other rest differ)

  others_behind :
      (l : List ℕ) (t : Tree) (ps qs : Pairs)
      → OtherSteps (key k) (map kind ps) (map kind qs) → OtherSteps (key k) (map kind (more_pairs l t ps)) (map kind (more_pairs l t qs))
  others_behind l t ps qs h (key m) rest differ = ap (λ found. if bytes_eq l m then node_at t rest else found) (h (key m) rest differ)
  others_behind l t ps qs h _ rest differ = refl

-- so do paths that part from one that begins with this step, if those that part from it later do
parting :
    (step : Step) (path : List Step) (t u : Tree) → OtherSteps step t u
    → ((rest : List Step) → Part path rest → node_at u (step ∷ rest) ≡ node_at t (step ∷ rest))
    → (other : List Step) → Part (step ∷ path) other → node_at u other ≡ node_at t other
parting step path t u h g [] p = absurd p
parting step path t u h g (other ∷ rest) (inl differ) = h other rest differ
parting step path t u h g (other ∷ rest) (inr p) = subst (λ s. node_at u (s ∷ rest) ≡ node_at t (s ∷ rest)) p.0 (g rest p.1)

-- ---- the container that is edited

-- The container c that a path leads to, and d after the edit; the trees are given by where paths lead in them. Paths that part
-- from that path with these steps behind it lead where they led. Where it matters, c is legal.
module _ (Matters : Type 0) (BecomesOf : Tree → Tree → Type 0) (onward : List Step) where
  record Around (old new : List Step → Option Tree) (path : List Step) : Type 0 where
    pub c : Tree
    pub d : Tree
    pub legal : Matters → IsLegal c
    pub becomes : BecomesOf c d
    pub from : (rest : List Step) → old (path ++ rest) ≡ node_at c rest
    pub to : (rest : List Step) → new (path ++ rest) ≡ node_at d rest
    pub others : (other : List Step) → Part (path ++ onward) other → new other ≡ old other

  abbrev At : List Step → Tree → Tree → Type 0
  At path t u = (Matters → IsLegal t) → Around (node_at t) (node_at u) path

  further_out :
      (step : Step) (path : List Step) (t u : Tree) → OtherSteps step t u
      → Around (λ w. node_at t (step ∷ w)) (λ w. node_at u (step ∷ w)) path → Around (node_at t) (node_at u) (step ∷ path)
  further_out step path t u h r =
      let others = parting step (path ++ onward) t u h r.others in
      record { c = r.c; d = r.d; legal = r.legal; becomes = r.becomes; from = r.from; to = r.to; others = others }

  around :
      IsCarried At (λ i path ts us. ((Matters → AreLegal ts) → Around (node_in ts i) (node_in us i) path) × OtherSteps (place i) (list ts) (list us))
      (λ kind keys k path ps qs.
      ((Matters → ArePairs kind keys ps) → Around (λ w. node_by ps k w) (λ w. node_by qs k w) path) × OtherSteps (key k) (map kind ps) (map kind qs))
  around = record {
    in_just = λ path t u r p. further_out inside path (just t) (just u) (others_in_just t u) (r p);
    in_list = λ i path ts us r p. further_out (place i) path (list ts) (list us) r.1 (r.0 (λ m. (p m).0));
    in_map = λ kind k path ps qs r p. further_out (key k) path (map kind ps) (map kind qs) r.1 (r.0 (λ m. (p m).0));
    first = λ path ts t u r. (λ p. r (λ m. (p m).0), others_first (more_trees t ts) (more_trees u ts) (λ j rest. refl));
    later = λ i path t ts us r. (λ p. r.0 (λ m. (p m).1), others_later i t ts us r.1);
    value = λ kind keys k l path ps same t u r. (λ p. rw same (r (λ m. (p m).1.0)), others_value kind k l t u ps same);
    behind = λ kind keys k l path t differs ps qs r. (λ p. rw differs (r.0 (λ m. (p m).1.1)), others_behind kind k l t ps qs r.1);
  }

  around_last :
      (edit : Tree → Step → Edited Tree) (t : Tree) (step : Step) (path : List Step)
      → ((c : Tree) → IfEdited (BecomesOf c) (edit c (last_of step path)))
      → ((c d : Tree) → BecomesOf c d → (other : List Step) → Part onward other → node_at d other ≡ node_at c other)
      → IfEdited (At (front step path) t) (at_last edit t step path)
  around_last edit t step path h g =
      carried _ _ _ around edit t step path (λ c. if_so (At [] c) (λ d b p.
      record { c = c; d = d; legal = p; becomes = b; from = λ rest. refl; to = λ rest. refl; others = g c d b }) _ (h c))

-- a path is made of its front and its last step
ends : (step : Step) (path : List Step) → step ∷ path ≡ front step path ++ last_of step path ∷ []
ends step [] = refl
ends step (next ∷ path) = ap (λ w. step ∷ w) (ends next path)

-- ---- what is put

module _ (new : Tree) where
  abbrev PutAt : Step → Tree → Tree → Type 0
  PutAt step t u = (node_at u (step ∷ []) ≡ Some new) × OtherSteps step t u

  replaced : (t : Tree) → IfEdited (λ u. u ≡ new) (in_place_of t new)
  replaced t = if_without (λ u. u ≡ new) _ _ (λ h. refl)

  put_in : (ts : Trees) (i : ℕ) → IfEdited (λ us. PutAt (place i) (list ts) (list us)) (put_element ts i new)
  put_in no_trees zero = (refl, others_first no_trees (more_trees new no_trees) (λ j rest. refl))
  put_in no_trees (suc i) = tt
  put_in (more_trees t ts) zero =
      if_within (λ us. PutAt (place zero) (list (more_trees t ts)) (list us))
      (λ u e. (ap Some e, others_first (more_trees t ts) (more_trees u ts) (λ j rest. refl))) _ (replaced t)
  put_in (more_trees t ts) (suc i) =
      if_within (λ us. PutAt (place (suc i)) (list (more_trees t ts)) (list us)) (λ us r. (r.0, others_later i t ts us r.1)) _ (put_in ts i)

  added : (kind : MapKind) (k : List ℕ) (ps : Pairs) → PutAt (key k) (map kind ps) (map kind (more_pairs k new ps))
  added kind k ps = let same = (bytes_eq-Decides k k).1 refl in (rw same refl, others_new_key kind k k new ps same)

  put_by : (kind : MapKind) (ps : Pairs) (k : List ℕ) → IfEdited (λ qs. PutAt (key k) (map kind ps) (map kind qs)) (put_pair kind ps k new)
  put_by kind no_pairs k = added kind k no_pairs
  put_by kind (more_pairs l t ps) k =
      let Is = λ (qs : Pairs). PutAt (key k) (map kind (more_pairs l t ps)) (map kind qs) in
      if_either Is (bytes_eq l k) _ _
      (λ same. if_within Is (λ u e. (rw same (ap Some e), others_value kind k l t u ps same)) _ (replaced t))
      (λ differs. if_either Is (comes_before kind k l) _ _
      (λ is. added kind k (more_pairs l t ps))
      (λ not. if_within Is (λ qs r. (rw differs r.0, others_behind kind k l t ps qs r.1)) _ (put_by kind ps k)))

  put_at : (c : Tree) (step : Step) → IfEdited (PutAt step c) (put_step c step new)
  put_at nothing inside = (refl, others_in_nothing new)
  put_at (just t) inside = if_within (PutAt inside (just t)) (λ u e. (ap Some e, others_in_just t u)) _ (replaced t)
  put_at (list ts) (place i) = if_within (PutAt (place i) (list ts)) (λ us r. r) _ (put_in ts i)
  put_at (map kind ps) (key k) = if_within (PutAt (key k) (map kind ps)) (λ qs r. r) _ (put_by kind ps k)
  put_at (whole t) inside = tt
  put_at _ step = tt

pub put_leads_to_new : PutLeadsToNew
put_leads_to_new t new u [] done =
    record { there = ap Some (shallow (λ u. u ≡ new) _ u (replaced new t) done).0; others = λ other p. absurd p }
put_leads_to_new t new u (step ∷ path) done =
    let last = last_of step path in
    let r = (shallow (At ⊥ (PutAt new last) (last ∷ []) (front step path) t) _ u
    (around_last ⊥ (PutAt new last) (last ∷ []) (λ c s. put_step c s new) t step path (λ c. put_at new c last)
    (λ c d b. parting last [] c d b.1 (λ rest p. absurd p))) done).0 (λ m. absurd m) in
    subst (PutLeads t new u) (sym (ends step path)) (record { there = r.to (last ∷ []) ∙ r.becomes.0; others = r.others })

-- ---- what is inserted

-- an element of the second list comes before those that the first has from a place on
abbrev OneMore : ℕ → Tree → Tree → Type 0
OneMore i t u =
    (j : ℕ) (rest : List Step)
    → (j < i → node_at u (place j ∷ rest) ≡ node_at t (place j ∷ rest)) × (i ≤ j → node_at u (place (suc j) ∷ rest) ≡ node_at t (place j ∷ rest))

more_later : (i : ℕ) (t : Tree) (ts us : Trees) → OneMore i (list ts) (list us) → OneMore (suc i) (list (more_trees t ts)) (list (more_trees t us))
more_later i t ts us r zero rest = (λ low. refl, λ high. absurd (omega arith))
more_later i t ts us r (suc j) rest = (λ low. (r j rest).0 (omega arith), λ high. (r j rest).1 (omega arith))

module _ (new : Tree) where
  abbrev Inserted : ℕ → Tree → Tree → Type 0
  Inserted i t u = (node_at u (place i ∷ []) ≡ Some new) × OneMore i t u

  inserted_in : (ts : Trees) (i : ℕ) → IfEdited (λ us. Inserted i (list ts) (list us)) (insert_element ts i new)
  inserted_in ts zero = (refl, λ j rest. (λ low. absurd (omega arith), λ high. refl))
  inserted_in no_trees (suc i) = tt
  inserted_in (more_trees t ts) (suc i) =
      if_within (λ us. Inserted (suc i) (list (more_trees t ts)) (list us)) (λ us r. (r.0, more_later i t ts us r.1)) _ (inserted_in ts i)

  abbrev InsertedAt : Step → Tree → Tree → Type 0
  InsertedAt step c d = (i : ℕ) × (step ≡ place i) × Inserted i c d

  inserted : (c : Tree) (step : Step) → IfEdited (InsertedAt step c) (insert_step c step new)
  inserted (list ts) (place i) = if_within (InsertedAt (place i) (list ts)) (λ us r. (i, refl, r)) _ (inserted_in ts i)
  inserted (whole t) inside = tt
  inserted _ step = tt

pub insert_moves_elements : InsertMovesElements
insert_moves_elements t new u [] done = absurd (cc)
insert_moves_elements t new u (step ∷ path) done =
    let last = last_of step path in
    let before = front step path in
    let r = (shallow (At ⊥ (InsertedAt new last) [] before t) _ u
    (around_last ⊥ (InsertedAt new last) [] (λ c s. insert_step c s new) t step path (λ c. inserted new c last) (λ c d b other p. absurd p)) done).0
    (λ m. absurd m) in
    let b = r.becomes in (
      before,
      b.0,
      ends step path ∙ ap (λ s. before ++ s ∷ []) b.1,
      record {
        there = r.to (place b.0 ∷ []) ∙ b.2.0;
        before = λ j rest low. r.to (place j ∷ rest) ∙ (b.2.1 j rest).0 low ∙ sym (r.from (place j ∷ rest));
        behind = λ j rest high. r.to (place (suc j) ∷ rest) ∙ (b.2.1 j rest).1 high ∙ sym (r.from (place j ∷ rest));
        others = λ other p. r.others other (subst (λ w. Part w other) (sym (append-nil before)) p);
      },
    )

-- ---- what is removed

-- nothing is at a key or in an option, and the elements behind a place have a place one less
abbrev Removed : Step → Tree → Tree → Type 0
Removed (key k) c d = ((rest : List Step) → node_at d (key k ∷ rest) ≡ None) × OtherSteps (key k) c d
Removed (place i) c d = OneMore i d c
Removed inside c d = (rest : List Step) → node_at d (inside ∷ rest) ≡ None

removed_in : (ts : Trees) (i : ℕ) → IfEdited (λ us. OneMore i (list us) (list ts)) (remove_element ts i)
removed_in no_trees i = tt
removed_in (more_trees t ts) zero =
    if_without (λ us. OneMore zero (list us) (list (more_trees t ts))) _ _ (λ h j rest. (λ low. absurd (omega arith), λ high. refl))
removed_in (more_trees t ts) (suc i) = if_within _ (λ us. more_later i t us ts) _ (removed_in ts i)

-- a key that no pair has leads nowhere
nowhere : (ps : Pairs) (k : List ℕ) (rest : List Step) → ((l : List ℕ) (t : Tree) → HasPair l t ps → l ≢ k) → node_by ps k rest ≡ None
nowhere no_pairs k rest differ = refl
nowhere (more_pairs l t ps) k rest differ = passed l k t ps rest (differ l t (inl (refl, refl))) ∙ nowhere ps k rest (λ m u h. differ m u (inr h))

removed_by :
    (kind : MapKind) (keys : List (List ℕ)) (ps : Pairs) (k : List ℕ)
    → IfEdited (λ qs. ArePairs kind keys ps → Removed (key k) (map kind ps) (map kind qs)) (remove_pair ps k)
removed_by kind keys no_pairs k = tt
removed_by kind keys (more_pairs l t ps) k =
    let Is = λ (qs : Pairs). ArePairs kind keys (more_pairs l t ps) → Removed (key k) (map kind (more_pairs l t ps)) (map kind qs) in
    if_either Is (bytes_eq l k) _ _
    (λ same. let is = (bytes_eq-Decides l k).0 same in if_without Is _ _ (λ h p. (
      λ rest. nowhere ps k rest (λ m u there e. later_differ kind l keys ps p.1.1 m u there (e ∙ sym is)),
      λ other rest differ. sym (others_new_key kind k l t ps same other rest differ),
    )))
    (λ differs. if_within Is (λ qs r p. (λ rest. rw differs ((r p.1.1).0 rest), others_behind kind k l t ps qs (r p.1.1).1)) _
    (removed_by kind (l ∷ keys) ps k))

removed : (c : Tree) (step : Step) → IfEdited (λ d. IsLegal c → Removed step c d) (remove_step c step)
removed (just t) inside = if_without (λ d. IsLegal t → Removed inside (just t) d) _ _ (λ h p rest. refl)
removed (list ts) (place i) = if_within (λ d. IsLegal (list ts) → Removed (place i) (list ts) d) (λ us r p. r) _ (removed_in ts i)
removed (map kind ps) (key k) =
    if_within (λ d. IsLegal (map kind ps) → Removed (key k) (map kind ps) d) (λ qs r p. r p.0) _ (removed_by kind [] ps k)
removed (whole t) inside = tt
removed _ step = tt

pub remove_moves_elements : RemoveMovesElements
remove_moves_elements t u [] legal done = absurd (cc)
remove_moves_elements t u (step ∷ path) legal done =
    let last = last_of step path in
    let before = front step path in
    let Becomes = λ (c d : Tree). IsLegal c → Removed last c d in
    let r = subst (IfEdited (At ⊤ Becomes [] before t)) done
    (around_last ⊤ Becomes [] remove_step t step path (λ c. removed c last) (λ c d b other p. absurd p)) (λ m. legal) in
    let b = λ (s : Step) (e : last ≡ s). subst (λ s. Removed s r.c r.d) e (r.becomes (r.legal tt)) in (
      before,
      last,
      ends step path,
      record {
        key_gone = λ k rest e. r.to (last ∷ rest) ∙ ap (λ s. node_at r.d (s ∷ rest)) e ∙ (b (key k) e).0 rest;
        inside_gone = λ rest e. r.to (last ∷ rest) ∙ ap (λ s. node_at r.d (s ∷ rest)) e ∙ b inside e rest;
        before = λ i j rest e low. r.to (place j ∷ rest) ∙ sym (r.from (place j ∷ rest) ∙ (b (place i) e j rest).0 low);
        behind = λ i j rest e high. r.to (place j ∷ rest) ∙ sym (r.from (place (suc j) ∷ rest) ∙ (b (place i) e j rest).1 high);
        other_keys = λ k l rest e differ. r.to (key l ∷ rest) ∙ (b (key k) e).1 (key l) rest (λ q. differ (cc)) ∙ sym (r.from (key l ∷ rest));
        others = λ other p. r.others other (subst (λ w. Part w other) (sym (append-nil before)) p);
      },
    )
