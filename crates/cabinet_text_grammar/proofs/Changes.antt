-- What setting a leaf leaves unchanged.
use Rattle.std.proofs.Common.{◌≡◌, ◌≢◌, ℕ, zero, suc, ◌<◌, ◌≤◌, ◌^◌, Bool, true, false, if◌then◌else◌, List, [], ◌∷◌, length, Option, ap, sym, subst, refl, arith}
use Rattle.std.specs.Str.{bytes_eq}
use Rattle.cabinet_text_grammar.specs.Keys.{MapKind}
use Rattle.cabinet_text_grammar.specs.Tree.{Leaf, Tree, leaf, shared, nothing, just, list, map, whole, Trees, no_trees, more_trees, Pairs, no_pairs, more_pairs, count, pair_count, depth, most_depth, pairs_depth, IsLeaf, IsLegal, AreLegal, ArePairs}
use Rattle.cabinet_text_grammar.specs.Wholes.{with_wholes, with_wholes_in, with_wholes_by, wholes_of, IsDocument}
use Rattle.cabinet_text_grammar.specs.Path.{Step, key, place, inside, node_at, node_in, node_by, enters, enters_in, enters_by}
use Rattle.cabinet_text_grammar.specs.Answering.{Answer, done, refused, fits, outcome_there, if_there, change, change_in, change_by}

-- the answer to setting a leaf where there may be a node, which may lie in a whole
abbrev outcome : Option Tree → Bool → Leaf → Answer
outcome found is_inside new = if_there found (λ u. if is_inside then refused else outcome_there new u)

not_done : (b : Bool) (t u : Tree) → (if b then done else refused) ≢ done → (if b then t else u) ≡ u
not_done true t u h = absurd (h refl)
not_done false t u h = refl

mutual
  pub only_done_changes : (t : Tree) (path : List Step) (new : Leaf) → outcome (node_at t path) (enters t path) new ≢ done → change t path new ≡ t
  only_done_changes (leaf old) [] new h = not_done (fits old new) (leaf new) (leaf old) h
  only_done_changes (shared u) [] new h = refl
  only_done_changes nothing [] new h = refl
  only_done_changes (just t) [] new h = refl
  only_done_changes (list ts) [] new h = refl
  only_done_changes (map kind ps) [] new h = refl
  only_done_changes (whole t) [] new h = refl
  only_done_changes (whole t) (step ∷ path) new h = refl
  only_done_changes (leaf old) (step ∷ path) new h = refl
  only_done_changes (shared u) (step ∷ path) new h = refl
  only_done_changes nothing (step ∷ path) new h = refl
  only_done_changes (just t) (inside ∷ path) new h = ap just (only_done_changes t path new h)
  only_done_changes (just t) (key k ∷ path) new h = refl
  only_done_changes (just t) (place i ∷ path) new h = refl
  only_done_changes (list ts) (place i ∷ path) new h = ap list (only_done_changes_in ts i path new h)
  only_done_changes (list ts) (key k ∷ path) new h = refl
  only_done_changes (list ts) (inside ∷ path) new h = refl
  only_done_changes (map kind ps) (key k ∷ path) new h = ap (map kind) (only_done_changes_by ps k path new h)
  only_done_changes (map kind ps) (place i ∷ path) new h = refl
  only_done_changes (map kind ps) (inside ∷ path) new h = refl

  only_done_changes_in : (ts : Trees) (i : ℕ) (path : List Step) (new : Leaf) → outcome (node_in ts i path) (enters_in ts i path) new ≢ done → change_in ts i path new ≡ ts
  only_done_changes_in no_trees i path new h = refl
  only_done_changes_in (more_trees t ts) zero path new h = ap (λ x. more_trees x ts) (only_done_changes t path new h)
  only_done_changes_in (more_trees t ts) (suc i) path new h = ap (more_trees t) (only_done_changes_in ts i path new h)

  only_done_changes_by : (ps : Pairs) (k : List ℕ) (path : List Step) (new : Leaf) → outcome (node_by ps k path) (enters_by ps k path) new ≢ done → change_by ps k path new ≡ ps
  only_done_changes_by no_pairs k path new h = refl
  only_done_changes_by (more_pairs l t ps) k path new h =
      at_key (bytes_eq l k) (only_done_changes t path new) (only_done_changes_by ps k path new) h
    where
      at_key :
          (b : Bool)
          → (outcome (node_at t path) (enters t path) new ≢ done → change t path new ≡ t)
          → (outcome (node_by ps k path) (enters_by ps k path) new ≢ done → change_by ps k path new ≡ ps)
          → outcome (if b then node_at t path else node_by ps k path) (if b then enters t path else enters_by ps k path) new ≢ done
          → (if b then more_pairs l (change t path new) ps else more_pairs l t (change_by ps k path new)) ≡ more_pairs l t ps
      at_key true here there g = ap (λ x. more_pairs l x ps) (here g)
      at_key false here there g = ap (more_pairs l t) (there g)

-- a tree that is allowed where another one is, and has the same wholes
record Replaces (t u : Tree) : Type 0 where
  pub legal : IsLegal u
  pub deep : depth u ≤ depth t
  pub wholes : (table : List Tree) → with_wholes table u ≡ with_wholes table t

same : (t : Tree) → IsLegal t → Replaces t t
same t p = record { legal = p; deep = omega arith; wholes = λ table. refl }

changed_leaf : (b : Bool) (old new : Leaf) → IsLeaf old → IsLeaf new → Replaces (leaf old) (if b then leaf new else leaf old)
changed_leaf true old new p q = record { legal = q; deep = omega arith; wholes = λ table. refl }
changed_leaf false old new p q = same (leaf old) p

record ReplaceAll (ts us : Trees) : Type 0 where
  pub legal : AreLegal us
  pub deep : most_depth us ≤ most_depth ts
  pub as_many : count us ≡ count ts
  pub wholes : (table : List Tree) → with_wholes_in table us ≡ with_wholes_in table ts

record ReplacePairs (kind : MapKind) (before : List (List ℕ)) (ps qs : Pairs) : Type 0 where
  pub legal : ArePairs kind before qs
  pub deep : pairs_depth qs ≤ pairs_depth ps
  pub as_many : pair_count qs ≡ pair_count ps
  pub wholes : (table : List Tree) → with_wholes_by table qs ≡ with_wholes_by table ps

mutual
  replaces : (t : Tree) (path : List Step) (new : Leaf) → IsLegal t → IsLeaf new → Replaces t (change t path new)
  replaces (leaf old) [] new p q = changed_leaf (fits old new) old new p q
  replaces (shared u) [] new p q = same (shared u) p
  replaces nothing [] new p q = same nothing p
  replaces (just t) [] new p q = same (just t) p
  replaces (list ts) [] new p q = same (list ts) p
  replaces (map kind ps) [] new p q = same (map kind ps) p
  replaces (whole t) [] new p q = same (whole t) p
  replaces (whole t) (step ∷ path) new p q = same (whole t) p
  replaces (leaf old) (step ∷ path) new p q = same (leaf old) p
  replaces (shared u) (step ∷ path) new p q = same (shared u) p
  replaces nothing (step ∷ path) new p q = same nothing p
  replaces (just t) (inside ∷ path) new p q =
      let r = replaces t path new p q in
      record { legal = r.legal; deep = omega (arith, r.deep); wholes = r.wholes }
  replaces (just t) (key k ∷ path) new p q = same (just t) p
  replaces (just t) (place i ∷ path) new p q = same (just t) p
  replaces (list ts) (place i ∷ path) new p q =
      let r = replaces_in ts i path new p.0 q in
      record { legal = (r.legal, subst (λ n. n < 2 ^ 64) (sym r.as_many) p.1); deep = omega (arith, r.deep); wholes = r.wholes }
  replaces (list ts) (key k ∷ path) new p q = same (list ts) p
  replaces (list ts) (inside ∷ path) new p q = same (list ts) p
  replaces (map kind ps) (key k ∷ path) new p q =
      let r = replaces_by kind [] ps k path new p.0 q in
      record { legal = (r.legal, subst (λ n. n < 2 ^ 64) (sym r.as_many) p.1); deep = omega (arith, r.deep); wholes = r.wholes }
  replaces (map kind ps) (place i ∷ path) new p q = same (map kind ps) p
  replaces (map kind ps) (inside ∷ path) new p q = same (map kind ps) p

  replaces_in : (ts : Trees) (i : ℕ) (path : List Step) (new : Leaf) → AreLegal ts → IsLeaf new → ReplaceAll ts (change_in ts i path new)
  replaces_in no_trees i path new p q = record { legal = tt; deep = omega arith; as_many = refl; wholes = λ table. refl }
  replaces_in (more_trees t ts) zero path new p q =
      let r = replaces t path new p.0 q in
      record { legal = (r.legal, p.1); deep = omega (arith, r.deep); as_many = refl; wholes = λ table. ap (λ w. with_wholes_in w ts) (r.wholes table) }
  replaces_in (more_trees t ts) (suc i) path new p q =
      let r = replaces_in ts i path new p.1 q in
      record { legal = (p.0, r.legal); deep = omega (arith, r.deep); as_many = ap suc r.as_many; wholes = λ table. r.wholes (with_wholes table t) }

  replaces_by : (kind : MapKind) (before : List (List ℕ)) (ps : Pairs) (k : List ℕ) (path : List Step) (new : Leaf) → ArePairs kind before ps → IsLeaf new → ReplacePairs kind before ps (change_by ps k path new)
  replaces_by kind before no_pairs k path new p q = record { legal = tt; deep = omega arith; as_many = refl; wholes = λ table. refl }
  replaces_by kind before (more_pairs l t ps) k path new p q =
      at_key (bytes_eq l k) (replaces t path new p.1.0 q) (replaces_by kind (l ∷ before) ps k path new p.1.1 q)
    where
      at_key :
          (b : Bool)
          → Replaces t (change t path new)
          → ReplacePairs kind (l ∷ before) ps (change_by ps k path new)
          → ReplacePairs kind before (more_pairs l t ps) (if b then more_pairs l (change t path new) ps else more_pairs l t (change_by ps k path new))
      at_key true here there = record {
        legal = (p.0, (here.legal, p.1.1));
        deep = omega (arith, here.deep);
        as_many = refl;
        wholes = λ table. ap (λ w. with_wholes_by w ps) (here.wholes table);
      }
      at_key false here there = record {
        legal = (p.0, (p.1.0, there.legal));
        deep = omega (arith, there.deep);
        as_many = ap suc there.as_many;
        wholes = λ table. there.wholes (with_wholes table t);
      }

pub change_keeps_document : (t : Tree) (path : List Step) (new : Leaf) → IsDocument t → IsLeaf new → IsDocument (change t path new)
change_keeps_document t path new p q =
    let r = replaces t path new p.0 q in
    (r.legal, omega (arith, r.deep, p.1), subst (λ w. length w < 2 ^ 64) (sym (r.wholes [])) p.2)

pub change_keeps_wholes : (t : Tree) (path : List Step) (new : Leaf) → IsLegal t → IsLeaf new → wholes_of (change t path new) ≡ wholes_of t
change_keeps_wholes t path new p q = (replaces t path new p q).wholes []
