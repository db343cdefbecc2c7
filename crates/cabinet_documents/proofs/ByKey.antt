-- The pairs of a map by their keys: distinct keys, a change at a key, and pairs in the order of their keys.
use Rattle.std.proofs.Common.{◌≡◌, ◌≢◌, ℕ, Bool, true, false, if◌then◌else◌, cond, List, [], ◌∷◌, Option, Some, None, refl, sym, ap, ap₂, subst, ◌∙◌, inl, inr}
use Rattle.std.specs.Prelude.{⊤}
use Rattle.std.specs.Str.{bytes_eq}
use Rattle.std.specs.Ordering.{is_lt}
use Rattle.std.specs.Cmp.Lexicographic.{nat_list_cmp_total}
use Rattle.std.proofs.lemmas.Bool.{false_from_ne_true}
use Rattle.std.proofs.lemmas.Cmp.{tied_itself}
use Rattle.std.proofs.lemmas.Slice.Eq.{bytes_eq-Decides}
use Rattle.cabinet_text_grammar.specs.Keys.{MapKind, ordered, hashed, kept}
use Rattle.cabinet_text_grammar.specs.Tree.{Leaf, Tree, Pairs, no_pairs, more_pairs, IsLegal, ArePairs}
use Rattle.cabinet_text_grammar.specs.Path.{Step, node_at, node_by, enters, enters_by}
use Rattle.cabinet_text_grammar.specs.Answering.{change, change_by}
use Rattle.cabinet_text_grammar.specs.PairsLaws.{HasPair}
use Rattle.cabinet_text_grammar.proofs.DistinctKeys.{later_differ}
use Rattle.cabinet_documents.specs.Order.{is_below, inserted, arranged}

-- ---- at a key, and past it

module _ (n : List ℕ) (t : Tree) (ps : Pairs) (a : List ℕ) (path : List Step) where
  pub change_here : (l : Leaf) → bytes_eq n a ≡ true → change_by (more_pairs n t ps) a path l ≡ more_pairs n (change t path l) ps
  change_here l e = ap (λ x. if x then more_pairs n (change t path l) ps else more_pairs n t (change_by ps a path l)) e

  pub change_past : (l : Leaf) → bytes_eq n a ≡ false → change_by (more_pairs n t ps) a path l ≡ more_pairs n t (change_by ps a path l)
  change_past l e = ap (λ x. if x then more_pairs n (change t path l) ps else more_pairs n t (change_by ps a path l)) e

  pub node_here : bytes_eq n a ≡ true → node_by (more_pairs n t ps) a path ≡ node_at t path
  node_here e = ap (λ x. if x then node_at t path else node_by ps a path) e

  pub node_past : bytes_eq n a ≡ false → node_by (more_pairs n t ps) a path ≡ node_by ps a path
  node_past e = ap (λ x. if x then node_at t path else node_by ps a path) e

  pub enters_here : bytes_eq n a ≡ true → enters_by (more_pairs n t ps) a path ≡ enters t path
  enters_here e = ap (λ x. if x then enters t path else enters_by ps a path) e

  pub enters_past : bytes_eq n a ≡ false → enters_by (more_pairs n t ps) a path ≡ enters_by ps a path
  enters_past e = ap (λ x. if x then enters t path else enters_by ps a path) e

pub keys_same : (k l : List ℕ) → k ≡ l → bytes_eq k l ≡ true
keys_same k l e = (bytes_eq-Decides k l).1 e

pub keys_differ : (k l : List ℕ) → k ≢ l → bytes_eq k l ≡ false
keys_differ k l h = false_from_ne_true (bytes_eq k l) (λ e. h ((bytes_eq-Decides k l).0 e))

-- ---- distinct keys

-- a key is none of some, and no two keys are equal
abbrev pub IsNewKey : List ℕ → List (List ℕ) → Type 0
IsNewKey k [] = ⊤
IsNewKey k (l ∷ ks) = (l ≢ k) × IsNewKey k ks

abbrev pub AreKeysDistinct : List (List ℕ) → Type 0
AreKeysDistinct [] = ⊤
AreKeysDistinct (k ∷ ks) = IsNewKey k ks × AreKeysDistinct ks

abbrev pub pair_keys : Pairs → List (List ℕ)
pair_keys no_pairs = []
pair_keys (more_pairs k t ps) = k ∷ pair_keys ps

-- no pair has the key
abbrev pub Lacks : List ℕ → Pairs → Type 0
Lacks k ps = IsNewKey k (pair_keys ps)

-- the keys are distinct, and the nodes are legal
abbrev pub AreDistinct : Pairs → Type 0
AreDistinct no_pairs = ⊤
AreDistinct (more_pairs k t ps) = Lacks k ps × IsLegal t × AreDistinct ps

pub keys_distinct : (ps : Pairs) → AreDistinct ps → AreKeysDistinct (pair_keys ps)
keys_distinct no_pairs h = tt
keys_distinct (more_pairs k t ps) h = (h.0, keys_distinct ps h.2)

pub distinct : (kind : MapKind) (keys : List (List ℕ)) (ps : Pairs) → ArePairs kind keys ps → AreDistinct ps
distinct kind keys no_pairs p = tt
distinct kind keys (more_pairs k t ps) p = (all_new ps (later_differ kind k keys ps p.1.1), p.1.0, distinct kind (k ∷ keys) ps p.1.1)
  where
    all_new : (qs : Pairs) → ((l : List ℕ) (u : Tree) → HasPair l u qs → l ≢ k) → Lacks k qs
    all_new no_pairs differ = tt
    all_new (more_pairs l u qs) differ = (differ l u (inl (refl, refl)), all_new qs (λ m v later. differ m v (inr later)))

-- ---- pairs in the order of their keys

lacks_inserted : (k l : List ℕ) (t : Tree) (ps : Pairs) → Lacks k (inserted l t ps) → Lacks k (more_pairs l t ps)
lacks_inserted k l t no_pairs h = h
lacks_inserted k l t (more_pairs m u ps) h = by_case (is_below m l) h (lacks_inserted k l t ps)
  where
    by_case : (b : Bool) → Lacks k (cond b (more_pairs m u (inserted l t ps)) (more_pairs l t (more_pairs m u ps))) → (Lacks k (inserted l t ps) → Lacks k (more_pairs l t ps)) → Lacks k (more_pairs l t (more_pairs m u ps))
    by_case true g on = let r = on g.1 in (r.0, (g.0, r.1))
    by_case false g on = g

distinct_inserted : (l : List ℕ) (t : Tree) (ps : Pairs) → AreDistinct (inserted l t ps) → AreDistinct (more_pairs l t ps)
distinct_inserted l t no_pairs h = h
distinct_inserted l t (more_pairs m u ps) h = by_case (is_below m l) h (distinct_inserted l t ps)
  where
    by_case : (b : Bool) → AreDistinct (cond b (more_pairs m u (inserted l t ps)) (more_pairs l t (more_pairs m u ps))) → (AreDistinct (inserted l t ps) → AreDistinct (more_pairs l t ps)) → AreDistinct (more_pairs l t (more_pairs m u ps))
    by_case true g on =
        let r = on g.2 in
        let s = lacks_inserted m l t ps g.0 in
        (((λ e. s.0 (sym e)), r.0), r.1, (s.1, g.1, r.2))
    by_case false g on = g

lacks_arranged : (k : List ℕ) (ps : Pairs) → Lacks k (arranged ps) → Lacks k ps
lacks_arranged k no_pairs h = tt
lacks_arranged k (more_pairs l t ps) h = let r = lacks_inserted k l t (arranged ps) h in (r.0, lacks_arranged k ps r.1)

distinct_arranged : (ps : Pairs) → AreDistinct (arranged ps) → AreDistinct ps
distinct_arranged no_pairs h = tt
distinct_arranged (more_pairs l t ps) h = let r = distinct_inserted l t (arranged ps) h in (lacks_arranged l ps r.0, r.1, distinct_arranged ps r.2)

-- the node at a key

either_first : {A : Type 0} (a b : Bool) (x y z : A) → (a ≡ true → b ≡ true → ⊥) → (if b then y else (if a then x else z)) ≡ (if a then x else (if b then y else z))
either_first true true x y z h = absurd (h refl refl)
either_first true false x y z h = refl
either_first false true x y z h = refl
either_first false false x y z h = refl

below_differs : (k l : List ℕ) → is_below k l ≡ true → k ≢ l
below_differs k l below e =
    let tied = ap is_lt (tied_itself nat_list_cmp_total l) in
    let self : is_below l l ≡ true = subst (λ x. is_below x l ≡ true) e below in
    let both : true ≡ false = sym self ∙ tied in
    cc

module _ (a : List ℕ) (path : List Step) where
  -- by a key one finds the same where a pair is at its place and where it is the first
  node_inserted : (l : List ℕ) (t : Tree) (ps : Pairs) → node_by (inserted l t ps) a path ≡ node_by (more_pairs l t ps) a path
  node_inserted l t no_pairs = refl
  node_inserted l t (more_pairs m u ps) = by_case (is_below m l) refl (node_inserted l t ps)
    where
      by_case : (b : Bool) → is_below m l ≡ b → node_by (inserted l t ps) a path ≡ node_by (more_pairs l t ps) a path
          → node_by (cond b (more_pairs m u (inserted l t ps)) (more_pairs l t (more_pairs m u ps))) a path ≡ node_by (more_pairs l t (more_pairs m u ps)) a path
      by_case true below e =
          ap (λ x. if bytes_eq m a then node_at u path else x) e
          ∙ either_first (bytes_eq l a) (bytes_eq m a) (node_at t path) (node_at u path) (node_by ps a path)
          (λ x y. below_differs m l below ((bytes_eq-Decides m a).0 y ∙ sym ((bytes_eq-Decides l a).0 x)))
      by_case false below e = refl

  node_arranged : (ps : Pairs) → node_by (arranged ps) a path ≡ node_by ps a path
  node_arranged no_pairs = refl
  node_arranged (more_pairs l t ps) = node_inserted l t (arranged ps) ∙ ap (λ x. if bytes_eq l a then node_at t path else x) (node_arranged ps)

-- a change at a key is one of each node by its key

abbrev mapped : (List ℕ → Tree → Tree) → Pairs → Pairs
mapped f no_pairs = no_pairs
mapped f (more_pairs k t ps) = more_pairs k (f k t) (mapped f ps)

mapped_inserted : (f : List ℕ → Tree → Tree) (l : List ℕ) (t : Tree) (ps : Pairs) → mapped f (inserted l t ps) ≡ inserted l (f l t) (mapped f ps)
mapped_inserted f l t no_pairs = refl
mapped_inserted f l t (more_pairs m u ps) = by_case (is_below m l) (mapped_inserted f l t ps)
  where
    by_case : (b : Bool) → mapped f (inserted l t ps) ≡ inserted l (f l t) (mapped f ps)
        → mapped f (cond b (more_pairs m u (inserted l t ps)) (more_pairs l t (more_pairs m u ps)))
        ≡ cond b (more_pairs m (f m u) (inserted l (f l t) (mapped f ps))) (more_pairs l (f l t) (more_pairs m (f m u) (mapped f ps)))
    by_case true e = ap (more_pairs m (f m u)) e
    by_case false e = refl

mapped_arranged : (f : List ℕ → Tree → Tree) (ps : Pairs) → mapped f (arranged ps) ≡ arranged (mapped f ps)
mapped_arranged f no_pairs = refl
mapped_arranged f (more_pairs l t ps) = mapped_inserted f l t (arranged ps) ∙ ap (inserted l (f l t)) (mapped_arranged f ps)

module _ (a : List ℕ) (path : List Step) (new : Leaf) where
  abbrev changed : List ℕ → Tree → Tree
  changed k t = if bytes_eq k a then change t path new else t

  lacking_stays : (ps : Pairs) → Lacks a ps → mapped changed ps ≡ ps
  lacking_stays no_pairs h = refl
  lacking_stays (more_pairs k t ps) h = ap₂ (more_pairs k) (ap (λ b. if b then change t path new else t) (keys_differ k a h.0)) (lacking_stays ps h.1)

  change_is_mapped : (ps : Pairs) → AreDistinct ps → change_by ps a path new ≡ mapped changed ps
  change_is_mapped no_pairs h = refl
  change_is_mapped (more_pairs k t ps) h = by_case (bytes_eq k a) refl (change_is_mapped ps h.2)
    where
      by_case : (b : Bool) → bytes_eq k a ≡ b → change_by ps a path new ≡ mapped changed ps → change_by (more_pairs k t ps) a path new ≡ mapped changed (more_pairs k t ps)
      by_case true e on =
          let alone : Lacks a ps = subst (λ x. Lacks x ps) ((bytes_eq-Decides k a).0 e) h.0 in
          change_here k t ps a path new e ∙ ap₂ (more_pairs k) (sym (ap (λ b. if b then change t path new else t) e)) (sym (lacking_stays ps alone))
      by_case false e on = change_past k t ps a path new e ∙ ap₂ (more_pairs k) (sym (ap (λ b. if b then change t path new else t) e)) on

-- ---- the order in which a map has its pairs

abbrev pub in_order : MapKind → Pairs → Pairs
in_order ordered ps = ps
in_order hashed ps = arranged ps
in_order kept ps = ps

pub distinct_in_order : (kind : MapKind) (ps : Pairs) → AreDistinct (in_order kind ps) → AreDistinct ps
distinct_in_order ordered ps h = h
distinct_in_order hashed ps h = distinct_arranged ps h
distinct_in_order kept ps h = h

pub node_in_order : (kind : MapKind) (a : List ℕ) (path : List Step) (ps : Pairs) → node_by (in_order kind ps) a path ≡ node_by ps a path
node_in_order ordered a path ps = refl
node_in_order hashed a path ps = node_arranged a path ps
node_in_order kept a path ps = refl

-- a path by a key leads into a whole where it does from the key's node on
abbrev pub enters_from : Option Tree → List Step → Bool
enters_from None path = false
enters_from (Some t) path = enters t path

pub enters_by_node : (a : List ℕ) (path : List Step) (ps : Pairs) → enters_by ps a path ≡ enters_from (node_by ps a []) path
enters_by_node a path no_pairs = refl
enters_by_node a path (more_pairs n t ps) = by (bytes_eq n a) refl (enters_by_node a path ps)
  where
    by : (b : Bool) → bytes_eq n a ≡ b → enters_by ps a path ≡ enters_from (node_by ps a []) path → enters_by (more_pairs n t ps) a path ≡ enters_from (node_by (more_pairs n t ps) a []) path
    by true e later = enters_here n t ps a path e ∙ ap (λ o. enters_from o path) (sym (node_here n t ps a [] e))
    by false e later = enters_past n t ps a path e ∙ later ∙ ap (λ o. enters_from o path) (sym (node_past n t ps a [] e))

pub enters_in_order : (kind : MapKind) (a : List ℕ) (path : List Step) (ps : Pairs) → enters_by (in_order kind ps) a path ≡ enters_by ps a path
enters_in_order kind a path ps = enters_by_node a path (in_order kind ps) ∙ ap (λ o. enters_from o path) (node_in_order kind a [] ps) ∙ sym (enters_by_node a path ps)

pub change_in_order : (kind : MapKind) (a : List ℕ) (path : List Step) (new : Leaf) (ps : Pairs) → AreDistinct (in_order kind ps)
    → change_by (in_order kind ps) a path new ≡ in_order kind (change_by ps a path new)
change_in_order ordered a path new ps h = refl
change_in_order hashed a path new ps h =
    change_is_mapped a path new (arranged ps) h ∙ mapped_arranged (changed a path new) ps ∙ ap arranged (sym (change_is_mapped a path new ps (distinct_arranged ps h)))
change_in_order kept a path new ps h = refl
