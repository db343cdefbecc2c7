-- `same` tells equal trees.
use Rattle.std.proofs.Common.{◌≡◌, ◌≢◌, true, false, sym, ap, ◌∙◌, refl, ◌⊎◌, inl, inr}
use Rattle.std.specs.Bool.{Decides}
use Rattle.std.proofs.lemmas.Bool.{and_parts, and_from, false≢true, cases_Bool}
use Rattle.std.proofs.lemmas.Bool.Decides.{Decides-int_eq}
use Rattle.std.proofs.lemmas.Slice.Eq.{bytes_eq-Decides}
use Rattle.cabinet_text_grammar.specs.Keys.{MapKind, ordered, hashed, kept}
use Rattle.cabinet_text_grammar.specs.Tree.{Leaf, truth, number, text, Tree, leaf, shared, nothing, just, list, map, whole, Trees, no_trees, more_trees, Pairs, no_pairs, more_pairs}
use Rattle.cabinet_text_grammar.specs.Wholes.{same_leaf, same_kind, same, same_trees, same_pairs}

-- what is not so
wrong : {P : Type 0} → false ≡ true → P
wrong h = absurd (false≢true h)

leaf_itself : (l : Leaf) → same_leaf l l ≡ true
leaf_itself (truth true) = refl
leaf_itself (truth false) = refl
leaf_itself (number n) = (Decides-int_eq n n).1 refl
leaf_itself (text t) = (bytes_eq-Decides t t).1 refl

equal_leaves : (l m : Leaf) → same_leaf l m ≡ true → l ≡ m
equal_leaves (truth true) (truth true) h = refl
equal_leaves (truth true) (truth false) h = wrong h
equal_leaves (truth false) (truth true) h = wrong h
equal_leaves (truth false) (truth false) h = refl
equal_leaves (truth b) (number n) h = wrong h
equal_leaves (truth b) (text t) h = wrong h
equal_leaves (number m) (truth c) h = wrong h
equal_leaves (number m) (number n) h = ap number ((Decides-int_eq m n).0 h)
equal_leaves (number m) (text t) h = wrong h
equal_leaves (text t) (truth c) h = wrong h
equal_leaves (text t) (number n) h = wrong h
equal_leaves (text t) (text u) h = ap text ((bytes_eq-Decides t u).0 h)

kind_itself : (kind : MapKind) → same_kind kind kind ≡ true
kind_itself ordered = refl
kind_itself hashed = refl
kind_itself kept = refl

equal_kinds : (kind other : MapKind) → same_kind kind other ≡ true → kind ≡ other
equal_kinds ordered ordered h = refl
equal_kinds hashed hashed h = refl
equal_kinds kept kept h = refl
equal_kinds ordered hashed h = wrong h
equal_kinds ordered kept h = wrong h
equal_kinds hashed ordered h = wrong h
equal_kinds hashed kept h = wrong h
equal_kinds kept ordered h = wrong h
equal_kinds kept hashed h = wrong h

mutual
  pub itself : (t : Tree) → same t t ≡ true
  itself (leaf l) = leaf_itself l
  itself (shared t) = (bytes_eq-Decides t t).1 refl
  itself nothing = refl
  itself (just t) = itself t
  itself (list ts) = trees_themselves ts
  itself (map kind ps) = and_from _ _ (kind_itself kind) (pairs_themselves ps)
  itself (whole t) = itself t

  trees_themselves : (ts : Trees) → same_trees ts ts ≡ true
  trees_themselves no_trees = refl
  trees_themselves (more_trees t ts) = and_from _ _ (itself t) (trees_themselves ts)

  pairs_themselves : (ps : Pairs) → same_pairs ps ps ≡ true
  pairs_themselves no_pairs = refl
  pairs_themselves (more_pairs k t ps) = and_from _ _ ((bytes_eq-Decides k k).1 refl) (and_from _ _ (itself t) (pairs_themselves ps))

mutual
  pub equal : (s t : Tree) → same s t ≡ true → s ≡ t
  equal (leaf l) (leaf m) h = ap leaf (equal_leaves l m h)
  equal (leaf l) (shared u) h = wrong h
  equal (leaf l) nothing h = wrong h
  equal (leaf l) (just u) h = wrong h
  equal (leaf l) (list us) h = wrong h
  equal (leaf l) (map other qs) h = wrong h
  equal (leaf l) (whole u) h = wrong h
  equal (shared t) (leaf m) h = wrong h
  equal (shared t) (shared u) h = ap shared ((bytes_eq-Decides t u).0 h)
  equal (shared t) nothing h = wrong h
  equal (shared t) (just u) h = wrong h
  equal (shared t) (list us) h = wrong h
  equal (shared t) (map other qs) h = wrong h
  equal (shared t) (whole u) h = wrong h
  equal nothing (leaf m) h = wrong h
  equal nothing (shared u) h = wrong h
  equal nothing nothing h = refl
  equal nothing (just u) h = wrong h
  equal nothing (list us) h = wrong h
  equal nothing (map other qs) h = wrong h
  equal nothing (whole u) h = wrong h
  equal (just t) (leaf m) h = wrong h
  equal (just t) (shared u) h = wrong h
  equal (just t) nothing h = wrong h
  equal (just t) (just u) h = ap just (equal t u h)
  equal (just t) (list us) h = wrong h
  equal (just t) (map other qs) h = wrong h
  equal (just t) (whole u) h = wrong h
  equal (list ts) (leaf m) h = wrong h
  equal (list ts) (shared u) h = wrong h
  equal (list ts) nothing h = wrong h
  equal (list ts) (just u) h = wrong h
  equal (list ts) (list us) h = ap list (equal_trees ts us h)
  equal (list ts) (map other qs) h = wrong h
  equal (list ts) (whole u) h = wrong h
  equal (map kind ps) (leaf m) h = wrong h
  equal (map kind ps) (shared u) h = wrong h
  equal (map kind ps) nothing h = wrong h
  equal (map kind ps) (just u) h = wrong h
  equal (map kind ps) (list us) h = wrong h
  equal (map kind ps) (map other qs) h =
      let parts = and_parts _ _ h in
      ap (λ k. map k ps) (equal_kinds kind other parts.0) ∙ ap (map other) (equal_pairs ps qs parts.1)
  equal (map kind ps) (whole u) h = wrong h
  equal (whole t) (leaf m) h = wrong h
  equal (whole t) (shared u) h = wrong h
  equal (whole t) nothing h = wrong h
  equal (whole t) (just u) h = wrong h
  equal (whole t) (list us) h = wrong h
  equal (whole t) (map other qs) h = wrong h
  equal (whole t) (whole u) h = ap whole (equal t u h)

  equal_trees : (ts us : Trees) → same_trees ts us ≡ true → ts ≡ us
  equal_trees no_trees no_trees h = refl
  equal_trees no_trees (more_trees u us) h = wrong h
  equal_trees (more_trees t ts) no_trees h = wrong h
  equal_trees (more_trees t ts) (more_trees u us) h =
      let parts = and_parts _ _ h in
      ap (λ s. more_trees s ts) (equal t u parts.0) ∙ ap (more_trees u) (equal_trees ts us parts.1)

  equal_pairs : (ps qs : Pairs) → same_pairs ps qs ≡ true → ps ≡ qs
  equal_pairs no_pairs no_pairs h = refl
  equal_pairs no_pairs (more_pairs l u qs) h = wrong h
  equal_pairs (more_pairs k t ps) no_pairs h = wrong h
  equal_pairs (more_pairs k t ps) (more_pairs l u qs) h =
      let parts = and_parts _ _ h in
      let more = and_parts _ _ parts.1 in
      ap (λ j. more_pairs j t ps) ((bytes_eq-Decides k l).0 parts.0) ∙ ap (λ s. more_pairs l s ps) (equal t u more.0) ∙ ap (more_pairs l u) (equal_pairs ps qs more.1)

pub same-Decides : (s t : Tree) → Decides (same s t) (s ≡ t)
same-Decides s t = (equal s t, λ h. rw h (itself t))

-- two trees are equal, or `same` tells that they are not
pub same_tells : (s t : Tree) → ((same s t ≡ true) × (s ≡ t)) ⊎ ((same s t ≡ false) × (s ≢ t))
same_tells s t =
    elim (cases_Bool (same s t)) [
      | inl is ↦ inl (is, equal s t is)
      | inr differs ↦ inr (differs, λ h. false≢true (sym differs ∙ rw h (itself t)))
    ]
