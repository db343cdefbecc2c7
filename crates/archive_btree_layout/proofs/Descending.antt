-- What the descent finds.
use Rattle.std.proofs.Common.{◌≡◌, ℕ, zero, suc, ◌+◌, ◌-◌, ◌*◌, ◌<◌, ◌≤◌, List, [], ◌∷◌, ◌++◌, length, Option, Some, None, refl, ap, sym, subst, arith}
use Rattle.std.specs.Prelude.{slice_index_or}
use Rattle.std.specs.List.{AllPairs, Contains, find}
use Rattle.std.specs.Option.{option_or}
use Rattle.std.specs.Ordering.{is_eq}
use Rattle.std.specs.declared.cmp.Ordering.{Ordering}
use Rattle.std.specs.declared.cmp.Ordering.TheVariants.{Less, Equal, Greater}
use Rattle.std.proofs.lemmas.List.Folds.{find-append}
use Rattle.std.proofs.lemmas.List.Elements.{Contains-append_left, Contains-append_right}
use Rattle.archive_btree_layout.specs.Tree.{Tree, Branches, items, items_of}
use Rattle.archive_btree_layout.specs.Tree.Tree.{absent, leaf, inner}
use Rattle.archive_btree_layout.specs.Tree.Branches.{greater, lesser}
use Rattle.archive_btree_layout.specs.Descent.{find_in, descend, descend_in, by_order, met_in, met, met_by}
use Rattle.std.proofs.Math.Nat.{mul-le-mul_right}
use Rattle.archive_shape_layout.specs.Shape.{Shape, size_of}
use Rattle.archive_shape_layout.specs.Content.{keys_offset, values_offset, links_offset}
use Rattle.archive_btree_layout.specs.Reading.{Place, places, HasNode, HasBranches, HasChild}
use Rattle.archive_btree_layout.specs.Reading.HasNode.{has_leaf, has_inner}
use Rattle.archive_btree_layout.specs.Reading.HasBranches.{has_greater, has_lesser}
use Rattle.archive_btree_layout.specs.Reading.HasChild.{no_child, a_child}

contains_head : {A : Type 0} (e : A) (es : List A) → Contains (e ∷ es) e
contains_head e es = (0, omega arith, refl)

contains_tail : {A : Type 0} (e x : A) (es : List A) → Contains es x → Contains (e ∷ es) x
contains_tail e x es c = (suc c.0, omega (arith, c.1), c.2)

-- the query is below each
abbrev Lesses : {A : Type 0} → (A → Ordering) → List A → Type 0
Lesses order [] = Unit {0}
Lesses order (e ∷ es) = (order e ≡ Less) × Lesses order es

abbrev Asc : {A : Type 0} → (A → Ordering) → List A → Type 0
Asc order [] = Unit {0}
Asc order (e ∷ es) = ((order e ≡ Greater → ⊥) → Lesses order es) × Asc order es

abbrev IsFound : {A : Type 0} → (A → Ordering) → A → List A → Type 0
IsFound order e es = (order e ≡ Equal) × Contains es e

abbrev Later : {A : Type 0} → (A → Ordering) → A → A → Type 0
Later order a b = (order a ≡ Greater → ⊥) → order b ≡ Less

module _ {A : Type 0} (order : A → Ordering) where
  -- ---- ascent, by recursion

  lesses_of : (e : A) (es : List A) → ((k : ℕ) (d : A) → k < length es → order (slice_index_or es k d) ≡ Less) → Lesses order es
  lesses_of e [] h = tt
  lesses_of e (x ∷ xs) h = (h 0 e (omega arith), lesses_of e xs (λ k d below. h (suc k) d (omega arith)))

  pub asc_of : (es : List A) → AllPairs (Later order) es → Asc order es
  asc_of [] h = tt
  asc_of (e ∷ es) h = (
    (λ not. lesses_of e es (λ k d below. h 0 (suc k) d (omega arith) (omega arith) not)),
    asc_of es (λ i j d less below. h (suc i) (suc j) d (omega arith) (omega arith)),
  )

  lesses_right : (xs ys : List A) → Lesses order (xs ++ ys) → Lesses order ys
  lesses_right [] ys h = h
  lesses_right (x ∷ xs) ys h = lesses_right xs ys h.1

  lesses_left : (xs ys : List A) → Lesses order (xs ++ ys) → Lesses order xs
  lesses_left [] ys h = tt
  lesses_left (x ∷ xs) ys h = (h.0, lesses_left xs ys h.1)

  asc_left : (xs ys : List A) → Asc order (xs ++ ys) → Asc order xs
  asc_left [] ys h = tt
  asc_left (x ∷ xs) ys h = ((λ not. lesses_left xs ys (h.0 not)), asc_left xs ys h.1)

  asc_right : (xs ys : List A) → Asc order (xs ++ ys) → Asc order ys
  asc_right [] ys h = h
  asc_right (x ∷ xs) ys h = asc_right xs ys h.1

  none_of_lesses : (es : List A) → Lesses order es → find (λ e. is_eq (order e)) es ≡ None
  none_of_lesses [] h = refl
  none_of_lesses (e ∷ es) h = rw h.0 (none_of_lesses es h.1)

  -- before an entry that the query is not below, it is above every entry
  above_first : (x : A) (xs : List A) (e : A) (ys : List A) (o : Ordering) → order x ≡ o → ((order x ≡ Greater → ⊥) → Lesses order (xs ++ e ∷ ys)) → (order e ≡ Less → ⊥)
      → find (λ e. is_eq (order e)) xs ≡ None → find (λ e. is_eq (order e)) (x ∷ xs) ≡ None
  above_first x xs e ys Less is h not rest = absurd (not (lesses_right xs (e ∷ ys) (h (λ g. absurd cc))).0)
  above_first x xs e ys Equal is h not rest = absurd (not (lesses_right xs (e ∷ ys) (h (λ g. absurd cc))).0)
  above_first x xs e ys Greater is h not rest = rw is rest

  none_before : (xs : List A) (e : A) (ys : List A) → Asc order (xs ++ e ∷ ys) → (order e ≡ Less → ⊥) → find (λ e. is_eq (order e)) xs ≡ None
  none_before [] e ys h not = refl
  none_before (x ∷ xs) e ys h not = above_first x xs e ys (order x) refl h.0 not (none_before xs e ys h.1 not)

  -- ---- what the descent finds

  found_in_by : (e : A) (es : List A) (o : Ordering) → order e ≡ o → ((order e ≡ Greater → ⊥) → Lesses order es)
      → find_in order es ≡ find (λ e. is_eq (order e)) es → find_in order (e ∷ es) ≡ find (λ e. is_eq (order e)) (e ∷ es)
  found_in_by e es Less is h rest = rw is (sym (none_of_lesses es (h (λ g. absurd cc))))
  found_in_by e es Equal is h rest = rw is refl
  found_in_by e es Greater is h rest = rw is rest

  found_in : (es : List A) → Asc order es → find_in order es ≡ find (λ e. is_eq (order e)) es
  found_in [] h = refl
  found_in (e ∷ es) h = found_in_by e es (order e) refl h.0 (found_in es h.1)

  or_none : (o : Option A) → option_or o None ≡ o
  or_none None = refl
  or_none (Some x) = refl

  found_by : (t : Tree A) (e : A) (bs : Branches A) (o : Ordering) → order e ≡ o → Asc order (items t ++ e ∷ items_of bs)
      → descend order t ≡ find (λ e. is_eq (order e)) (items t) → descend_in order bs ≡ find (λ e. is_eq (order e)) (items_of bs)
      → descend_in order (lesser t e bs) ≡ find (λ e. is_eq (order e)) (items t ++ e ∷ items_of bs)
  found_by t e bs Less is h here rest =
      let behind = none_of_lesses (items_of bs) ((asc_right (items t) (e ∷ items_of bs) h).0 (λ g. absurd cc)) in
      rw (find-append, is, behind, or_none) here
  found_by t e bs Equal is h here rest =
      let before = none_before (items t) e (items_of bs) h (λ g. absurd cc) in
      rw (find-append, before, is) refl
  found_by t e bs Greater is h here rest =
      let before = none_before (items t) e (items_of bs) h (λ g. absurd cc) in
      rw (find-append, before, is) rest

mutual
  pub descent_finds : {A : Type 0} (order : A → Ordering) (t : Tree A) → Asc order (items t) → descend order t ≡ find (λ e. is_eq (order e)) (items t)
  descent_finds order absent h = refl
  descent_finds order (leaf es) h = found_in order es h
  descent_finds order (inner bs) h = descent_finds_in order bs h

  pub descent_finds_in : {A : Type 0} (order : A → Ordering) (bs : Branches A) → Asc order (items_of bs) → descend_in order bs ≡ find (λ e. is_eq (order e)) (items_of bs)
  descent_finds_in order (greater t) h = descent_finds order t h
  descent_finds_in order (lesser t e bs) h =
      found_by order t e bs (order e) refl h (descent_finds order t (asc_left order (items t) (e ∷ items_of bs) h))
      (descent_finds_in order bs (asc_right order (items t) (e ∷ items_of bs) h).1)

-- ---- on any tree

equal_in_by : {A : Type 0} (order : A → Ordering) (e : A) (es : List A) (x : A) (o : Ordering) → order e ≡ o → (find_in order es ≡ Some x → IsFound order x es)
    → by_order o None (Some e) (find_in order es) ≡ Some x → IsFound order x (e ∷ es)
equal_in_by order e es x Less is rest f = absurd cc
equal_in_by order e es x Equal is rest f = let same : e ≡ x = cc in subst (λ y. IsFound order y (e ∷ es)) same (is, contains_head e es)
equal_in_by order e es x Greater is rest f = let r = rest f in (r.0, contains_tail e x es r.1)

equal_in : {A : Type 0} (order : A → Ordering) (es : List A) (x : A) → find_in order es ≡ Some x → IsFound order x es
equal_in order [] x f = absurd cc
equal_in order (e ∷ es) x f = equal_in_by order e es x (order e) refl (equal_in order es x) f

equal_by : {A : Type 0} (order : A → Ordering) (xs : List A) (e : A) (ys : List A) (x : A) (o : Ordering) (a b : Option A) → order e ≡ o
    → (a ≡ Some x → IsFound order x xs) → (b ≡ Some x → IsFound order x ys) → by_order o a (Some e) b ≡ Some x → IsFound order x (xs ++ e ∷ ys)
equal_by order xs e ys x Less a b is here rest f = let r = here f in (r.0, Contains-append_left xs (e ∷ ys) x r.1)
equal_by order xs e ys x Equal a b is here rest f =
    let same : e ≡ x = cc in subst (λ y. IsFound order y (xs ++ e ∷ ys)) same (is, Contains-append_right xs (e ∷ ys) e (contains_head e ys))
equal_by order xs e ys x Greater a b is here rest f = let r = rest f in (r.0, Contains-append_right xs (e ∷ ys) x (contains_tail e x ys r.1))

mutual
  pub descent_is_equal : {A : Type 0} (order : A → Ordering) (t : Tree A) (x : A) → descend order t ≡ Some x → IsFound order x (items t)
  descent_is_equal order absent x f = absurd cc
  descent_is_equal order (leaf es) x f = equal_in order es x f
  descent_is_equal order (inner bs) x f = descent_is_equal_in order bs x f

  pub descent_is_equal_in : {A : Type 0} (order : A → Ordering) (bs : Branches A) (x : A) → descend_in order bs ≡ Some x → IsFound order x (items_of bs)
  descent_is_equal_in order (greater t) x f = descent_is_equal order t x f
  descent_is_equal_in order (lesser t e bs) x f =
      equal_by order (items t) e (items_of bs) x (order e) (descend order t) (descend_in order bs) refl (descent_is_equal order t x) (descent_is_equal_in order bs x) f

-- ---- the entries that it compares

met_in_bound : {A : Type 0} (order : A → Ordering) (es : List A) → met_in order es ≤ length es
met_in_bound order [] = omega arith
met_in_bound order (e ∷ es) =
    let h = met_in_bound order es in
    elim (order e) as (λ o. 1 + by_order o 0 0 (met_in order es) ≤ suc (length es)) [ Less ↦ omega arith | Equal ↦ omega arith | Greater ↦ omega arith ]

pub length-places : (n : ℕ) (k : Shape) (key : ℕ) (v : Shape) (value : ℕ) → length (places n k key v value) ≡ n
length-places zero k key v value = refl
length-places (suc n) k key v value = ap suc (length-places n k (key + size_of k) v (value + size_of v))

met_step_at : (x m a b : ℕ) (o : Ordering) → a ≤ x → b ≤ m + x → 1 + by_order o a 0 b ≤ suc m + x
met_step_at x m a b Less h i = omega arith
met_step_at x m a b Equal h i = omega arith
met_step_at x m a b Greater h i = omega arith

module _ (order : Place → Ordering) (bytes : List ℕ) (most : ℕ) (k v : Shape) where
  mutual
    pub met_bound : (level pos : ℕ) (t : Tree Place) → HasNode bytes most k v level pos t → met order t ≤ (33 - level) * most
    met_bound level pos t (has_leaf {len = len} a b c d e f) =
        let es = places len k (pos + keys_offset k) v (pos + values_offset most k v) in
        let h = met_in_bound order es in
        let l = length-places len k (pos + keys_offset k) v (pos + values_offset most k v) in
        let w : 1 * most ≤ (33 - level) * most = mul-le-mul_right most (omega arith) in
        rw f (omega arith)
    met_bound level pos t (has_inner {bs = bs} a b c d e) =
        let h = met_bound_in most (suc level) (pos + links_offset most k v) (pos + keys_offset k) (pos + values_offset most k v) bs d in
        let w : (1 + (33 - suc level)) * most ≤ (33 - level) * most = mul-le-mul_right most (omega arith) in
        rw e (omega arith)

    pub met_bound_in : (n level link key value : ℕ) (bs : Branches Place) → HasBranches bytes most k v n level link key value bs → met_by order bs ≤ n + (33 - level) * most
    met_bound_in n level link key value bs (has_greater {t = t} z c e) = let h = met_bound_at level link t c in rw e (omega arith)
    met_bound_in n level link key value bs (has_lesser {m = m} {t = t} {cs = cs} z c r e) =
        let h = met_bound_at level link t c in
        let i = met_bound_in m level (link + 4) (key + size_of k) (value + size_of v) cs r in
        rw (e, z) (met_step_at ((33 - level) * most) m (met order t) (met_by order cs) (order (record { key = key; value = value })) h i)

    pub met_bound_at : (level link : ℕ) (t : Tree Place) → HasChild bytes most k v level link t → met order t ≤ (33 - level) * most
    met_bound_at level link t (no_child a b) = rw b (omega arith)
    met_bound_at level link t (a_child {pos = pos} a b c) = met_bound level pos t c
