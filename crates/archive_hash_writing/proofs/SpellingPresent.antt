-- Items of which no two have the same place are all in the table, each at its place.
use Rattle.std.proofs.Common.{◌≡◌, ◌≢◌, ℕ, zero, suc, ◌+◌, ◌<◌, ◌≤◌, Bool, true, false, cond, List, [], ◌∷◌, length, map, get_or, eqb, refl, sym, ap, subst, ◌∙◌, arith, inl, inr, eqb-true, eq-eqb, Option, Some, None}
use Rattle.std.specs.Prelude.{⊤}
use Rattle.std.specs.List.{range_with_len, cons_option}
use Rattle.std.specs.List.Sorted.{IsPermutation}
use Rattle.std.proofs.lemmas.List.Sorted.{IsPermutation-refl, IsPermutation-trans, IsPermutation-cons, IsPermutation-middle, length_permutation}
use Rattle.std.proofs.lemmas.Bool.{cases_Bool, cases_eq}
use Rattle.archive_shape_layout.specs.Shape.{Shape}
use Rattle.archive_shape_layout.specs.Content.{Names}
use Rattle.archive_shape_canonical.specs.Settled.{Fit}
use Rattle.archive_shape_canonical.specs.FirstFit.{item_at, placed, present}
use Rattle.archive_forms_laws.specs.Spelling.{Spelling}
use Rattle.archive_forms_laws.specs.Spells.{SpellsAt, EachSpells}

-- places of which no two are one
abbrev pub AreApart : List ℕ → Type 0
AreApart qs = (i j : ℕ) → i < j → j < length qs → get_or qs i 0 ≢ get_or qs j 0

abbrev pub AreBelow : ℕ → List ℕ → Type 0
AreBelow cap qs = (j : ℕ) → j < length qs → get_or qs j 0 < cap

module _ {A : Type 0} where
  -- there is no item at a place that no item has
  none_there : (xs : List A) (qs : List ℕ) (p : ℕ) → ((j : ℕ) → j < length qs → get_or qs j 0 ≢ p) → item_at xs qs p ≡ None
  none_there [] qs p h = refl
  none_there (x ∷ xs) [] p h = refl
  none_there (x ∷ xs) (q ∷ qs) p h = elim (cases_Bool (eqb q p)) [
    | inl y ↦ absurd (h 0 (omega arith) (eqb-true q p y))
    | inr n ↦ ap (λ b. cond b (Some x) (item_at xs qs p)) n ∙ none_there xs qs p (λ j l. h (suc j) (omega arith))
  ]

  module _ (x : A) (xs : List A) (q : ℕ) (qs : List ℕ) where
    abbrev with_first : ℕ → Option A
    with_first = item_at (x ∷ xs) (q ∷ qs)

    at_other : (p : ℕ) → q ≢ p → with_first p ≡ item_at xs qs p
    at_other p n = elim (cases_Bool (eqb q p)) [
      | inl y ↦ absurd (n (eqb-true q p y))
      | inr d ↦ ap (λ b. cond b (Some x) (item_at xs qs p)) d
    ]

    -- after its place
    same_behind : (a n : ℕ) → q < a → present (map with_first (range_with_len a n)) ≡ present (map (item_at xs qs) (range_with_len a n))
    same_behind a zero l = refl
    same_behind a (suc n) l =
        ap (λ o. cons_option o (present (map with_first (range_with_len (a + 1) n)))) (at_other a (λ e. omega arith))
        ∙ ap (λ ys. cons_option (item_at xs qs a) ys) (same_behind (a + 1) n (omega arith))

    -- the first item comes before the others, and moves to its place
    moved_one : (a n : ℕ) → a ≤ q → q < a + n → item_at xs qs q ≡ None
        → IsPermutation (x ∷ present (map (item_at xs qs) (range_with_len a n))) (present (map with_first (range_with_len a n)))
    moved_one a zero l h none = absurd (omega arith)
    moved_one a (suc n) l h none = elim (cases_eq q a) [
      | inl e ↦
          let others = present (map (item_at xs qs) (range_with_len (a + 1) n)) in
          let gone : item_at xs qs a ≡ None = ap (item_at xs qs) (sym e) ∙ none in
          let here : with_first a ≡ Some x = ap (λ b. cond b (Some x) (item_at xs qs a)) (eq-eqb q a e) in
          subst (IsPermutation (x ∷ cons_option (item_at xs qs a) others))
          (ap (λ o. x ∷ cons_option o others) gone ∙ ap (λ ys. x ∷ ys) (sym (same_behind (a + 1) n (omega arith)))
          ∙ ap (λ o. cons_option o (present (map with_first (range_with_len (a + 1) n)))) (sym here))
          (IsPermutation-refl (x ∷ cons_option (item_at xs qs a) others))
      | inr d ↦
          subst (λ o. IsPermutation (x ∷ cons_option (item_at xs qs a) (present (map (item_at xs qs) (range_with_len (a + 1) n)))) (cons_option o (present (map with_first (range_with_len (a + 1) n))))) (sym (at_other a d))
          (more (item_at xs qs a) _ _ (moved_one (a + 1) n (omega arith) (omega arith) none))
    ]
      where
        more : (o : Option A) (us vs : List A) → IsPermutation (x ∷ us) vs → IsPermutation (x ∷ cons_option o us) (cons_option o vs)
        more None us vs h = h
        more (Some z) us vs h = IsPermutation-trans (x ∷ z ∷ us) (z ∷ x ∷ us) (z ∷ vs) (IsPermutation-middle (x ∷ []) z us) (IsPermutation-cons z (x ∷ us) vs h)

  none_present : (qs ps : List ℕ) → present (map (item_at {C = A} [] qs) ps) ≡ []
  none_present qs [] = refl
  none_present qs (p ∷ ps) = none_present qs ps

  -- by ascending place they are in another order
  pub placed_moved : (cap : ℕ) (xs : List A) (qs : List ℕ) → length qs ≡ length xs → AreBelow cap qs → AreApart qs → IsPermutation xs (present (placed cap qs xs))
  placed_moved cap [] qs e low apart = subst (IsPermutation []) (sym (none_present qs (range_with_len 0 cap))) (IsPermutation-refl [])
  placed_moved cap (x ∷ xs) [] e low apart = absurd (omega arith)
  placed_moved cap (x ∷ xs) (q ∷ qs) e low apart =
      IsPermutation-trans (x ∷ xs) (x ∷ present (placed cap qs xs)) (present (placed cap (q ∷ qs) (x ∷ xs)))
      (IsPermutation-cons x xs (present (placed cap qs xs)) (placed_moved cap xs qs (omega arith) (λ j l. low (suc j) (omega arith)) (λ i j l h. apart (suc i) (suc j) (omega arith) (omega arith))))
      (moved_one x xs q qs 0 cap (omega arith) (let first = low 0 (omega arith) in omega arith) (none_there xs qs q (λ j l e. apart 0 (suc j) (omega arith) (omega arith) (sym e))))

  -- the number of items in the table is the number of places that items have
  pub count_present : (cap : ℕ) (xs : List A) (qs : List ℕ) → length qs ≡ length xs → AreBelow cap qs → AreApart qs → length (present (placed cap qs xs)) ≡ length xs
  count_present cap xs qs e low apart = length_permutation xs (present (placed cap qs xs)) (placed_moved cap xs qs e low apart)

  -- each is at its place
  pub item_own : (xs : List A) (qs : List ℕ) (i : ℕ) (d : A) → length qs ≡ length xs → AreApart qs → i < length xs → item_at xs qs (get_or qs i 0) ≡ Some (get_or xs i d)
  item_own [] qs i d e apart l = absurd (omega arith)
  item_own (x ∷ xs) [] i d e apart l = absurd (omega arith)
  item_own (x ∷ xs) (q ∷ qs) zero d e apart l = ap (λ b. cond b (Some x) (item_at xs qs q)) (eq-eqb q q refl)
  item_own (x ∷ xs) (q ∷ qs) (suc i) d e apart l =
      at_other x xs q qs (get_or qs i 0) (apart 0 (suc i) (omega arith) (omega arith))
      ∙ item_own xs qs i d (omega arith) (λ j k m h. apart (suc j) (suc k) (omega arith) (omega arith)) (omega arith)

-- ---- what holds of each item holds of the items in the table

module _ {A R : Type 0} (fit : Fit) (s : Shape) (knows : Names → Type 0) (w : Spelling A R) where
  abbrev SpellsIf : Option A → Type 0
  SpellsIf None = ⊤
  SpellsIf (Some x) = SpellsAt fit s knows w x

  spells_there : (xs : List A) (qs : List ℕ) (p : ℕ) → EachSpells fit s knows w xs → SpellsIf (item_at xs qs p)
  spells_there [] qs p each = tt
  spells_there (x ∷ xs) [] p each = tt
  spells_there (x ∷ xs) (q ∷ qs) p each = tested (eqb q p) each.0 (spells_there xs qs p each.1)
    where
      tested : (b : Bool) → SpellsAt fit s knows w x → SpellsIf (item_at xs qs p) → SpellsIf (cond b (Some x) (item_at xs qs p))
      tested true here later = here
      tested false here later = later

  each_present : (xs : List A) (qs ps : List ℕ) → EachSpells fit s knows w xs → EachSpells fit s knows w (present (map (item_at xs qs) ps))
  each_present xs qs [] each = tt
  each_present xs qs (p ∷ ps) each = more (item_at xs qs p) (spells_there xs qs p each) (each_present xs qs ps each)
    where
      more : (o : Option A) → SpellsIf o → EachSpells fit s knows w (present (map (item_at xs qs) ps)) → EachSpells fit s knows w (cons_option o (present (map (item_at xs qs) ps)))
      more None h k = k
      more (Some x) h k = (h, k)

  pub each_placed : (cap : ℕ) (xs : List A) (qs : List ℕ) → EachSpells fit s knows w xs → EachSpells fit s knows w (present (placed cap qs xs))
  each_placed cap xs qs each = each_present xs qs (range_with_len 0 cap) each
