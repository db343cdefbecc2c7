-- Look-ups in lists of entries, by tests of their keys.
use Rattle.std.specs.Global.{Global}
use Rattle.std.specs.List.{find, IsDistinct, AllByRecursion}
use Rattle.std.specs.Map.{keys_of, lookup, set_value}
use Rattle.std.specs.Option.{option_map}
use Rattle.std.specs.Ordering.{is_eq, nat_cmp}
use Rattle.std.specs.Cmp.{unsigned_tied}
use Rattle.std.specs.Cmp.Lexicographic.{slice_cmp, nat_list_eq_equiv}
use Rattle.std.specs.Prelude.{String, count_by}
use Rattle.std.specs.String.{string_bytes, string_eq}
use Rattle.std.proofs.Common.{◌≡◌, ◌∙◌, ℕ, ◌+◌, ◌≤◌, ◌==◌, Bool, true, false, cond, List, [], ◌∷◌, Option, Some, None, inl, inr, refl, ap, sym, subst, arith, eqb-true, eq-eqb}
use Rattle.std.proofs.lemmas.Bool.{cases_Bool}
use Rattle.std.proofs.lemmas.List.Sums.{sum_by-cons}
use Rattle.std.proofs.lemmas.Map.Text.{is_eq-slice_cmp}
use Rattle.std.proofs.lemmas.Slice.Eq.{bytes_eq-Decides}
use Rattle.archive_hash.specs.Edited.{HasOnce}
use Rattle.archive_example_stock.specs.Answers.{count_with, price_with}
use Rattle.archive_example_stock.specs.Edited.{is_shelf, with_count, count_after}

-- ---- the value of the first entry whose key passes

module _ {A B : Type 0} where
  abbrev pub value_of : (A → Bool) → List (A × B) → Option B
  value_of test es = option_map (λ e. e.1) (find (λ e. test e.0) es)

  pub is_lookup : (test : A → Bool) (es : List (A × B)) → value_of test es ≡ lookup test es
  is_lookup test [] = refl
  is_lookup test (e ∷ es) = elim (cases_Bool (test e.0)) [
    | inl y ↦ ap (λ b. option_map (λ x. x.1) (cond b (Some e) (find (λ x. test x.0) es))) y ∙ sym (ap (λ b. cond b (Some e.1) (lookup test es)) y)
    | inr n ↦ ap (λ b. option_map (λ x. x.1) (cond b (Some e) (find (λ x. test x.0) es))) n ∙ is_lookup test es ∙ sym (ap (λ b. cond b (Some e.1) (lookup test es)) n)
  ]

  -- a test that says the same finds the same
  pub same_test : (test other : A → Bool) → ((x : A) → test x ≡ other x) → (es : List (A × B)) → value_of test es ≡ value_of other es
  same_test test other same [] = refl
  same_test test other same (e ∷ es) = elim (cases_Bool (test e.0)) [
    | inl y ↦ ap (λ b. option_map (λ x. x.1) (cond b (Some e) (find (λ x. test x.0) es))) y ∙ sym (ap (λ b. option_map (λ x. x.1) (cond b (Some e) (find (λ x. other x.0) es))) (sym (same e.0) ∙ y))
    | inr n ↦
        ap (λ b. option_map (λ x. x.1) (cond b (Some e) (find (λ x. test x.0) es))) n ∙ same_test test other same es
        ∙ sym (ap (λ b. option_map (λ x. x.1) (cond b (Some e) (find (λ x. other x.0) es))) (sym (same e.0) ∙ n))
  ]

  module _ (test : A → Bool) (w : B) where
    -- nothing changes where no key passes
    pub none_set : (es : List (A × B)) → find (λ e. test e.0) es ≡ None → set_value test es w ≡ es
    none_set [] none = refl
    none_set (e ∷ es) none = elim (cases_Bool (test e.0)) [
      | inl y ↦ absurd (let some : ◌≡◌ {A = Option (A × B)} (Some e) None = sym (ap (λ b. cond b (Some e) (find (λ x. test x.0) es)) y) ∙ none in cc)
      | inr n ↦ ap (λ b. cond b ((e.0, w) ∷ es) (e ∷ set_value test es w)) n ∙ ap (λ l. e ∷ l) (none_set es (sym (ap (λ b. cond b (Some e) (find (λ x. test x.0) es)) n) ∙ none))
    ]

    -- the value that was set is found, if one was
    pub set_found : (es : List (A × B)) → value_of test (set_value test es w) ≡ option_map (λ _. w) (value_of test es)
    set_found [] = refl
    set_found (e ∷ es) = elim (cases_Bool (test e.0)) [
      | inl y ↦
          ap (λ b. value_of test (cond b ((e.0, w) ∷ es) (e ∷ set_value test es w))) y ∙ ap (λ b. option_map (λ x. x.1) (cond b (Some (e.0, w)) (find (λ x. test x.0) es))) y
          ∙ sym (ap (λ b. option_map (λ _. w) (option_map (λ x. x.1) (cond b (Some e) (find (λ x. test x.0) es)))) y)
      | inr n ↦
          ap (λ b. value_of test (cond b ((e.0, w) ∷ es) (e ∷ set_value test es w))) n ∙ ap (λ b. option_map (λ x. x.1) (cond b (Some e) (find (λ x. test x.0) (set_value test es w)))) n
          ∙ set_found es ∙ sym (ap (λ b. option_map (λ _. w) (option_map (λ x. x.1) (cond b (Some e) (find (λ x. test x.0) es)))) n)
    ]

    -- what another test finds is found
    pub set_apart : (other : A → Bool) → ((x : A) → test x ≡ true → other x ≡ false) → (es : List (A × B)) → value_of other (set_value test es w) ≡ value_of other es
    set_apart other apart [] = refl
    set_apart other apart (e ∷ es) = elim (cases_Bool (test e.0)) [
      | inl y ↦
          ap (λ b. value_of other (cond b ((e.0, w) ∷ es) (e ∷ set_value test es w))) y ∙ ap (λ b. option_map (λ x. x.1) (cond b (Some (e.0, w)) (find (λ x. other x.0) es))) (apart e.0 y)
          ∙ sym (ap (λ b. option_map (λ x. x.1) (cond b (Some e) (find (λ x. other x.0) es))) (apart e.0 y))
      | inr n ↦ ap (λ b. value_of other (cond b ((e.0, w) ∷ es) (e ∷ set_value test es w))) n ∙ elim (cases_Bool (other e.0)) [
        | inl y ↦ ap (λ b. option_map (λ x. x.1) (cond b (Some e) (find (λ x. other x.0) (set_value test es w)))) y ∙ sym (ap (λ b. option_map (λ x. x.1) (cond b (Some e) (find (λ x. other x.0) es))) y)
        | inr m ↦
            ap (λ b. option_map (λ x. x.1) (cond b (Some e) (find (λ x. other x.0) (set_value test es w)))) m ∙ set_apart other apart es
            ∙ sym (ap (λ b. option_map (λ x. x.1) (cond b (Some e) (find (λ x. other x.0) es))) m)
      ]
    ]

-- ---- numbers of shelves

shelf_is : (shelf s : ℕ) → is_shelf shelf s ≡ (s == shelf)
shelf_is shelf s = unsigned_tied s shelf

is_that_shelf : (shelf s : ℕ) → is_shelf shelf s ≡ true → s ≡ shelf
is_that_shelf shelf s e = eqb-true s shelf (sym (shelf_is shelf s) ∙ e)

-- the counts after one is another
pub count_is_after : (shelf count other : ℕ) (es : List (ℕ × ℕ)) → count_with other (with_count shelf count es) ≡ count_after shelf count other es
count_is_after shelf count other es = elim (cases_Bool (other == shelf)) [
  | inl y ↦
      let same : other ≡ shelf = eqb-true other shelf y in
      subst (λ o. count_with o (with_count shelf count es) ≡ option_map (λ _. count) (count_with shelf es)) (sym same) (set_found (is_shelf shelf) count es)
      ∙ sym (ap (λ b. cond b (option_map (λ _. count) (count_with shelf es)) (count_with other es)) y)
  | inr n ↦
      set_apart (is_shelf shelf) count (is_shelf other) (λ s e. apart n s e) es
      ∙ sym (ap (λ b. cond b (option_map (λ _. count) (count_with shelf es)) (count_with other es)) n)
]
  where
    apart : (other == shelf) ≡ false → (s : ℕ) → is_shelf shelf s ≡ true → is_shelf other s ≡ false
    apart n s e = elim (cases_Bool (is_shelf other s)) [
      | inl y ↦ absurd (let here = is_that_shelf shelf s e in let there = is_that_shelf other s y in let both : (other == shelf) ≡ true = eq-eqb other shelf (sym there ∙ here) in cc)
      | inr m ↦ m
    ]

module _ (shelf : ℕ) where
  abbrev counted : List (ℕ × ℕ) → ℕ
  counted es = count_by (λ e. is_shelf shelf e.0) es

  counted_none : (s : ℕ) → is_shelf shelf s ≡ true → (es : List (ℕ × ℕ)) → AllByRecursion (λ y. (s == y) ≡ false) (keys_of es) → counted es ≡ 0
  counted_none s e [] h = refl
  counted_none s e (x ∷ es) h = elim (cases_Bool (is_shelf shelf x.0)) [
    | inl y ↦ absurd (let here = is_that_shelf shelf s e in let there = is_that_shelf shelf x.0 y in let same : (s == x.0) ≡ true = eq-eqb s x.0 (here ∙ sym there) in let other = h.0 in cc)
    | inr n ↦
        let step : counted (x ∷ es) ≡ 0 + counted es = sum_by-cons (λ (y : ℕ × ℕ). cond (is_shelf shelf y.0) 1 0) x es ∙ ap (λ b. cond b 1 0 + counted es) n in
        let rest = counted_none s e es h.1 in
        omega (arith, step, rest)
  ]

  -- where no two keys are equal, a shelf was counted once
  pub counted_once : (es : List (ℕ × ℕ)) → IsDistinct (λ a b. a == b) (keys_of es) → HasOnce (is_shelf shelf) es
  unfolding IsDistinct
  counted_once [] d = omega arith
  counted_once (e ∷ es) d = elim (cases_Bool (is_shelf shelf e.0)) [
    | inl y ↦
        let none = counted_none e.0 y es d.0 in
        let one : counted (e ∷ es) ≡ 1 + counted es = sum_by-cons (λ (x : ℕ × ℕ). cond (is_shelf shelf x.0) 1 0) e es ∙ ap (λ b. cond b 1 0 + counted es) y in
        omega (arith, one, none)
    | inr n ↦
        let rest : counted es ≤ 1 = counted_once es d.1 in
        let one : counted (e ∷ es) ≡ 0 + counted es = sum_by-cons (λ (x : ℕ × ℕ). cond (is_shelf shelf x.0) 1 0) e es ∙ ap (λ b. cond b 1 0 + counted es) n in
        omega (arith, one, rest)
  ]

-- a count by the map's own test
pub count_is_lookup : (shelf : ℕ) (es : List (ℕ × ℕ)) → count_with shelf es ≡ lookup (λ s. shelf == s) es
count_is_lookup shelf es = same_test (is_shelf shelf) (λ s. shelf == s) turned es ∙ is_lookup (λ s. shelf == s) es
  where
    turned : (s : ℕ) → is_shelf shelf s ≡ (shelf == s)
    turned s = elim (cases_Bool (shelf == s)) [
      | inl y ↦ shelf_is shelf s ∙ eq-eqb s shelf (sym (eqb-true shelf s y)) ∙ sym y
      | inr n ↦ elim (cases_Bool (s == shelf)) [
        | inl y ↦ absurd (let back : (shelf == s) ≡ true = eq-eqb shelf s (sym (eqb-true s shelf y)) in cc)
        | inr m ↦ shelf_is shelf s ∙ m ∙ sym n
      ]
    ]

-- ---- names of wares

abbrev named : List ℕ → String Global → Bool
named name k = is_eq (slice_cmp nat_cmp (string_bytes k) name)

-- a price by the map's own test
price_is_lookup : (q : String Global) (es : List (String Global × ℕ)) → price_with (string_bytes q) es ≡ lookup (string_eq q) es
price_is_lookup q es = same_test (named (string_bytes q)) (string_eq q) turned es ∙ is_lookup (string_eq q) es
  where
    turned : (k : String Global) → named (string_bytes q) k ≡ string_eq q k
    turned k = is_eq-slice_cmp (string_bytes k) (string_bytes q) ∙ nat_list_eq_equiv.symm (string_bytes k) (string_bytes q)

found_named : (name : List ℕ) (es : List (String Global × ℕ)) (e : String Global × ℕ) → find (λ x. named name x.0) es ≡ Some e → string_bytes e.0 ≡ name
found_named name [] e is = absurd cc
found_named name (x ∷ es) e is = elim (cases_Bool (named name x.0)) [
  | inl y ↦
      let some : ◌≡◌ {A = Option (String Global × ℕ)} (Some x) (Some e) = sym (ap (λ b. cond b (Some x) (find (λ z. named name z.0) es)) y) ∙ is in
      let same : x ≡ e = cc in
      ap (λ (z : String Global × ℕ). string_bytes z.0) (sym same) ∙ (bytes_eq-Decides (string_bytes x.0) name).0 (sym (is_eq-slice_cmp (string_bytes x.0) name) ∙ y)
  | inr n ↦ found_named name es e (sym (ap (λ b. cond b (Some x) (find (λ z. named name z.0) es)) n) ∙ is)
]

-- where look-ups of all texts find the same, so do those of all names
pub same_prices : (es fs : List (String Global × ℕ)) → ((q : String Global) → lookup (string_eq q) fs ≡ lookup (string_eq q) es) → (name : List ℕ) → price_with name fs ≡ price_with name es
same_prices es fs same name = by_found (find (λ x. named name x.0) es) (find (λ x. named name x.0) fs) refl refl
  where
    of_text : (q : String Global) → string_bytes q ≡ name → price_with name fs ≡ price_with name es
    of_text q is = subst (λ n. price_with n fs ≡ price_with n es) is (price_is_lookup q fs ∙ same q ∙ sym (price_is_lookup q es))

    by_found : (o p : Option (String Global × ℕ)) → find (λ x. named name x.0) es ≡ o → find (λ x. named name x.0) fs ≡ p → price_with name fs ≡ price_with name es
    by_found (Some e) p is also = of_text e.0 (found_named name es e is)
    by_found None (Some f) is also = of_text f.0 (found_named name fs f also)
    by_found None None is also = ap (option_map (λ x. x.1)) (also ∙ sym is)
