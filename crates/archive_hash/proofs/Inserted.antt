-- What a map of std has when pairs are inserted in turn.
use Rattle.std.proofs.Common.{◌≡◌, ◌∙◌, Bool, true, false, cond, ◌||◌, List, [], ◌∷◌, ◌++◌, refl, ap, sym, subst, Option, Some, None, All}
use Rattle.std.specs.Prelude.{MatchOption}
use Rattle.std.specs.Cmp.{IsEquivalence}
use Rattle.std.specs.List.{find, list_any, IsDistinct}
use Rattle.std.specs.List.Sorted.{IsPermutation}
use Rattle.std.specs.Map.{keys_of, lookup, update_all}
use Rattle.std.specs.Option.{is_some, option_or}
use Rattle.std.proofs.lemmas.List.{map-append}
use Rattle.std.proofs.lemmas.List.Elements.{All-nil, All-cons, All-weaker}
use Rattle.std.proofs.lemmas.List.Folds.{find-append}
use Rattle.std.proofs.lemmas.List.Sorted.{All-permutation}
use Rattle.std.proofs.lemmas.Map.{update_all_push}
use Rattle.std.proofs.lemmas.Map.Made.{is_some-update_all}
use Rattle.archive_hash.specs.ReadBack.{AreInserted}

-- the keys when one is put among others: there is one more somewhere, or it was there
abbrev pub PutsKey : {A B : Type 0} → List A → List A → A → Option B → Type 0
PutsKey before after k old = MatchOption old (IsPermutation (k ∷ before) after) (λ _. after ≡ before)

by_test : {A : Type 0} (b : Bool) (x : A) (o : Option A) → (b || is_some o) ≡ is_some (cond b (Some x) o)
by_test true x o = refl
by_test false x o = refl

any_found : {A : Type 0} (test : A → Bool) (xs : List A) → list_any test xs ≡ is_some (find test xs)
any_found test [] = refl
any_found test (x ∷ xs) = ap (λ b. test x || b) (any_found test xs) ∙ by_test (test x) x (find test xs)

is_none : {A : Type 0} (o : Option A) → is_some o ≡ false → o ≡ None
is_none None e = refl
is_none (Some x) e = absurd cc

module _ {A B : Type 0} {eq : A → A → Bool} (laws : IsEquivalence eq) where
  abbrev IsFirst : List (A × B) → A → Type 0
  IsFirst xs k = find (eq k) (keys_of xs) ≡ Some k

  found_more : (xs : List (A × B)) (x : A × B) (q : A) → find (eq q) (keys_of (xs ++ x ∷ [])) ≡ option_or (find (eq q) (keys_of xs)) (cond (eq q x.0) (Some x.0) None)
  found_more xs x q = ap (find (eq q)) (map-append (λ (e : A × B). e.0) xs (x ∷ [])) ∙ find-append (eq q) (keys_of xs) (x.0 ∷ [])

  stays_first : (xs : List (A × B)) (x : A × B) (k : A) → IsFirst xs k → IsFirst (xs ++ x ∷ []) k
  stays_first xs x k h = found_more xs x k ∙ ap (λ o. option_or o (cond (eq k x.0) (Some x.0) None)) h

  is_first : (xs : List (A × B)) (x : A × B) → update_all eq (λ _. None) xs x.0 ≡ None → IsFirst (xs ++ x ∷ []) x.0
  is_first xs x none =
      let absent : find (eq x.0) (keys_of xs) ≡ None =
      is_none (find (eq x.0) (keys_of xs)) (sym (any_found (eq x.0) (keys_of xs)) ∙ sym (is_some-update_all laws x.0 (λ _. None) xs) ∙ ap is_some none) in
      found_more xs x x.0 ∙ ap (λ o. option_or o (cond (eq x.0 x.0) (Some x.0) None)) absent ∙ ap (λ b. cond b (Some x.0) None) (laws.refl x.0)

  pub none_inserted : (es : List (A × B)) → es ≡ [] → IsDistinct eq (keys_of es) → AreInserted eq [] es
  none_inserted es empty once = record {
    once = once;
    first = subst (λ l. All (IsFirst []) (keys_of l)) (sym empty) (All-nil (IsFirst []));
    values = λ q. ap (lookup (eq q)) empty;
  }

  module _ (xs es after : List (A × B)) (x : A × B) (h : AreInserted eq xs es) where
    firsts : (old : Option B) → old ≡ lookup (eq x.0) es → PutsKey (keys_of es) (keys_of after) x.0 old → All (IsFirst (xs ++ x ∷ [])) (keys_of after)
    firsts None is put =
        All-permutation (IsFirst (xs ++ x ∷ [])) (x.0 ∷ keys_of es) (keys_of after) put
        (All-cons (IsFirst (xs ++ x ∷ [])) x.0 (keys_of es) (is_first xs x (sym (h.values x.0) ∙ sym is)) (All-weaker (IsFirst xs) (IsFirst (xs ++ x ∷ [])) (stays_first xs x) (keys_of es) h.first))
    firsts (Some y) is same = subst (All (IsFirst (xs ++ x ∷ []))) (sym same) (All-weaker (IsFirst xs) (IsFirst (xs ++ x ∷ [])) (stays_first xs x) (keys_of es) h.first)

    -- a pair more is inserted
    pub one_inserted : (old : Option B) → old ≡ lookup (eq x.0) es → PutsKey (keys_of es) (keys_of after) x.0 old
        → ((q : A) → lookup (eq q) after ≡ cond (eq x.0 q) (Some x.1) (lookup (eq q) es)) → IsDistinct eq (keys_of after)
        → AreInserted eq (xs ++ x ∷ []) after
    one_inserted old is put at once = record {
      once = once;
      first = firsts old is put;
      values = λ q. at q ∙ update_all_push eq (λ _. None) (λ k. lookup (eq k) es) xs x q (h.values q);
    }
