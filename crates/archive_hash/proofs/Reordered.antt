-- Entries in another order have the same look-ups, and pairs whose keys differ are in some order what they become where
-- they are inserted in turn.
use Rattle.std.proofs.Common.{◌≡◌, ◌∙◌, ℕ, zero, suc, ◌<◌, Bool, true, false, List, [], ◌∷◌, length, get_or, set, refl, sym, ap, subst, arith, Option, Some, None}
use Rattle.std.specs.Cmp.{IsEquivalence}
use Rattle.std.specs.List.{AllByRecursion, AllZip, Contains, IsDistinct, find, remove, swap}
use Rattle.std.specs.List.Sorted.{IsPermutation}
use Rattle.std.specs.Map.{keys_of, lookup}
use Rattle.std.specs.Option.{unwrap_or}
use Rattle.std.proofs.lemmas.Bool.{cond-true, cond-false}
use Rattle.std.proofs.lemmas.List.Elements.{All-contains, All-from_recursion, AllZip-get_or, length_all_zip, recursion_from_All}
use Rattle.std.proofs.lemmas.List.Sorted.{All-permutation, Contains-permutation, IsPermutation-cons, IsPermutation-keeps, IsPermutation-map, IsPermutation-refl, IsPermutation-remove, IsPermutation-swap, IsPermutation-sym, IsPermutation-trans}
use Rattle.std.proofs.lemmas.Map.Keys.{IsDistinct-head, IsDistinct-tail, IsDistinct-IsPermutation}
use Rattle.std.proofs.lemmas.Map.Made.{nil_from_lookup, update_all_none}
use Rattle.std.proofs.lemmas.Map.Views.{lookup-from_Contains}
use Rattle.archive_hash.specs.ReadBack.{AreInserted}

-- ---- a list in another order, beside another

module _ {X : Type 0} (R : X → X → Type 0) where
  all_zip_set : (xs ys : List X) (i : ℕ) (x y : X) → AllZip R xs ys → R x y → AllZip R (set xs i x) (set ys i y)
  all_zip_set [] [] i x y h r = tt
  all_zip_set [] (b ∷ bs) i x y h r = absurd h
  all_zip_set (a ∷ more) [] i x y h r = absurd h
  all_zip_set (a ∷ more) (b ∷ bs) zero x y h r = (r, h.1)
  all_zip_set (a ∷ more) (b ∷ bs) (suc i) x y h r = (h.0, all_zip_set more bs i x y h.1 r)

  all_zip_swap : (xs ys : List X) (i j : ℕ) → i < length ys → j < length ys → AllZip R xs ys → AllZip R (swap xs i j) (swap ys i j)
  all_zip_swap [] [] i j l k h = tt
  all_zip_swap [] (b ∷ bs) i j l k h = absurd h
  all_zip_swap (a ∷ more) [] i j l k h = absurd h
  all_zip_swap (a ∷ more) (b ∷ bs) i j l k h =
      let long : length (a ∷ more) ≡ length (b ∷ bs) = length_all_zip R (a ∷ more) (b ∷ bs) h in
      all_zip_set (set (a ∷ more) i (get_or (a ∷ more) j a)) (set (b ∷ bs) i (get_or (b ∷ bs) j b)) j (get_or (a ∷ more) i a) (get_or (b ∷ bs) i b)
      (all_zip_set (a ∷ more) (b ∷ bs) i (get_or (a ∷ more) j a) (get_or (b ∷ bs) j b) h (AllZip-get_or R (a ∷ more) (b ∷ bs) j a b h (omega arith)))
      (AllZip-get_or R (a ∷ more) (b ∷ bs) i a b h (omega arith))

  -- the same order of the first list
  abbrev IsBeside : List X → List X → Type 0
  IsBeside xs ys = (zs : List X) × IsPermutation xs zs × AllZip R zs ys

  pub moved_beside : (xs ys fs : List X) → AllZip R xs ys → IsPermutation ys fs → IsBeside xs fs
  moved_beside xs ys fs h moved = IsPermutation-keeps ys (IsBeside xs) (xs, IsPermutation-refl xs, h) step fs moved
    where
      step : (l : List X) (i j : ℕ) → i < length l → j < length l → IsBeside xs l → IsBeside xs (swap l i j)
      step l i j less last b =
          let long : length b.0 ≡ length l = length_all_zip R b.0 l b.2 in
          (swap b.0 i j, IsPermutation-trans xs b.0 (swap b.0 i j) b.1 (IsPermutation-swap b.0 (swap b.0 i j) i j (omega arith) (omega arith) refl), all_zip_swap b.0 l i j less last b.2)

-- ---- look-ups

-- a key is the first one that is equal to it
abbrev IsStored : {A : Type 0} → (A → A → Bool) → List A → A → Type 0
IsStored eq ks k = find (eq k) ks ≡ Some k

module _ {A B : Type 0} {eq : A → A → Bool} (laws : IsEquivalence eq) where
  -- the entry that a look-up finds
  abbrev IsFound : A → B → List (A × B) → Type 0
  IsFound q v es = (k : A) × (eq q k ≡ true) × Contains es (k, v)

  found : (q : A) (v : B) (es : List (A × B)) → lookup (eq q) es ≡ Some v → IsFound q v es
  found q v [] e = absurd (cc)
  found q v (x ∷ es) e = by (found q v es) (eq q x.0) refl
    where
      by : (lookup (eq q) es ≡ Some v → IsFound q v es) → (b : Bool) → eq q x.0 ≡ b → IsFound q v (x ∷ es)
      by others true t =
          let same : x.1 ≡ v = ap (λ o. unwrap_or o v) (sym (cond-true (eq q x.0) (Some x.1) (lookup (eq q) es) t) ∙ e) in
          (x.0, t, (0, omega arith, λ i. (x.0, same i)))
      by others false t =
          let later = others (sym (cond-false (eq q x.0) (Some x.1) (lookup (eq q) es) t) ∙ e) in
          (later.0, later.1, (suc later.2.0, (let less = later.2.1 in omega arith), later.2.2))

  found_moved : (es fs : List (A × B)) → IsPermutation es fs → IsDistinct eq (keys_of fs) → (q : A) (v : B) → lookup (eq q) es ≡ Some v → lookup (eq q) fs ≡ Some v
  found_moved es fs moved distinct q v e =
      let f = found q v es e in
      ap (λ (t : A → Bool). lookup t fs) (λ i z. laws.congr q f.0 z f.1 i) ∙ lookup-from_Contains laws f.0 v fs distinct (Contains-permutation es fs (f.0, v) moved f.2)

  one_answer : (a b : Option B) → ((v : B) → a ≡ Some v → b ≡ Some v) → ((v : B) → b ≡ Some v → a ≡ Some v) → b ≡ a
  one_answer None None f g = refl
  one_answer None (Some w) f g = sym (g w refl)
  one_answer (Some v) b f g = f v refl

  pub distinct_moved : (es fs : List (A × B)) → IsPermutation es fs → IsDistinct eq (keys_of es) → IsDistinct eq (keys_of fs)
  distinct_moved es fs moved distinct = IsDistinct-IsPermutation eq laws.symm (keys_of es) (keys_of fs) (IsPermutation-map (λ (e : A × B). e.0) es fs moved) distinct

  pub lookup_moved : (es fs : List (A × B)) → IsPermutation es fs → IsDistinct eq (keys_of es) → (q : A) → lookup (eq q) fs ≡ lookup (eq q) es
  lookup_moved es fs moved distinct q =
      one_answer (lookup (eq q) es) (lookup (eq q) fs) (found_moved es fs moved (distinct_moved es fs moved distinct) q) (found_moved fs es (IsPermutation-sym es fs moved) distinct q)

  -- ---- pairs that are inserted in turn

  abbrev AreStored : List A → List (A × B) → Type 0
  AreStored ks = AllByRecursion (λ e. IsStored eq ks e.0)

  stored_entries : (ks : List A) (es : List (A × B)) → AllByRecursion (IsStored eq ks) (keys_of es) → AreStored ks es
  stored_entries ks [] h = tt
  stored_entries ks (e ∷ es) h = (h.0, stored_entries ks es h.1)

  none_with : (x q : A) → eq q x ≡ true → (es : List (A × B)) → AllByRecursion (λ k. eq x k ≡ false) (keys_of es) → lookup (eq q) es ≡ None
  none_with x q t [] apart = refl
  none_with x q t (e ∷ es) apart = cond-false (eq q e.0) (Some e.1) (lookup (eq q) es) (laws.congr q x e.0 t ∙ apart.0) ∙ none_with x q t es apart.1

  module _ (x : A × B) where
    -- look-ups in what follows an entry
    same_behind : (es fs : List (A × B)) → AllByRecursion (λ k. eq x.0 k ≡ false) (keys_of es) → AllByRecursion (λ k. eq x.0 k ≡ false) (keys_of fs)
        → ((q : A) → lookup (eq q) (x ∷ es) ≡ lookup (eq q) (x ∷ fs)) → (q : A) → lookup (eq q) es ≡ lookup (eq q) fs
    same_behind es fs c d h q = by (eq q x.0) refl
      where
        by : (b : Bool) → eq q x.0 ≡ b → lookup (eq q) es ≡ lookup (eq q) fs
        by true t = none_with x.0 q t es c ∙ sym (none_with x.0 q t fs d)
        by false t = sym (cond-false (eq q x.0) (Some x.1) (lookup (eq q) es) t) ∙ h q ∙ cond-false (eq q x.0) (Some x.1) (lookup (eq q) fs) t

    stored_behind : (ks : List A) (es : List (A × B)) → AllByRecursion (λ k. eq x.0 k ≡ false) (keys_of es) → AreStored (x.0 ∷ ks) es → AreStored ks es
    stored_behind ks [] apart h = tt
    stored_behind ks (e ∷ es) apart h = (sym (cond-false (eq e.0 x.0) (Some x.0) (find (eq e.0) ks) (laws.symm e.0 x.0 ∙ apart.0)) ∙ h.0, stored_behind ks es apart.1 h.1)

    -- the entry that a look-up of its key finds, and the others
    abbrev IsTaken : List (A × B) → Type 0
    IsTaken fs = (others : List (A × B)) × IsPermutation fs (x ∷ others)

    taken : (ks : List A) (fs : List (A × B)) → AreStored (x.0 ∷ ks) fs → lookup (eq x.0) fs ≡ Some x.1 → IsTaken fs
    taken ks fs stored e =
        let f = found x.0 x.1 fs e in
        let y : A × B = (f.0, x.1) in
        let first : find (eq f.0) (x.0 ∷ ks) ≡ Some x.0 = cond-true (eq f.0 x.0) (Some x.0) (find (eq f.0) ks) (laws.symm f.0 x.0 ∙ f.1) in
        let is_stored : find (eq f.0) (x.0 ∷ ks) ≡ Some f.0 = All-contains (λ (z : A × B). IsStored eq (x.0 ∷ ks) z.0) fs y (All-from_recursion (λ (z : A × B). IsStored eq (x.0 ∷ ks) z.0) fs stored) f.2 in
        let key : f.0 ≡ x.0 = ap (λ o. unwrap_or o x.0) (sym is_stored ∙ first) in
        let same : y ≡ x = λ i. (key i, x.1) in
        let others = remove fs f.2.0 in
        (others, subst (λ z. IsPermutation fs (z ∷ others)) same (IsPermutation-remove fs f.2.0 y f.2.1 (sym f.2.2)))

  permuted : (xs fs : List (A × B)) → IsDistinct eq (keys_of xs) → IsDistinct eq (keys_of fs) → AreStored (keys_of xs) fs → ((q : A) → lookup (eq q) xs ≡ lookup (eq q) fs) → IsPermutation xs fs
  permuted [] fs c d stored h = subst (IsPermutation []) (sym (nil_from_lookup laws fs (λ q. sym (h q)))) (IsPermutation-refl [])
  permuted (x ∷ xs) fs c d stored h =
      let ks = keys_of xs in
      let t = taken x ks fs stored (sym (h x.0) ∙ cond-true (eq x.0 x.0) (Some x.1) (lookup (eq x.0) xs) (laws.refl x.0)) in
      let rest = t.0 in
      let moved : IsPermutation fs (x ∷ rest) = t.1 in
      let apart = distinct_moved fs (x ∷ rest) moved d in
      let behind = IsDistinct-head eq x.0 (keys_of rest) apart in
      let all_stored : AreStored (x.0 ∷ ks) (x ∷ rest) = recursion_from_All (λ (z : A × B). IsStored eq (x.0 ∷ ks) z.0) (x ∷ rest) (All-permutation (λ (z : A × B). IsStored eq (x.0 ∷ ks) z.0) fs (x ∷ rest) moved (All-from_recursion (λ (z : A × B). IsStored eq (x.0 ∷ ks) z.0) fs stored)) in
      let same : (q : A) → lookup (eq q) xs ≡ lookup (eq q) rest = same_behind x xs rest (IsDistinct-head eq x.0 ks c) behind (λ q. h q ∙ sym (lookup_moved fs (x ∷ rest) moved d q)) in
      let others = permuted xs rest (IsDistinct-tail eq x.0 ks c) (IsDistinct-tail eq x.0 (keys_of rest) apart) (stored_behind x ks rest behind all_stored.1) same in
      IsPermutation-trans (x ∷ xs) (x ∷ rest) fs (IsPermutation-cons x xs rest others) (IsPermutation-sym fs (x ∷ rest) moved)

  pub inserted_moved : (xs fs : List (A × B)) → IsDistinct eq (keys_of xs) → AreInserted eq xs fs → IsPermutation xs fs
  inserted_moved xs fs distinct h =
      permuted xs fs distinct h.once (stored_entries (keys_of xs) fs (recursion_from_All (IsStored eq (keys_of xs)) (keys_of fs) h.first))
      (λ q. sym (update_all_none laws eq (λ a b. refl) xs q distinct) ∙ sym (h.values q))
