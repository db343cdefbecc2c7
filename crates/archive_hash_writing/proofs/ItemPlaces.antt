-- A key that first fit put at a place is found there: the control is its tag, and its search visits the place.
use Rattle.std.proofs.Common.{◌≡◌, ℕ, suc, ◌^◌, ◌<◌, ◌≤◌, Bool, true, false, cond, ◌==◌, List, [], ◌∷◌, length, map, get_or, take, refl, sym, ap, subst, ◌∙◌, arith, Some, eqb-true}
use Rattle.std.specs.List.{All}
use Rattle.std.proofs.lemmas.List.{length-map, get_or-map}
use Rattle.std.proofs.lemmas.List.Elements.{All-nil, All-cons}
use Rattle.archive_shape_canonical.specs.FirstFit.{controls_of, hash_tag, item_at, placed, places_of}
use Rattle.archive_shape_canonical.specs.Reach.{Reaches}
use Rattle.archive_hash_probing.proofs.Fit.{IsFirstFit, first_fit}
use Rattle.archive_hash_probing.proofs.Reached.{written_reaches, written_tag}
use Rattle.archive_hash_writing.proofs.Tagged.{AreTagged, written_tagged}

-- ---- the item at a place

record ItemIs {A : Type 0} (xs : List A) (qs : List ℕ) (p : ℕ) (x : A) : Type 0 where
  index : ℕ
  low : index < length xs
  place : get_or qs index 0 ≡ p
  is : (d : A) → get_or xs index d ≡ x

module _ {A : Type 0} where
  item_is : (xs : List A) (qs : List ℕ) (p : ℕ) (x : A) → item_at xs qs p ≡ Some x → ItemIs xs qs p x
  item_is [] qs p x e = absurd (cc)
  item_is (y ∷ ys) [] p x e = absurd (cc)
  item_is (y ∷ ys) (q ∷ qs) p x e = tested (q == p) refl e (item_is ys qs p x)
    where
      tested : (b : Bool) → (q == p) ≡ b → cond b (Some y) (item_at ys qs p) ≡ Some x → (item_at ys qs p ≡ Some x → ItemIs ys qs p x) → ItemIs (y ∷ ys) (q ∷ qs) p x
      tested true f g on = let same : y ≡ x = cc in record { index = 0; low = omega arith; place = eqb-true q p f; is = λ d. same }
      tested false f g on = let r = on g in let l = r.low in record { index = suc r.index; low = omega (arith, l); place = r.place; is = r.is }

-- ---- keys that first fit places

module _ (hash : List ℕ → ℕ) (small : (k : List ℕ) → hash k < 2 ^ 64) (cap : ℕ) (ks : List (List ℕ)) where
  hashes_small : (ls : List (List ℕ)) → All (λ h. h < 2 ^ 64) (map hash ls)
  hashes_small [] = All-nil (λ h. h < 2 ^ 64)
  hashes_small (l ∷ ls) = All-cons (λ h. h < 2 ^ 64) (hash l) (map hash ls) (small l) (hashes_small ls)

  pub keys_tagged : AreTagged (placed cap (places_of hash cap ks) ks) (take cap (controls_of hash cap ks))
  keys_tagged = written_tagged cap (map hash ks) ks (places_of hash cap ks) (length-map ks hash) (hashes_small ks)

  pub record IsFoundAt (p : ℕ) (k : List ℕ) : Type 0 where
    pub tag : get_or (controls_of hash cap ks) p 0 ≡ hash_tag (hash k)
    pub reached : Reaches (controls_of hash cap ks) (hash k) cap p

  pub found_at : length ks ≤ cap → (p : ℕ) (k : List ℕ) → item_at ks (places_of hash cap ks) p ≡ Some k → IsFoundAt p k
  found_at room p k e =
      let hashes = map hash ks in
      let qs = places_of hash cap ks in
      let r = item_is ks qs p k e in
      let j = r.index in
      let l = r.low in
      let n : length hashes ≡ length ks = length-map ks hash in
      let fits : IsFirstFit cap [] hashes qs = first_fit cap [] hashes (omega (arith, n, room)) in
      let some : 0 < cap = omega (arith, l, room) in
      let at : get_or hashes j 0 ≡ hash k = get_or-map hash ks j [] 0 l ∙ ap hash (r.is []) in
      let tag = written_tag cap hashes qs j some fits (omega (arith, n, l)) in
      let reach = written_reaches cap hashes qs j some (hashes_small ks) fits (omega (arith, n, l)) in
      let P : ℕ → ℕ → Type 0 = λ h q. Reaches (controls_of hash cap ks) h cap q in
      record {
        tag = ap (λ q. get_or (controls_of hash cap ks) q 0) (sym r.place) ∙ tag ∙ ap hash_tag at;
        reached = subst (λ q. P (hash k) q) r.place (subst (λ h. P h (get_or qs j 0)) at reach);
      }
