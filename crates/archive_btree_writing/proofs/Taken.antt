-- Items that an iterator yields, one run of calls after another.
use Rattle.std.proofs.Common.{◌≡◌, ℕ, suc, ◌+◌, ◌<◌, List, [], ◌∷◌, ◌++◌, length, take, set, map, Option, Some, Err, refl, ap, ◌∙◌, subst, sym, arith}
use Rattle.std.specs.Prelude.{Result, MatchResult}
use Rattle.std.proofs.Math.Seq.{take-suc-set}
use Rattle.std.specs.Iterator.{Yields}
use Rattle.archive_forms_laws.specs.Taking.{MayGive, MayGiveAll, GivesAs}

module _ {I T : Type 0} (gives : I → Option T → I → Type 0) where
  pub Yields-append : (s t u : I) (xs ys : List T) → Yields gives s xs t → Yields gives t ys u → Yields gives s (xs ++ ys) u
  Yields-append s t u [] ys p q = subst (λ i. Yields gives i ys u) (sym p) q
  Yields-append s t u (x ∷ xs) ys p q = (p.0, p.1, Yields-append p.0 t u xs ys p.2 q)

  pub Yields-more : (s t u : I) (xs : List T) (x : T) → Yields gives s xs t → gives t (Some x) u → Yields gives s (xs ++ x ∷ []) u
  Yields-more s t u xs x p q = Yields-append s t u xs (x ∷ []) p (u, q, refl)

  -- what comes later may come
  pub may_give_later : (s t : I) (xs : List T) (x : T) → Yields gives s xs t → MayGive gives t x → MayGive gives s x
  may_give_later s t xs x p m = (xs ++ m.0, m.1, m.2, Yields-append s t m.1 xs m.0 p m.3, m.4)

  pub may_give_all_later : (s t : I) (xs ys : List T) → Yields gives s xs t → MayGiveAll gives t ys → MayGiveAll gives s ys
  may_give_all_later s t xs [] p m = tt
  may_give_all_later s t xs (y ∷ ys) p m = (may_give_later s t xs y p m.0, may_give_all_later s t xs ys p m.1)

  pub may_give_append : (s : I) (xs ys : List T) → MayGiveAll gives s xs → MayGiveAll gives s ys → MayGiveAll gives s (xs ++ ys)
  may_give_append s [] ys p q = q
  may_give_append s (x ∷ xs) ys p q = (p.0, may_give_append s xs ys p.1 q)

  -- one more that came
  pub may_give_more : (s t u : I) (items own : List T) (x : T) → Yields gives s items t → gives t (Some x) u → MayGiveAll gives s own → MayGiveAll gives s (own ++ x ∷ [])
  may_give_more s t u items own x p q m = may_give_append s own (x ∷ []) m ((items, t, u, p, q), tt)

  -- what came may come
  pub came_may_come : (s t : I) (xs : List T) → Yields gives s xs t → MayGiveAll gives s xs
  came_may_come s t [] p = tt
  came_may_come s t (x ∷ xs) p = (([], s, p.0, refl, p.1), may_give_all_later s p.0 (x ∷ []) xs (p.0, p.1, refl) (came_may_come p.0 t xs p.2))

module _ {I T C : Type 0} (view : T → C) (gives : I → Option T → I → Type 0) where
  -- what came, before it was seen as something else
  pub Yields-seen : (s t : I) (ys : List C) → Yields (GivesAs view gives) s ys t → (xs : List T) × Yields gives s xs t
  Yields-seen s t [] p = ([], p)
  Yields-seen s t (y ∷ ys) p = let rest = Yields-seen p.0 t ys p.2 in (p.1.0 ∷ rest.0, (p.0, p.1.1, rest.1))

  -- and the same seen so
  pub Yields-as : (s t : I) (xs : List T) → Yields gives s xs t → Yields (GivesAs view gives) s (map view xs) t
  Yields-as s t [] p = p
  Yields-as s t (x ∷ xs) p = (p.0, (x, p.1, refl), Yields-as p.0 t xs p.2)

-- ---- lists that are filled from the front

pub take_set : {A : Type 0} (xs : List A) (i : ℕ) (x : A) → i < length xs → take (i + 1) (set xs i x) ≡ take i xs ++ x ∷ []
take_set xs i x h = let one : i + 1 ≡ suc i = omega arith in ap (λ n. take n (set xs i x)) one ∙ take-suc-set xs i x h

-- ---- refusals

pub on_err : {A E : Type 0} (P : A → Type 0) (Q : E → Type 0) (r : Result A E) (e : E) → r ≡ Err e → Q e → MatchResult r P Q
on_err P Q r e is q = let F : Result _ _ → Type 0 = λ x. MatchResult x P Q in subst F (sym is) q
