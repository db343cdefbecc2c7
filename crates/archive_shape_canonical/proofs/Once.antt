-- Shared positions: each list of visits is the end of every later one, and where all differ, a value has one position.
use Rattle.std.proofs.Common.{◌≡◌, ℕ, Bool, true, false, cond, ◌==◌, List, [], ◌∷◌, Some, ap, sym, subst, ◌∙◌}
use Rattle.archive_shape_layout.specs.Value.{Value, Values}
use Rattle.archive_shape_layout.specs.Content.{Names, Part}
use Rattle.archive_shape_layout.specs.Holds.{Region, Visit, OpenShared, visited, Holds, HoldAll}
use Rattle.archive_shape_layout.specs.Holds.Holds.{holds_plain, holds_claimed, holds_first, holds_later, holds_back}
use Rattle.archive_shape_layout.specs.Holds.HoldAll.{holds_none, holds_more}
use Rattle.archive_shape_canonical.specs.Sharing.{erased, Differ, AllDiffer, AreDistinct}

module _ (names : Names) (bytes : List ℕ) (R : List Visit → Type 0) (rest : (x : Visit) (xs : List Visit) → R (x ∷ xs) → R xs) where
  mutual
    -- what holds of the visits after a part and of each end of that list holds of those before it
    pub shrink : {level : ℕ} {inside : List OpenShared} {p : Part} {v : Value} {rs : List Region} {before after : List Visit}
        → Holds names bytes level inside p v rs before after → R after → R before
    shrink (holds_plain e legal all m) r = shrink_all all r
    shrink (holds_claimed e legal all m x) r = shrink_all all r
    shrink (holds_first e a b h d g) r = shrink h (rest _ _ (subst R g r))
    shrink (holds_later e a b d g h) r = subst R h r
    shrink (holds_back e a d g h) r = subst R h r

    pub shrink_all : {level : ℕ} {inside : List OpenShared} {ps : List Part} {vs : Values} {rs : List Region} {before after : List Visit}
        → HoldAll names bytes level inside ps vs rs before after → R after → R before
    shrink_all (holds_none e f g) r = subst R g r
    shrink_all (holds_more h hs e x) r = shrink h (shrink_all hs r)

-- a visit that is found is one of those
found_differs : (a : Visit) (vs : List Visit) (t : ℕ) (x : Visit) → AllDiffer a vs → visited vs t ≡ Some x → Differ a x
found_differs a [] t x d e = absurd (cc)
found_differs a (v ∷ vs) t x d e = tested (v.pos == t) (λ f. found_differs a vs t x d.1 f) e
  where
    tested : (b : Bool) → (visited vs t ≡ Some x → Differ a x) → cond b (Some v) (visited vs t) ≡ Some x → Differ a x
    tested true later f = let one : v ≡ x = cc in subst (Differ a) one d.0
    tested false later f = later f

pub found_before : (a : Visit) (vs : List Visit) (t : ℕ) (x : Visit) → AllDiffer a vs → visited vs t ≡ Some x → a.pointee ≡ x.pointee → erased a.value ≡ erased x.value → ⊥
found_before a vs t x d e = found_differs a vs t x d e

pub one_visit : (vs : List Visit) (t u : ℕ) (x y : Visit) → AreDistinct vs → visited vs t ≡ Some x → visited vs u ≡ Some y
    → x.pointee ≡ y.pointee → erased x.value ≡ erased y.value → x ≡ y
one_visit [] t u x y d e f g h = absurd (cc)
one_visit (v ∷ vs) t u x y d e f g h = tested (v.pos == t) (v.pos == u) e f (λ e' f'. one_visit vs t u x y d.1 e' f' g h)
  where
    tested : (a b : Bool) → cond a (Some v) (visited vs t) ≡ Some x → cond b (Some v) (visited vs u) ≡ Some y
        → (visited vs t ≡ Some x → visited vs u ≡ Some y → x ≡ y) → x ≡ y
    tested true true e' f' later = cc
    tested true false e' f' later =
        let one : v ≡ x = cc in
        absurd (found_before v vs u y d.0 f' (ap (λ (z : Visit). z.pointee) one ∙ g) (ap (λ (z : Visit). erased z.value) one ∙ h))
    tested false true e' f' later =
        let one : v ≡ y = cc in
        absurd (found_before v vs t x d.0 e' (ap (λ (z : Visit). z.pointee) one ∙ sym g) (ap (λ (z : Visit). erased z.value) one ∙ sym h))
    tested false false e' f' later = later e' f'
