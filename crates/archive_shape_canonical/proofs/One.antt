-- A value has one canonical archive.
use Rattle.std.proofs.Common.{true, ◌≡◌, ℕ, ◌+◌, ◌-◌, List, [], ◌∷◌, ◌++◌, drop, length, slice_index, Some, refl, ap, ap₂, sym, subst, ◌∙◌, arith, ◌⊎◌, ⊎_elim, get_or-drop, length-drop}
use Rattle.std.specs.Prelude.{⊤}
use Rattle.std.proofs.lemmas.List.{ext_get_or}
use Rattle.archive_shape_layout.specs.Content.{Names, Part}
use Rattle.archive_shape_layout.specs.Content.Part.{behind}
use Rattle.archive_shape_layout.specs.Shape.{Pointee}
use Rattle.archive_shape_layout.specs.Shape.Pointee.{sized}
use Rattle.archive_shape_layout.specs.Value.{Value, Values}
use Rattle.archive_shape_layout.specs.Value.Value.{counted}
use Rattle.archive_shape_layout.specs.Value.Values.{more_values}
use Rattle.archive_shape_layout.specs.Holds.{Region, region_of, Visit, OpenShared, visited, Holds, HoldAll, Ascends, end_after}
use Rattle.archive_shape_layout.specs.Holds.Holds.{holds_plain, holds_claimed, holds_first, holds_later, holds_back}
use Rattle.archive_shape_layout.specs.Holds.HoldAll.{holds_none, holds_more}
use Rattle.archive_shape_layout.proofs.Ascent.{Ascends-append}
use Rattle.archive_shape_canonical.specs.Sharing.{end_of_shared, erased, all_erased, AllDiffer, AreDistinct}
use Rattle.archive_shape_canonical.specs.Settled.{Fit}
use Rattle.archive_shape_canonical.specs.Canonical.{end_of, end_of_all, IsCanonical, AreCanonical, InRegions}
use Rattle.archive_shape_canonical.specs.Laws.{OneArchive}
use Rattle.archive_shape_canonical.proofs.Choosing.{settled_chosen}
use Rattle.archive_shape_canonical.specs.Canonical.{AreBytes}
use Rattle.archive_shape_canonical.proofs.Akin.{Akin, AllAkin, akin_none, akin_more, akin_behind}
use Rattle.archive_shape_canonical.proofs.Once.{shrink, shrink_all, found_before, one_visit}
use Rattle.archive_shape_canonical.proofs.Windows.{InRegions-append}
use Rattle.archive_shape_canonical.proofs.Cases.{Same, SameAll, kinds, plain_case, claimed_case, counted_case}

module _ (fit : Fit) (binds : fit.binds ≡ true) (names : Names) (bytes others : List ℕ) (small : AreBytes bytes) (tiny : AreBytes others) where
  later_value : (t t' : ℕ) (w w' : Value) → erased (counted t w) ≡ erased (counted t' w') → erased w ≡ erased w'
  later_value t t' w w' e = let both : counted 0 (erased w) ≡ counted 0 (erased w') = e in cc

  visit_parts : (x y : Visit) → x ≡ y → (x.pos ≡ y.pos) × (x.len ≡ y.len) × (x.value ≡ y.value)
  visit_parts x y e = (ap (λ (z : Visit). z.pos) e, ap (λ (z : Visit). z.len) e, ap (λ (z : Visit). z.value) e)

  visits_are : (t t' len len' : ℕ) (q q' : Pointee) (w w' : Value) (xs xs' : List Visit) → t ≡ t' → len ≡ len' → q ≡ q' → w ≡ w' → xs ≡ xs'
      → ◌≡◌ {A = List Visit} (record { pos = t; pointee = q; len = len; value = w } ∷ xs) (record { pos = t'; pointee = q'; len = len'; value = w' } ∷ xs')
  visits_are t t' len len' q q' w w' xs xs' a b c d e = cc

  behind_parts : (t t' : ℕ) (q q' : Pointee) (len len' : ℕ) → behind t q len ≡ behind t' q' len' → (t ≡ t') × (len ≡ len')
  behind_parts t t' q q' len len' e = (cc, cc)

  mutual
    one :
        {P : Type 0} {level : ℕ} {inside inside' : List OpenShared} {p p' : Part} {v v' : Value} {rs rs' : List Region} {before before' after after' : List Visit} (low low' a a' : ℕ)
        → (h : Holds names bytes level inside p v rs before after) (h' : Holds names others level inside' p' v' rs' before' after')
        → Akin bytes others P p p' → erased v ≡ erased v' → before ≡ before' → low ≡ low' → IsCanonical fit h low → IsCanonical fit h' low'
        → Ascends a (length bytes) rs → Ascends a' (length others) rs' → AreDistinct after → AreDistinct after'
        → Same fit names bytes others small tiny P p p' v v' rs rs' after after' (end_of h low) (end_of h' low')
    one {P = P} low low' a a' (holds_plain e legal all m) (holds_plain e' legal' all' m') k alike since eq n n' asc asc' d d' =
        plain_case fit names bytes others small tiny a a' (settled_chosen fit binds bytes _ _ _ n.1) (settled_chosen fit binds others _ _ _ n'.1) k e e' all all' asc asc' m m' alike n.0 n'.0 (λ parts values. one_all low low' a a' all all' parts values since eq n.2 n'.2 asc asc' d d')
    one low low' a a' (holds_claimed {level = level} {regions = rs} {within = within} {s = s} e legal all m r) (holds_claimed {regions = rs'} {within = within'} {s = s'} e' legal' all' m' r') k alike since eq n n' asc asc' d d' =
        let below = ((Ascends-append a (length bytes) within (region_of s level ∷ [])).0 (subst (Ascends a (length bytes)) r asc)).0 in
        let below' = ((Ascends-append a' (length others) within' (region_of s' level ∷ [])).0 (subst (Ascends a' (length others)) r' asc')).0 in
        claimed_case fit names bytes others small tiny a a' (end_of_all all low) (end_of_all all' low') (settled_chosen fit binds bytes _ _ _ n.1) (settled_chosen fit binds others _ _ _ n'.1) k (holds_claimed e legal all m r) (holds_claimed e' legal' all' m' r') e e' all all' r r' asc asc' m m' alike n.0 n'.0 n.3 n'.3
        (λ Q parts values. one_all low low' a a' all all' parts values since eq n.2 n'.2 below below' d d')
    one low low' a a' (holds_first {w = w} {t = t} {q = q} {len = len} e x y h z g) (holds_first {w = w'} {t = t'} {q = q'} {len = len'} e' x' y' h' z' g') k alike since eq n n' asc asc' d d' =
        let c = counted_case fit names bytes others small tiny k e e' n.0 n'.0 in
        let alike_values = later_value t t' w w' (ap erased (sym z) ∙ alike ∙ ap erased z') in
        let o = one low low' a a' h h' c.akin alike_values since eq n.1 n'.1 asc asc' (subst AreDistinct g d).1 (subst AreDistinct g' d').1 in
        let there = behind_parts t t' q q' len len' (o.part tt) in
        let rest = c.then there.0 there.1 in
        record {
          value = z ∙ ap₂ (λ i j. counted i j) there.0 o.value ∙ sym z';
          regions = o.regions;
          visits = g ∙ visits_are t t' len len' q q' w w' _ _ there.0 there.1 c.pointee o.value o.visits ∙ sym g';
          ends = ap₂ end_of_shared there.0 o.ends;
          inside = o.inside;
          part = rest.0;
          own = rest.1;
        }
    one low low' a a' (holds_later {w = w} {before = before} {t = t} {q = q} {len = len} e x y z r g) (holds_later {w = w'} {t = t'} {q = q'} {len = len'} e' x' y' z' r' g') k alike since eq n n' asc asc' d d' =
        let c = counted_case fit names bytes others small tiny k e e' n n' in
        let X : Visit = record { pos = t; pointee = q; len = len; value = w } in
        let Y : Visit = record { pos = t'; pointee = q'; len = len'; value = w' } in
        let there = subst (λ vs. visited vs t' ≡ Some Y) (sym since) y' in
        let alike_values = later_value t t' w w' (ap erased (sym z) ∙ alike ∙ ap erased z') in
        let same_visit = visit_parts X Y (one_visit before t t' X Y (subst AreDistinct g d) y there c.pointee alike_values) in
        let rest = c.then same_visit.0 same_visit.1 in
        record {
          value = z ∙ ap₂ (λ i j. counted i j) same_visit.0 same_visit.2 ∙ sym z';
          regions = r ∙ sym r';
          visits = g ∙ since ∙ sym g';
          ends = eq;
          inside = λ i o. absurd (subst (λ y. InRegions y i) r o);
          part = rest.0;
          own = rest.1;
        }
    one low low' a a' (holds_first {w = w} {t = t} {q = q} {len = len} e x y h z g) (holds_later {w = w'} {t = t'} {q = q'} {len = len'} e' x' y' z' r' g') k alike since eq n n' asc asc' d d' =
        let c = counted_case fit names bytes others small tiny k e e' n.0 n' in
        let X : Visit = record { pos = t; pointee = q; len = len; value = w } in
        let alike_values = later_value t t' w w' (ap erased (sym z) ∙ alike ∙ ap erased z') in
        let Y : Visit = record { pos = t'; pointee = q'; len = len'; value = w' } in
        let there = subst (λ vs. visited vs t' ≡ Some Y) (sym since) y' in
        absurd (found_before X _ t' Y (shrink names bytes (AllDiffer X) (λ u us i. i.1) h (subst AreDistinct g d).0) there c.pointee alike_values)
    one low low' a a' (holds_later {w = w} {t = t} {q = q} {len = len} e x y z r g) (holds_first {w = w'} {t = t'} {q = q'} {len = len'} e' x' y' h' z' g') k alike since eq n n' asc asc' d d' =
        let c = counted_case fit names bytes others small tiny k e e' n n'.0 in
        let X : Visit = record { pos = t'; pointee = q'; len = len'; value = w' } in
        let alike_values = later_value t t' w w' (ap erased (sym z) ∙ alike ∙ ap erased z') in
        let Y : Visit = record { pos = t; pointee = q; len = len; value = w } in
        let there = subst (λ vs. visited vs t ≡ Some Y) since y in
        absurd (found_before X _ t Y (shrink names others (AllDiffer X) (λ u us i. i.1) h' (subst AreDistinct g' d').0) there (sym c.pointee) (sym alike_values))
    one low low' a a' h (holds_back e' x' z' g' f') k alike since eq n n' asc asc' d d' = absurd n'
    one low low' a a' (holds_back e x z g f) h' k alike since eq n n' asc asc' d d' = absurd n
    one low low' a a' (holds_plain e legal all m) (holds_claimed e' legal' all' m' r') k alike since eq n n' asc asc' d d' = absurd (let x = kinds fit names bytes others small tiny k e e' tt tt in omega arith)
    one low low' a a' (holds_plain e legal all m) (holds_first e' x' y' h' z' g') k alike since eq n n' asc asc' d d' = absurd (let x = kinds fit names bytes others small tiny k e e' tt tt in omega arith)
    one low low' a a' (holds_plain e legal all m) (holds_later e' x' y' z' r' g') k alike since eq n n' asc asc' d d' = absurd (let x = kinds fit names bytes others small tiny k e e' tt tt in omega arith)
    one low low' a a' (holds_claimed e legal all m r) (holds_plain e' legal' all' m') k alike since eq n n' asc asc' d d' = absurd (let x = kinds fit names bytes others small tiny k e e' tt tt in omega arith)
    one low low' a a' (holds_claimed e legal all m r) (holds_first e' x' y' h' z' g') k alike since eq n n' asc asc' d d' = absurd (let x = kinds fit names bytes others small tiny k e e' tt tt in omega arith)
    one low low' a a' (holds_claimed e legal all m r) (holds_later e' x' y' z' r' g') k alike since eq n n' asc asc' d d' = absurd (let x = kinds fit names bytes others small tiny k e e' tt tt in omega arith)
    one low low' a a' (holds_first e x y h z g) (holds_plain e' legal' all' m') k alike since eq n n' asc asc' d d' = absurd (let x = kinds fit names bytes others small tiny k e e' tt tt in omega arith)
    one low low' a a' (holds_first e x y h z g) (holds_claimed e' legal' all' m' r') k alike since eq n n' asc asc' d d' = absurd (let x = kinds fit names bytes others small tiny k e e' tt tt in omega arith)
    one low low' a a' (holds_later e x y z r g) (holds_plain e' legal' all' m') k alike since eq n n' asc asc' d d' = absurd (let x = kinds fit names bytes others small tiny k e e' tt tt in omega arith)
    one low low' a a' (holds_later e x y z r g) (holds_claimed e' legal' all' m' r') k alike since eq n n' asc asc' d d' = absurd (let x = kinds fit names bytes others small tiny k e e' tt tt in omega arith)

    one_all :
        {P : Type 0} {level : ℕ} {inside inside' : List OpenShared} {ps ps' : List Part} {vs vs' : Values} {rs rs' : List Region} {before before' after after' : List Visit} (low low' a a' : ℕ)
        → (all : HoldAll names bytes level inside ps vs rs before after) (all' : HoldAll names others level inside' ps' vs' rs' before' after')
        → AllAkin bytes others P ps ps' → all_erased vs ≡ all_erased vs' → before ≡ before' → low ≡ low' → AreCanonical fit all low → AreCanonical fit all' low'
        → Ascends a (length bytes) rs → Ascends a' (length others) rs' → AreDistinct after → AreDistinct after'
        → SameAll fit names bytes others small tiny P ps ps' vs vs' rs rs' after after' (end_of_all all low) (end_of_all all' low')
    one_all low low' a a' (holds_none e f g) (holds_none e' f' g') akin_none values since eq n n' asc asc' d d' = record {
      values = e ∙ sym e';
      regions = f ∙ sym f';
      visits = g ∙ since ∙ sym g';
      ends = eq;
      inside = λ i o. absurd (subst (λ y. InRegions y i) f o);
      parts = λ x. refl;
      own = λ x i o. absurd o;
    }
    one_all low low' a a' (holds_none e f g) (holds_more h' hs' e' r') k values since eq n n' asc asc' d d' = elim k [ ]
    one_all low low' a a' (holds_more h hs e r) (holds_none e' f' g') k values since eq n n' asc asc' d d' = elim k [ ]
    one_all low low' a a' (holds_more {v = v} {vs = vs} {here = here} {later = later} h hs e r) (holds_more {v = v'} {vs = vs'} {here = here'} {later = later'} h' hs' e' r') (akin_more k ks) values since eq n n' asc asc' d d' =
        let both : more_values (erased v) (all_erased vs) ≡ more_values (erased v') (all_erased vs') = ap all_erased (sym e) ∙ values ∙ ap all_erased e' in
        let ev : erased v ≡ erased v' = cc in
        let evs : all_erased vs ≡ all_erased vs' = cc in
        let s = (Ascends-append a (length bytes) here later).0 (subst (Ascends a (length bytes)) r asc) in
        let s' = (Ascends-append a' (length others) here' later').0 (subst (Ascends a' (length others)) r' asc') in
        let o = one low low' a a' h h' k ev since eq n.0 n'.0 s.0 s'.0 (shrink_all names bytes AreDistinct (λ u us i. i.1) hs d) (shrink_all names others AreDistinct (λ u us i. i.1) hs' d') in
        let os = one_all (end_of h low) (end_of h' low') (end_after a here) (end_after a' here') hs hs' ks evs o.visits o.ends n.1 n'.1 s.1 s'.1 d d' in
        record {
          values = e ∙ ap₂ more_values o.value os.values ∙ sym e';
          regions = r ∙ ap₂ (λ y z. y ++ z) o.regions os.regions ∙ sym r';
          visits = os.visits;
          ends = os.ends;
          inside = λ i z. ⊎_elim (o.inside i) (os.inside i) (InRegions-append here later i (subst (λ y. InRegions y i) r z));
          parts = λ x. ap₂ (λ y z. y ∷ z) (o.part x) (os.parts x);
          own = λ x i z. ⊎_elim (o.own x i) (os.own x i) z;
        }

pub one_archive_law : OneArchive
one_archive_law fit names bytes others start pos from s v w rs qs a b binds x y alike =
    let first : Akin bytes others ⊤ (behind pos (sized s) 1) (behind from (sized s) 1) = akin_behind refl in
    let o = one fit binds names bytes others x.bytes_are y.bytes_are start start 0 0 x.root.holds y.root.holds first alike refl refl x.canonical y.canonical x.root.ascends y.root.ascends x.once y.once in
    let lengths : length bytes ≡ length others = sym x.ends ∙ o.ends ∙ y.ends in
    ext_get_or 0 (drop start bytes) (drop start others) (length-drop start bytes ∙ ap (λ n. n - start) lengths ∙ sym (length-drop start others))
    (λ i l. get_or-drop start bytes i 0 ∙ same_byte (start + i) o.regions o.inside (x.gaps (start + i) (omega arith)) (y.gaps (start + i) (omega arith)) ∙ sym (get_or-drop start others i 0))
  where
    same_byte : (i : ℕ) → rs ≡ qs → ((j : ℕ) → InRegions rs j → slice_index bytes j ≡ slice_index others j)
        → InRegions rs i ⊎ (slice_index bytes i ≡ 0) → InRegions qs i ⊎ (slice_index others i ≡ 0) → slice_index bytes i ≡ slice_index others i
    same_byte i r inside f g = ⊎_elim (inside i) (λ z. ⊎_elim (λ t. inside i (subst (λ u. InRegions u i) (sym r) t)) (λ u. z ∙ sym u) g) f
