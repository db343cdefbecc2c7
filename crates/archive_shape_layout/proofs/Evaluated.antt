-- What the evaluator finds has its value, and where the evaluator refuses there is no value.
use Rattle.std.proofs.Common.{◌≡◌, ℕ, zero, suc, ◌+◌, ◌%◌, ◌≤◌, Bool, true, false, ◌==◌, ◌&&◌, nat_le, List, [], ◌∷◌, ◌++◌, length, Option, Some, None, refl, ap, sym, subst, ◌∙◌, arith, eqb-true, leb-true, append-nil}
use Rattle.std.specs.Prelude.{⊤}
use Rattle.std.proofs.lemmas.Bool.{le-leb}
use Rattle.std.proofs.lemmas.Str.{IsUtf8-from_is_utf8, is_utf8-from_IsUtf8}
use Rattle.archive_shape_layout.specs.Shape.{Shape, Pointee}
use Rattle.archive_shape_layout.specs.Shape.Pointee.{sized}
use Rattle.archive_shape_layout.specs.Value.{Value, Values}
use Rattle.archive_shape_layout.specs.Value.Value.{counted, back}
use Rattle.archive_shape_layout.specs.Value.Values.{no_values, more_values}
use Rattle.archive_shape_layout.specs.Content.{Names, Part, Span, Label, Content, content_of, made, IsLegal}
use Rattle.archive_shape_layout.specs.Content.Part.{behind}
use Rattle.archive_shape_layout.specs.Content.Label.{leaf, written, same, second, whole, tagged, woven, total}
use Rattle.archive_shape_layout.specs.Content.Content.{illegal, plain, claimed, counting}
use Rattle.archive_shape_layout.specs.Holds.{Region, region_of, Visit, OpenShared, visited, open_at, end_after, Ascends, Follows, Holds, HoldAll, HasRoot}
use Rattle.archive_shape_layout.specs.Holds.Holds.{holds_plain, holds_claimed, holds_first, holds_later, holds_back}
use Rattle.archive_shape_layout.specs.Holds.HoldAll.{holds_none, holds_more}
use Rattle.archive_shape_layout.proofs.SameShape.{same_pointee, pointee_is, pointee_itself, both_left, both_right, both, equal}
use Rattle.archive_shape_layout.proofs.Ascent.{Ascends-append, end_after-grows}
use Rattle.archive_shape_layout.proofs.Unique.{by_plain, by_claimed, by_counting, one_value, one_list, CountedHolds, is_first, is_later, is_back}
use Rattle.archive_shape_layout.proofs.Evaluate.{Answer, unfinished, refused, found, Reading, Readings, Evaluator, legal, valued, finished, of_plain, of_claimed, fits, again, same_visit, same_opened, of_first, of_counted, counted_part, one_part, joined, and_then, evaluate_all, alone, evaluate, evaluate_root}

-- ---- tests

is_legal : (l : Label) → legal l ≡ true → IsLegal l
is_legal (leaf v) e = tt
is_legal (written bs) e = IsUtf8-from_is_utf8 bs e
is_legal same e = tt
is_legal second e = tt
is_legal whole e = tt
is_legal (tagged t) e = tt
is_legal (woven n) e = tt
is_legal (total n) e = tt

pub tests_legal : (l : Label) → IsLegal l → legal l ≡ true
tests_legal (leaf v) h = refl
tests_legal (written bs) h = is_utf8-from_IsUtf8 bs h
tests_legal same h = refl
tests_legal second h = refl
tests_legal whole h = refl
tests_legal (tagged t) h = refl
tests_legal (woven n) h = refl
tests_legal (total n) h = refl

it_fits : (low high : ℕ) (s : Span) → fits low high s ≡ true → (low ≤ s.start) × (s.start + s.size ≤ high) × (s.start % s.align ≡ 0)
unfolding fits
it_fits low high s e =
    let rest = both_right (nat_le low s.start) _ e in (
      leb-true low s.start (both_left _ _ e),
      leb-true (s.start + s.size) high (both_left _ _ rest),
      eqb-true (s.start % s.align) 0 (both_right (nat_le (s.start + s.size) high) _ rest),
    )

pub tests_fit : (low high : ℕ) (s : Span) → low ≤ s.start → s.start + s.size ≤ high → s.start % s.align ≡ 0 → fits low high s ≡ true
unfolding fits
tests_fit low high s a b c =
    both _ _ (le-leb low s.start a) (both _ _ (le-leb (s.start + s.size) high b) (ap (λ n. n == 0) c))

visit_is : (v : Visit) (t : ℕ) (q : Pointee) (len : ℕ) → same_visit v t q len ≡ true → v ≡ record { pos = t; pointee = q; len = len; value = v.value }
unfolding same_visit
visit_is v t q len e =
    let rest = both_right (v.pos == t) _ e in
    let a = eqb-true v.pos t (both_left _ _ e) in
    let b = pointee_is v.pointee q (both_left _ _ rest) in
    let c = eqb-true v.len len (both_right (same_pointee v.pointee q) _ rest) in
    made_of v.pos t v.pointee q v.len len v.value a b c
  where
    made_of : (s t : ℕ) (r q : Pointee) (m n : ℕ) (w : Value) → s ≡ t → r ≡ q → m ≡ n → ◌≡◌ {A = Visit} (record { pos = s; pointee = r; len = m; value = w }) (record { pos = t; pointee = q; len = n; value = w })
    made_of s t r q m n w a b c = cc

pub visit_itself : (t : ℕ) (q : Pointee) (len : ℕ) (v : Value) → same_visit (record { pos = t; pointee = q; len = len; value = v }) t q len ≡ true
unfolding same_visit
visit_itself t q len v = both _ _ (equal t) (both _ _ (pointee_itself q) (equal len))

opened_is : (o : OpenShared) (t : ℕ) (q : Pointee) (len : ℕ) → same_opened o t q len ≡ true → o ≡ record { pos = t; pointee = q; len = len }
unfolding same_opened
opened_is o t q len e =
    let rest = both_right (o.pos == t) _ e in
    let a = eqb-true o.pos t (both_left _ _ e) in
    let b = pointee_is o.pointee q (both_left _ _ rest) in
    let c = eqb-true o.len len (both_right (same_pointee o.pointee q) _ rest) in
    made_of o.pos t o.pointee q o.len len a b c
  where
    made_of : (s t : ℕ) (r q : Pointee) (m n : ℕ) → s ≡ t → r ≡ q → m ≡ n → ◌≡◌ {A = OpenShared} (record { pos = s; pointee = r; len = m }) (record { pos = t; pointee = q; len = n })
    made_of s t r q m n a b c = cc

pub opened_itself : (t : ℕ) (q : Pointee) (len : ℕ) → same_opened (record { pos = t; pointee = q; len = len }) t q len ≡ true
unfolding same_opened
opened_itself t q len = both _ _ (equal t) (both _ _ (pointee_itself q) (equal len))

-- ---- ascent below an end

pub ascends_below : (low high top : ℕ) (rs : List Region) → Ascends low high rs → end_after low rs ≤ top → Ascends low top rs
unfolding Ascends end_after
ascends_below low high top [] a h = tt
ascends_below low high top (r ∷ rs) a h =
    let grows = end_after-grows (r.start + r.size) high rs a.1 in
    (record { after = a.0.after; aligned = a.0.aligned; inside = omega arith }, ascends_below (r.start + r.size) high top rs a.1 h)

pub end_below : (low top : ℕ) (rs : List Region) → low ≤ top → Ascends low top rs → end_after low rs ≤ top
unfolding Ascends end_after
end_below low top [] h a = h
end_below low top (r ∷ rs) h a = end_below (r.start + r.size) top rs a.0.inside a.1

pub ascends_raised : (low top high : ℕ) (rs : List Region) → top ≤ high → Ascends low top rs → Ascends low high rs
unfolding Ascends
ascends_raised low top high [] h a = tt
ascends_raised low top high (r ∷ rs) h a =
    let below = a.0.inside in
    (record { after = a.0.after; aligned = a.0.aligned; inside = omega arith }, ascends_raised (r.start + r.size) top high rs h a.1)

pub ascends_lowered : (low mid high : ℕ) (rs : List Region) → low ≤ mid → Ascends mid high rs → Ascends low high rs
unfolding Ascends
ascends_lowered low mid high [] h a = tt
ascends_lowered low mid high (r ∷ rs) h a = let after = a.0.after in (record { after = omega arith; aligned = a.0.aligned; inside = a.0.inside }, a.1)

-- ---- what a result says

module _ (names : Names) (bytes : List ℕ) where
  abbrev pub IsReading : ℕ → List OpenShared → ℕ → ℕ → Part → List Visit → Answer Reading → Type 0
  IsReading level inside low high p before unfinished = ⊤
  IsReading level inside low high p before refused =
      (v : Value) (rs : List Region) (after : List Visit) → Holds names bytes level inside p v rs before after → Ascends low high rs → ⊥
  IsReading level inside low high p before (found r) = Holds names bytes level inside p r.value r.regions before r.after × Ascends low high r.regions

  abbrev pub TellsAll : ℕ → List OpenShared → ℕ → ℕ → List Part → List Visit → Answer Readings → Type 0
  TellsAll level inside low high ps before unfinished = ⊤
  TellsAll level inside low high ps before refused =
      (vs : Values) (rs : List Region) (after : List Visit) → HoldAll names bytes level inside ps vs rs before after → Ascends low high rs → ⊥
  TellsAll level inside low high ps before (found r) = HoldAll names bytes level inside ps r.values r.regions before r.after × Ascends low high r.regions

  illegal_tells : (level : ℕ) (inside : List OpenShared) (low high : ℕ) (p : Part) (before : List Visit) → content_of names bytes p ≡ illegal → IsReading level inside low high p before refused
  illegal_tells level inside low high p before e v rs after (holds_plain f legal all m) a = cc
  illegal_tells level inside low high p before e v rs after (holds_claimed f legal all m r) a = cc
  illegal_tells level inside low high p before e v rs after (holds_first f x y h d g) a = cc
  illegal_tells level inside low high p before e v rs after (holds_later f x y d g h) a = cc
  illegal_tells level inside low high p before e v rs after (holds_back f x d g h) a = cc

  plain_tells : (level : ℕ) (inside : List OpenShared) (low high : ℕ) (p : Part) (before : List Visit) (l : Label) (ps : List Part)
      → content_of names bytes p ≡ plain l ps → (a : Answer Readings) → TellsAll level inside low high ps before a → IsReading level inside low high p before (of_plain l a)
  unfolding of_plain finished valued
  plain_tells level inside low high p before l ps e unfinished h = tt
  plain_tells level inside low high p before l ps e refused h = λ v rs after k a. let o = by_plain names bytes e k in h o.vs rs after o.all a
  plain_tells level inside low high p before l ps e (found r) h = by_tests (legal l) refl (made l r.values) refl
    where
      by_tests : (b : Bool) → legal l ≡ b → (m : Option Value) → made l r.values ≡ m → IsReading level inside low high p before (finished b (valued r.regions r.after m))
      by_tests true x (Some v) y = (holds_plain e (is_legal l x) h.0 y, h.1)
      by_tests true x None y = λ v rs after k a.
          let o = by_plain names bytes e k in
          let alike = (one_list names bytes o.vs rs after h.0 o.all).values in
          let is = o.is_made in
          cc
      by_tests false x m y = λ v rs after k a.
          let o = by_plain names bytes e k in
          let t = tests_legal l o.legal in
          cc

  claimed_tells : (level : ℕ) (inside : List OpenShared) (low high : ℕ) (p : Part) (before : List Visit) (s : Span) (l : Label) (ps : List Part)
      → content_of names bytes p ≡ claimed s l ps
      → (low ≤ s.start) × (s.start + s.size ≤ high) × (s.start % s.align ≡ 0)
      → (a : Answer Readings) → TellsAll (suc level) inside low s.start ps before a → IsReading level inside low high p before (of_claimed l (region_of s level) a)
  unfolding of_claimed finished valued Ascends
  claimed_tells level inside low high p before s l ps e f unfinished h = tt
  claimed_tells level inside low high p before s l ps e f refused h = λ v rs after k a.
      let o = by_claimed names bytes e k in
      let both = (Ascends-append low high o.within (region_of s level ∷ [])).0 (subst (Ascends low high) o.regions_are a) in
      h o.vs o.within after o.all (ascends_below low high s.start o.within both.0 (end_first (end_after low o.within) both.1))
    where
      end_first : (from : ℕ) → Ascends from high (region_of s level ∷ []) → from ≤ s.start
      end_first from a = a.0.after
  claimed_tells level inside low high p before s l ps e f (found r) h = by_tests (legal l) refl (made l r.values) refl
    where
      one_region : (from : ℕ) → from ≤ s.start → Ascends from high (region_of s level ∷ [])
      one_region from below = (record { after = below; aligned = f.2; inside = f.1 }, tt)

      by_tests : (b : Bool) → legal l ≡ b → (m : Option Value) → made l r.values ≡ m → IsReading level inside low high p before (finished b (valued (r.regions ++ region_of s level ∷ []) r.after m))
      by_tests true x (Some v) y = (
        holds_claimed e (is_legal l x) h.0 y refl,
        (Ascends-append low high r.regions (region_of s level ∷ [])).1 (
          ascends_raised low s.start high r.regions (let end = f.1 in omega arith) h.1,
          one_region (end_after low r.regions) (end_below low s.start r.regions f.0 h.1),
        ),
      )
      by_tests true x None y = λ v rs after k a.
          let o = by_claimed names bytes e k in
          let alike = (one_list names bytes o.vs o.within after h.0 o.all).values in
          let is = o.is_made in
          cc
      by_tests false x m y = λ v rs after k a.
          let o = by_claimed names bytes e k in
          let t = tests_legal l o.legal in
          cc

  claims_elsewhere : (level : ℕ) (inside : List OpenShared) (low high : ℕ) (p : Part) (before : List Visit) (s : Span) (l : Label) (ps : List Part)
      → content_of names bytes p ≡ claimed s l ps → fits low high s ≡ false → IsReading level inside low high p before refused
  unfolding Ascends
  claims_elsewhere level inside low high p before s l ps e f v rs after k a =
      let o = by_claimed names bytes e k in
      let both = (Ascends-append low high o.within (region_of s level ∷ [])).0 (subst (Ascends low high) o.regions_are a) in
      let grows = end_after-grows low high o.within both.0 in
      let own = first_follows (end_after low o.within) both.1 in
      let t = tests_fit low high s (let first = own.after in omega arith) own.inside own.aligned in
      cc
    where
      first_follows : (from : ℕ) → Ascends from high (region_of s level ∷ []) → Follows from high (region_of s level)
      first_follows from a = a.0

  first_tells : (level : ℕ) (inside : List OpenShared) (low high : ℕ) (p : Part) (before : List Visit) (cyclic : Bool) (t : ℕ) (q : Pointee) (len : ℕ)
      → content_of names bytes p ≡ counting cyclic t q len → open_at inside t ≡ None → visited before t ≡ None
      → (a : Answer Readings) → TellsAll level (record { pos = t; pointee = q; len = len } ∷ inside) low high (behind t q len ∷ []) before a
      → IsReading level inside low high p before (of_counted t q len a)
  unfolding of_counted of_first
  first_tells level inside low high p before cyclic t q len e x y unfinished h = tt
  first_tells level inside low high p before cyclic t q len e x y refused h = λ v rs after k a. none_first (by_counting names bytes e k) a
    where
      none_first : {v : Value} {rs : List Region} {after : List Visit} → CountedHolds names bytes level inside cyclic t q len v rs before after → Ascends low high rs → ⊥
      none_first {rs = rs} (is_first {w = w} {between = between} x' y' k d g) a =
          h (more_values w no_values) rs between (holds_more k (holds_none refl refl refl) refl (sym (append-nil rs))) a
      none_first (is_later x' y' d g h') a = cc
      none_first (is_back c x' d g h') a = cc
  first_tells level inside low high p before cyclic t q len e x y (found r) h = by_values r.values r.regions r.after h.0 h.1
    where
      by_values : (vs : Values) (rs : List Region) (after : List Visit)
          → HoldAll names bytes level (record { pos = t; pointee = q; len = len } ∷ inside) (behind t q len ∷ []) vs rs before after → Ascends low high rs
          → IsReading level inside low high p before (of_first t q len rs after vs)
      by_values no_values rs after k a = tt
      by_values (more_values v no_values) rs after k a = (held k, a)
        where
          held : HoldAll names bytes level (record { pos = t; pointee = q; len = len } ∷ inside) (behind t q len ∷ []) (more_values v no_values) rs before after
              → Holds names bytes level inside p (counted t v) rs before (record { pos = t; pointee = q; len = len; value = v } ∷ after)
          held (holds_more {v = w} {here = here} {between = between} k (holds_none f g z) d r) =
              let er : here ≡ rs = sym (r ∙ ap (λ x. here ++ x) g ∙ append-nil here) in
              let ev : w ≡ v = cc in
              let ea : between ≡ after = sym z in
              holds_first e x y
              (subst (λ b. Holds names bytes level (record { pos = t; pointee = q; len = len } ∷ inside) (behind t q len) v rs before b) ea
              (subst (λ b. Holds names bytes level (record { pos = t; pointee = q; len = len } ∷ inside) (behind t q len) v b before between) er
              (subst (λ b. Holds names bytes level (record { pos = t; pointee = q; len = len } ∷ inside) (behind t q len) b here before between) ev k)))
              refl refl
      by_values (more_values v (more_values w vs)) rs after k a = tt

  later_tells : (level : ℕ) (inside : List OpenShared) (low high : ℕ) (p : Part) (before : List Visit) (cyclic : Bool) (t : ℕ) (q : Pointee) (len : ℕ) (w : Visit)
      → content_of names bytes p ≡ counting cyclic t q len → open_at inside t ≡ None → visited before t ≡ Some w
      → (b : Bool) → same_visit w t q len ≡ b → IsReading level inside low high p before (again b (counted t w.value) before)
  unfolding again Ascends
  later_tells level inside low high p before cyclic t q len w e x y true f =
      (holds_later e x (y ∙ ap Some (visit_is w t q len f)) refl refl refl, tt)
  later_tells level inside low high p before cyclic t q len w e x y false f = λ v rs after k a. other (by_counting names bytes e k)
    where
      other : {v : Value} {rs : List Region} {after : List Visit} → CountedHolds names bytes level inside cyclic t q len v rs before after → ⊥
      other (is_first x' y' k d g) = cc
      other (is_later {w = u} x' y' d g h') =
          let i = visit_itself t q len u in
          let j : w ≡ record { pos = t; pointee = q; len = len; value = u } = some_is (sym y ∙ y') in
          let k = ap (λ z. same_visit z t q len) j in
          cc
        where
          some_is : {a b : Visit} → ◌≡◌ {A = Option Visit} (Some a) (Some b) → a ≡ b
          some_is z = cc
      other (is_back c x' d g h') = cc

  back_tells : (level : ℕ) (inside : List OpenShared) (low high : ℕ) (p : Part) (before : List Visit) (cyclic : Bool) (t : ℕ) (q : Pointee) (len : ℕ) (o : OpenShared)
      → content_of names bytes p ≡ counting cyclic t q len → open_at inside t ≡ Some o
      → (b : Bool) → (cyclic && same_opened o t q len) ≡ b → IsReading level inside low high p before (again b (back t) before)
  unfolding again Ascends
  back_tells level inside low high p before cyclic t q len o e x true f =
      let c = both_left cyclic _ f in
      (holds_back (e ∙ ap (λ z. counting z t q len) c) (x ∙ ap Some (opened_is o t q len (both_right cyclic _ f))) refl refl refl, tt)
  back_tells level inside low high p before cyclic t q len o e x false f = λ v rs after k a. other (by_counting names bytes e k)
    where
      other : {v : Value} {rs : List Region} {after : List Visit} → CountedHolds names bytes level inside cyclic t q len v rs before after → ⊥
      other (is_first x' y' k d g) = cc
      other (is_later x' y' d g h') = cc
      other (is_back c x' d g h') =
          let j : o ≡ record { pos = t; pointee = q; len = len } = some_is (sym x ∙ x') in
          let k = ap (λ z. same_opened z t q len) j in
          let m = both cyclic (same_opened o t q len) c (k ∙ opened_itself t q len) in
          cc
        where
          some_is : {a b : OpenShared} → ◌≡◌ {A = Option OpenShared} (Some a) (Some b) → a ≡ b
          some_is z = cc

  counted_tells : (all : Evaluator) → ((level : ℕ) (inside : List OpenShared) (low high : ℕ) (ps : List Part) (before : List Visit) → TellsAll level inside low high ps before (all level inside low high ps before))
      → (level : ℕ) (inside : List OpenShared) (low high : ℕ) (p : Part) (before : List Visit) (cyclic : Bool) (t : ℕ) (q : Pointee) (len : ℕ)
      → content_of names bytes p ≡ counting cyclic t q len
      → (o : Option OpenShared) → open_at inside t ≡ o → (w : Option Visit) → visited before t ≡ w
      → IsReading level inside low high p before (counted_part all level inside low high before cyclic t q len o w)
  unfolding counted_part
  counted_tells all h level inside low high p before cyclic t q len e (Some o) x w y = back_tells level inside low high p before cyclic t q len o e x _ refl
  counted_tells all h level inside low high p before cyclic t q len e None x (Some w) y = later_tells level inside low high p before cyclic t q len w e x y _ refl
  counted_tells all h level inside low high p before cyclic t q len e None x None y =
      first_tells level inside low high p before cyclic t q len e x y _ (h level (record { pos = t; pointee = q; len = len } ∷ inside) low high (behind t q len ∷ []) before)

  part_tells : (all : Evaluator) → ((level : ℕ) (inside : List OpenShared) (low high : ℕ) (ps : List Part) (before : List Visit) → TellsAll level inside low high ps before (all level inside low high ps before))
      → (level : ℕ) (inside : List OpenShared) (low high : ℕ) (p : Part) (before : List Visit) (c : Content)
      → content_of names bytes p ≡ c → IsReading level inside low high p before (one_part all level inside low high before c)
  unfolding one_part
  part_tells all h level inside low high p before illegal e = illegal_tells level inside low high p before e
  part_tells all h level inside low high p before (plain l ps) e = plain_tells level inside low high p before l ps e _ (h level inside low high ps before)
  part_tells all h level inside low high p before (claimed s l ps) e = by_test (fits low high s) refl
    where
      by_test : (b : Bool) → fits low high s ≡ b
          → IsReading level inside low high p before (elim b [ true ↦ of_claimed l (region_of s level) (all (suc level) inside low s.start ps before) | false ↦ refused ])
      by_test true f = claimed_tells level inside low high p before s l ps e (it_fits low high s f) _ (h (suc level) inside low s.start ps before)
      by_test false f = claims_elsewhere level inside low high p before s l ps e f
  part_tells all h level inside low high p before (counting cyclic t q len) e =
      counted_tells all h level inside low high p before cyclic t q len e (open_at inside t) refl (visited before t) refl

  joined_tells : (level : ℕ) (inside : List OpenShared) (low high : ℕ) (p : Part) (ps : List Part) (before : List Visit) (first : Reading)
      → IsReading level inside low high p before (found first)
      → (a : Answer Readings) → TellsAll level inside (end_after low first.regions) high ps first.after a → TellsAll level inside low high (p ∷ ps) before (joined first a)
  unfolding joined
  joined_tells level inside low high p ps before first h unfinished k = tt
  joined_tells level inside low high p ps before first h refused k = λ vs rs after all a. none all a
    where
      none : {vs : Values} {rs : List Region} {after : List Visit} → HoldAll names bytes level inside (p ∷ ps) vs rs before after → Ascends low high rs → ⊥
      none {after = after} (holds_more {v = v} {vs = vs} {here = here} {later = later} {between = between} g gs e r) a =
          let alike = one_value names bytes v here between h.0 g in
          let both = (Ascends-append low high here later).0 (subst (Ascends low high) r a) in
          k vs later after
          (subst (λ b. HoldAll names bytes level inside ps vs later b after) (sym alike.after) gs)
          (subst (λ b. Ascends (end_after low b) high later) (sym alike.regions) both.1)
  joined_tells level inside low high p ps before first h (found r) k =
      (holds_more h.0 k.0 refl refl, (Ascends-append low high first.regions r.regions).1 (h.1, k.1))

  and_then_tells : (level : ℕ) (inside : List OpenShared) (low high : ℕ) (p : Part) (ps : List Part) (before : List Visit) (a : Answer Reading) (rest : Reading → Answer Readings)
      → IsReading level inside low high p before a
      → ((r : Reading) → TellsAll level inside (end_after low r.regions) high ps r.after (rest r))
      → TellsAll level inside low high (p ∷ ps) before (and_then a rest)
  unfolding and_then
  and_then_tells level inside low high p ps before unfinished rest h k = tt
  and_then_tells level inside low high p ps before refused rest h k = λ vs rs after all a. none all a
    where
      none : {vs : Values} {rs : List Region} {after : List Visit} → HoldAll names bytes level inside (p ∷ ps) vs rs before after → Ascends low high rs → ⊥
      none (holds_more {v = v} {here = here} {later = later} {between = between} g gs e r) a =
          h v here between g ((Ascends-append low high here later).0 (subst (Ascends low high) r a)).0
  and_then_tells level inside low high p ps before (found r) rest h k = joined_tells level inside low high p ps before r h (rest r) (k r)

  pub evaluate_all_tells : (fuel level : ℕ) (inside : List OpenShared) (low high : ℕ) (ps : List Part) (before : List Visit)
      → TellsAll level inside low high ps before (evaluate_all fuel names bytes level inside low high ps before)
  unfolding evaluate_all Ascends
  evaluate_all_tells zero level inside low high ps before = tt
  evaluate_all_tells (suc fuel) level inside low high [] before = (holds_none refl refl refl, tt)
  evaluate_all_tells (suc fuel) level inside low high (p ∷ ps) before =
      and_then_tells level inside low high p ps before _ _
      (part_tells _ (λ l i a b qs w. evaluate_all_tells fuel l i a b qs w) level inside low high p before (content_of names bytes p) refl)
      (λ r. evaluate_all_tells fuel level inside (end_after low r.regions) high ps r.after)

  alone_tells : (level : ℕ) (inside : List OpenShared) (low high : ℕ) (p : Part) (before : List Visit) (a : Answer Readings)
      → TellsAll level inside low high (p ∷ []) before a → IsReading level inside low high p before (alone a)
  unfolding alone
  alone_tells level inside low high p before unfinished h = tt
  alone_tells level inside low high p before refused h = λ v rs after k a.
      h (more_values v no_values) rs after (holds_more k (holds_none refl refl refl) refl (sym (append-nil rs))) a
  alone_tells level inside low high p before (found r) h = by_values r.values r.regions r.after h.0 h.1
    where
      by_values : (vs : Values) (rs : List Region) (after : List Visit) → HoldAll names bytes level inside (p ∷ []) vs rs before after → Ascends low high rs
          → IsReading level inside low high p before (alone (found (record { values = vs; regions = rs; after = after })))
      by_values no_values rs after k a = tt
      by_values (more_values v no_values) rs after k a = (held k, a)
        where
          held : HoldAll names bytes level inside (p ∷ []) (more_values v no_values) rs before after → Holds names bytes level inside p v rs before after
          held (holds_more {v = w} {here = here} {between = between} k (holds_none f g z) d r) =
              let er : here ≡ rs = sym (r ∙ ap (λ x. here ++ x) g ∙ append-nil here) in
              let ev : w ≡ v = cc in
              let ea : between ≡ after = sym z in
              subst (λ b. Holds names bytes level inside p v rs before b) ea
              (subst (λ b. Holds names bytes level inside p v b before between) er
              (subst (λ b. Holds names bytes level inside p b here before between) ev k))
      by_values (more_values v (more_values w vs)) rs after k a = tt

  pub evaluate_tells : (fuel level : ℕ) (inside : List OpenShared) (low high : ℕ) (p : Part) (before : List Visit)
      → IsReading level inside low high p before (evaluate fuel names bytes level inside low high p before)
  unfolding evaluate
  evaluate_tells fuel level inside low high p before = alone_tells level inside low high p before _ (evaluate_all_tells fuel level inside low high (p ∷ []) before)

  -- a root that is found is there
  pub root_found : (fuel pos : ℕ) (s : Shape) (v : Value) (rs : List Region) (visits : List Visit)
      → evaluate_root fuel names bytes pos s ≡ found (record { value = v; regions = rs; after = visits }) → HasRoot names bytes pos s v rs visits
  unfolding evaluate_root
  root_found fuel pos s v rs visits e =
      let h = subst (IsReading 0 [] 0 (length bytes) (behind pos (sized s) 1) []) e (evaluate_tells fuel 0 [] 0 (length bytes) (behind pos (sized s) 1) []) in
      record { holds = h.0; ascends = h.1 }

  -- where a root is refused there is none
  pub root_refused : (fuel pos : ℕ) (s : Shape) → evaluate_root fuel names bytes pos s ≡ refused
      → (v : Value) (rs : List Region) (visits : List Visit) → HasRoot names bytes pos s v rs visits → ⊥
  unfolding evaluate_root
  root_refused fuel pos s e v rs visits root =
      let h = subst (IsReading 0 [] 0 (length bytes) (behind pos (sized s) 1) []) e (evaluate_tells fuel 0 [] 0 (length bytes) (behind pos (sized s) 1) []) in
      h v rs visits root.holds root.ascends
