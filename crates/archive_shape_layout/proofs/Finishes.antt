-- With enough steps the evaluator finds what holds.
use Rattle.std.proofs.Common.{◌≡◌, ℕ, zero, suc, ◌+◌, ◌%◌, ◌≤◌, Bool, true, false, ◌==◌, List, [], ◌∷◌, ◌++◌, length, Option, Some, None, refl, ap, ap₂, sym, subst, ◌∙◌, arith, append-nil}
use Rattle.std.proofs.lemmas.Bool.{le-leb}
use Rattle.std.proofs.lemmas.Str.{is_utf8-from_IsUtf8}
use Rattle.archive_shape_layout.specs.Shape.{Shape, Pointee}
use Rattle.archive_shape_layout.specs.Shape.Pointee.{sized}
use Rattle.archive_shape_layout.specs.Value.{Value, Values}
use Rattle.archive_shape_layout.specs.Value.Value.{counted, back}
use Rattle.archive_shape_layout.specs.Value.Values.{no_values, more_values}
use Rattle.archive_shape_layout.specs.Content.{Names, Part, Span, Label, Content, content_of, made, IsLegal}
use Rattle.archive_shape_layout.specs.Content.Part.{behind}
use Rattle.archive_shape_layout.specs.Content.Label.{leaf, written, same, second, whole, tagged, woven, total}
use Rattle.archive_shape_layout.specs.Content.Content.{plain, claimed, counting}
use Rattle.archive_shape_layout.specs.Holds.{Region, region_of, Visit, OpenShared, visited, open_at, end_after, Ascends, Follows, Holds, HoldAll, HasRoot}
use Rattle.archive_shape_layout.specs.Holds.Holds.{holds_plain, holds_claimed, holds_first, holds_later, holds_back}
use Rattle.archive_shape_layout.specs.Holds.HoldAll.{holds_none, holds_more}
use Rattle.archive_shape_layout.proofs.SameShape.{pointee_itself, both, equal}
use Rattle.archive_shape_layout.proofs.Ascent.{Ascends-append, end_after-grows}
use Rattle.archive_shape_layout.proofs.Evaluated.{ascends_below, tests_fit, visit_itself, tests_legal, opened_itself}
use Rattle.archive_shape_layout.proofs.Evaluate.{Answer, found, refused, Reading, Readings, Evaluator, legal, valued, finished, of_plain, of_claimed, fits, again, same_visit, same_opened, of_first, of_counted, counted_part, one_part, joined, and_then, evaluate_all, alone, evaluate, evaluate_root}

-- ---- tests

-- the region that is claimed last, and those inside it
record Claim (level low high : ℕ) (within : List Region) (s : Span) : Type 0 where
  inner : Ascends low s.start within
  passes : fits low high s ≡ true

claim_of : (level low high : ℕ) (within : List Region) (s : Span) → Ascends low high (within ++ region_of s level ∷ []) → Claim level low high within s
unfolding Ascends
claim_of level low high within s a =
    let both = (Ascends-append low high within (region_of s level ∷ [])).0 a in
    let own : Follows (end_after low within) high (region_of s level) = both.1.0 in
    let after = own.after in
    let grows = end_after-grows low high within both.0 in
    record { inner = ascends_below low high s.start within both.0 after; passes = tests_fit low high s (omega arith) own.inside own.aligned }

-- ---- one step

abbrev reading : Value → List Region → List Visit → Answer Reading
reading v regions after = found (record { value = v; regions = regions; after = after })

abbrev readings : Values → List Region → List Visit → Answer Readings
readings vs regions after = found (record { values = vs; regions = regions; after = after })

same_reading : {v w : Value} {rs qs : List Region} {a b : List Visit} → v ≡ w → rs ≡ qs → a ≡ b → reading v rs a ≡ reading w qs b
same_reading {v = v} {w = w} {rs = rs} {qs = qs} {a = a} {b = b} x y z = ap₂ (λ u ps. reading u ps a) x y ∙ ap (λ c. reading w qs c) z

same_readings : {vs ws : Values} {rs qs : List Region} {a b : List Visit} → vs ≡ ws → rs ≡ qs → a ≡ b → readings vs rs a ≡ readings ws qs b
same_readings {vs = vs} {ws = ws} {rs = rs} {qs = qs} {a = a} {b = b} x y z = ap₂ (λ us ps. readings us ps a) x y ∙ ap (λ c. readings ws qs c) z

made_passes : (l : Label) (vs : Values) (v : Value) (regions : List Region) (after : List Visit)
    → IsLegal l → made l vs ≡ Some v → finished (legal l) (valued regions after (made l vs)) ≡ reading v regions after
unfolding finished valued
made_passes l vs v regions after legal m = ap₂ (λ b w. finished b (valued regions after w)) (tests_legal l legal) m

module _ (all : Evaluator) (level : ℕ) (inside : List OpenShared) (low high : ℕ) (before : List Visit) where
  plain_step : (c : Content) (l : Label) (ps : List Part) (vs : Values) (v : Value) (regions : List Region) (after : List Visit)
      → c ≡ plain l ps
      → IsLegal l
      → made l vs ≡ Some v
      → all level inside low high ps before ≡ readings vs regions after
      → one_part all level inside low high before c ≡ reading v regions after
  unfolding one_part of_plain
  plain_step c l ps vs v regions after e legal m h =
      ap (one_part all level inside low high before) e ∙ (ap (of_plain l) h ∙ made_passes l vs v regions after legal m)

  claimed_step : (c : Content) (s : Span) (l : Label) (ps : List Part) (vs : Values) (v : Value) (within : List Region) (after : List Visit)
      → c ≡ claimed s l ps
      → IsLegal l
      → made l vs ≡ Some v
      → fits low high s ≡ true
      → all (suc level) inside low s.start ps before ≡ readings vs within after
      → one_part all level inside low high before c ≡ reading v (within ++ region_of s level ∷ []) after
  unfolding one_part of_claimed
  claimed_step c s l ps vs v within after e legal m f h =
      ap (one_part all level inside low high before) e
      ∙ (ap {A = Bool} (λ b. elim b [ true ↦ of_claimed l (region_of s level) (all (suc level) inside low s.start ps before) | false ↦ refused ]) f
      ∙ (ap (of_claimed l (region_of s level)) h
      ∙ made_passes l vs v (within ++ region_of s level ∷ []) after legal m))

  counted_step : (c : Content) (cyclic : Bool) (t : ℕ) (q : Pointee) (len : ℕ) (o : Option OpenShared) (w : Option Visit)
      → c ≡ counting cyclic t q len
      → open_at inside t ≡ o
      → visited before t ≡ w
      → one_part all level inside low high before c ≡ counted_part all level inside low high before cyclic t q len o w
  unfolding one_part
  counted_step c cyclic t q len o w e x y =
      ap (one_part all level inside low high before) e ∙ ap₂ (counted_part all level inside low high before cyclic t q len) x y

  first_step : (cyclic : Bool) (t : ℕ) (q : Pointee) (len : ℕ) (v : Value) (regions : List Region) (after : List Visit)
      → all level (record { pos = t; pointee = q; len = len } ∷ inside) low high (behind t q len ∷ []) before ≡ readings (more_values v no_values) regions after
      → counted_part all level inside low high before cyclic t q len None None ≡ reading (counted t v) regions (record { pos = t; pointee = q; len = len; value = v } ∷ after)
  unfolding counted_part of_counted of_first
  first_step cyclic t q len v regions after h = ap (of_counted t q len) h

  later_step : (cyclic : Bool) (t : ℕ) (q : Pointee) (len : ℕ) (v : Value)
      → counted_part all level inside low high before cyclic t q len None (Some (record { pos = t; pointee = q; len = len; value = v })) ≡ reading (counted t v) [] before
  unfolding counted_part again
  later_step cyclic t q len v = ap (λ b. again b (counted t v) before) (visit_itself t q len v)

  back_step : (t : ℕ) (q : Pointee) (len : ℕ) (w : Option Visit)
      → counted_part all level inside low high before true t q len (Some (record { pos = t; pointee = q; len = len })) w ≡ reading (back t) [] before
  unfolding counted_part again
  back_step t q len w = ap (λ b. again b (back t) before) (both true _ refl (opened_itself t q len))

-- ---- from a number of steps on

module _ (names : Names) (bytes : List ℕ) where
  abbrev part_after : ℕ → ℕ → List OpenShared → ℕ → ℕ → Part → List Visit → Answer Reading
  part_after n level inside low high p before =
      one_part (λ l i a b qs w. evaluate_all n names bytes l i a b qs w) level inside low high before (content_of names bytes p)

  record Finishes (level : ℕ) (inside : List OpenShared) (low high : ℕ) (p : Part) (before : List Visit) (r : Reading) : Type 0 where
    height : ℕ
    from_there : (n : ℕ) → height ≤ n → part_after n level inside low high p before ≡ found r

  pub record FinishesAll (level : ℕ) (inside : List OpenShared) (low high : ℕ) (ps : List Part) (before : List Visit) (r : Readings) : Type 0 where
    pub height : ℕ
    pub from_there : (n : ℕ) → height ≤ n → evaluate_all n names bytes level inside low high ps before ≡ found r

  none_finish : (level : ℕ) (inside : List OpenShared) (low high : ℕ) (before : List Visit) (n : ℕ)
      → 1 ≤ n → evaluate_all n names bytes level inside low high [] before ≡ readings no_values [] before
  unfolding evaluate_all
  none_finish level inside low high before zero h = absurd (omega arith)
  none_finish level inside low high before (suc n) h = refl

  more_finish : (level : ℕ) (inside : List OpenShared) (low high : ℕ) (p : Part) (ps : List Part) (before : List Visit) (r : Reading) (rs : Readings)
      → Finishes level inside low high p before r
      → FinishesAll level inside (end_after low r.regions) high ps r.after rs
      → FinishesAll level inside low high (p ∷ ps) before (record { values = more_values r.value rs.values; regions = r.regions ++ rs.regions; after = rs.after })
  unfolding evaluate_all and_then joined
  more_finish level inside low high p ps before r rs x y = record { height = suc (x.height + y.height); from_there = steps }
    where
      steps : (n : ℕ) → suc (x.height + y.height) ≤ n
          → evaluate_all n names bytes level inside low high (p ∷ ps) before ≡ readings (more_values r.value rs.values) (r.regions ++ rs.regions) rs.after
      steps zero h = absurd (omega arith)
      steps (suc n) h =
          ap (λ a. and_then a (λ r. evaluate_all n names bytes level inside (end_after low r.regions) high ps r.after)) (x.from_there n (omega arith))
          ∙ ap (joined r) (y.from_there n (omega arith))

  alone_finishes : (level : ℕ) (inside : List OpenShared) (low high : ℕ) (p : Part) (before : List Visit) (r : Reading)
      → Finishes level inside low high p before r
      → FinishesAll level inside low high (p ∷ []) before (record { values = more_values r.value no_values; regions = r.regions; after = r.after })
  alone_finishes level inside low high p before r x =
      let none : FinishesAll level inside (end_after low r.regions) high [] r.after (record { values = no_values; regions = []; after = r.after }) =
      record { height = 1; from_there = none_finish level inside (end_after low r.regions) high r.after } in
      let whole = more_finish level inside low high p [] before r (record { values = no_values; regions = []; after = r.after }) x none in
      record { height = whole.height; from_there = λ n h. whole.from_there n h ∙ ap (λ rs. readings (more_values r.value no_values) rs r.after) (append-nil r.regions) }

  mutual
    part_finishes :
        {level : ℕ} {inside : List OpenShared} {p : Part} {v : Value} {rs : List Region} {before after : List Visit} (low high : ℕ)
        → Holds names bytes level inside p v rs before after
        → Ascends low high rs
        → Finishes level inside low high p before (record { value = v; regions = rs; after = after })
    part_finishes {level = level} {inside = inside} {p = p} {v = v} {rs = rs} {before = before} {after = after} low high (holds_plain {l = l} {ps = ps} {vs = vs} e legal all m) a =
        let rest = all_finish low high all a in
        record { height = rest.height; from_there = λ n h. plain_step _ level inside low high before (content_of names bytes p) l ps vs v rs after e legal m (rest.from_there n h) }
    part_finishes {level = level} {inside = inside} {p = p} {v = v} {rs = rs} {before = before} {after = after} low high (holds_claimed {within = within} {s = s} {l = l} {ps = ps} {vs = vs} e legal all m r) a =
        let claim = claim_of level low high within s (subst (Ascends low high) r a) in
        let rest = all_finish low s.start all claim.inner in
        record {
          height = rest.height;
          from_there = λ n h.
              claimed_step _ level inside low high before (content_of names bytes p) s l ps vs v within after e legal m claim.passes (rest.from_there n h)
              ∙ ap (λ qs. reading v qs after) (sym r);
        }
    part_finishes {level = level} {inside = inside} {p = p} {v = v} {rs = rs} {before = before} {after = after} low high (holds_first {w = w} {between = between} {cyclic = cyclic} {t = t} {q = q} {len = len} e x y h d g) a =
        let rest = alone_finishes level (record { pos = t; pointee = q; len = len } ∷ inside) low high (behind t q len) before (record { value = w; regions = rs; after = between }) (part_finishes low high h a) in
        record {
          height = rest.height;
          from_there = λ n k.
              counted_step _ level inside low high before (content_of names bytes p) cyclic t q len None None e x y
              ∙ (first_step _ level inside low high before cyclic t q len w rs between (rest.from_there n k)
              ∙ ap₂ (λ u b. reading u rs b) (sym d) (sym g));
        }
    part_finishes {level = level} {inside = inside} {p = p} {v = v} {rs = rs} {before = before} {after = after} low high (holds_later {w = w} {cyclic = cyclic} {t = t} {q = q} {len = len} e x y d f g) a = record {
      height = 0;
      from_there = λ n k.
          counted_step _ level inside low high before (content_of names bytes p) cyclic t q len None (Some (record { pos = t; pointee = q; len = len; value = w })) e x y
          ∙ (later_step _ level inside low high before cyclic t q len w
          ∙ same_reading (sym d) (sym f) (sym g));
    }
    part_finishes {level = level} {inside = inside} {p = p} {v = v} {rs = rs} {before = before} {after = after} low high (holds_back {t = t} {q = q} {len = len} e x d f g) a = record {
      height = 0;
      from_there = λ n k.
          counted_step _ level inside low high before (content_of names bytes p) true t q len (Some (record { pos = t; pointee = q; len = len })) (visited before t) e x refl
          ∙ (back_step _ level inside low high before t q len (visited before t)
          ∙ same_reading (sym d) (sym f) (sym g));
    }

    pub all_finish :
        {level : ℕ} {inside : List OpenShared} {ps : List Part} {vs : Values} {rs : List Region} {before after : List Visit} (low high : ℕ)
        → HoldAll names bytes level inside ps vs rs before after
        → Ascends low high rs
        → FinishesAll level inside low high ps before (record { values = vs; regions = rs; after = after })
    all_finish {level = level} {inside = inside} {before = before} low high (holds_none e f g) a =
        record { height = 1; from_there = λ n h. none_finish level inside low high before n h ∙ same_readings (sym e) (sym f) (sym g) }
    all_finish {level = level} {inside = inside} {before = before} {after = after} low high (holds_more {p = p} {ps = ps} {v = v} {vs = vs} {here = here} {later = later} {between = between} h hs e r) a =
        let both = (Ascends-append low high here later).0 (subst (Ascends low high) r a) in
        let whole =
        more_finish level inside low high p ps before (record { value = v; regions = here; after = between }) (record { values = vs; regions = later; after = after })
        (part_finishes low high h both.0) (all_finish (end_after low here) high hs both.1) in
        record { height = whole.height; from_there = λ n k. whole.from_there n k ∙ same_readings (sym e) (sym r) refl }

  -- the evaluator finds exactly this root, from a number of steps on
  pub record FinishesRoot (pos : ℕ) (s : Shape) (r : Reading) : Type 0 where
    pub height : ℕ
    pub from_there : (n : ℕ) → height ≤ n → evaluate_root n names bytes pos s ≡ found r

  pub root_finishes : (pos : ℕ) (s : Shape) (v : Value) (rs : List Region) (visits : List Visit)
      → HasRoot names bytes pos s v rs visits → FinishesRoot pos s (record { value = v; regions = rs; after = visits })
  unfolding evaluate_root evaluate alone
  root_finishes pos s v rs visits root =
      let whole =
      alone_finishes 0 [] 0 (length bytes) (behind pos (sized s) 1) [] (record { value = v; regions = rs; after = visits })
      (part_finishes 0 (length bytes) root.holds root.ascends) in
      record { height = whole.height; from_there = λ n h. ap alone (whole.from_there n h) }
