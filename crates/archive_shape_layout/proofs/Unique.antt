-- Bytes have one value of a shape at a position, one list of regions, and leave one set of shared positions.
use Rattle.std.proofs.Common.{◌≡◌, ℕ, Bool, true, suc, List, [], ◌∷◌, ◌++◌, Option, Some, None, refl, ap, ap₂, sym, subst, ◌∙◌}
use Rattle.archive_shape_layout.specs.Shape.{Pointee}
use Rattle.archive_shape_layout.specs.Value.{Value, Values}
use Rattle.archive_shape_layout.specs.Value.Value.{counted, back}
use Rattle.archive_shape_layout.specs.Content.{Names, Part, Span, Label, content_of, made, IsLegal}
use Rattle.archive_shape_layout.specs.Content.Part.{behind}
use Rattle.archive_shape_layout.specs.Content.Content.{plain, claimed, counting}
use Rattle.archive_shape_layout.specs.Laws.{Agree, OneValue}
use Rattle.archive_shape_layout.specs.Holds.{Region, region_of, Visit, OpenShared, visited, open_at, Holds, HoldAll}
use Rattle.archive_shape_layout.specs.Holds.Holds.{holds_plain, holds_claimed, holds_first, holds_later, holds_back}
use Rattle.archive_shape_layout.specs.Holds.HoldAll.{holds_none, holds_more}

-- a visit's value is read off the visit
visit_value : (x y : Visit) → ◌≡◌ {A = Option Visit} (Some x) (Some y) → x.value ≡ y.value
visit_value x y e = let same : x ≡ y = cc in ap (λ (v : Visit). v.value) same

module _ (names : Names) (bytes : List ℕ) where
  -- what a plain part's value depends on
  pub record PlainHolds (level : ℕ) (inside : List OpenShared) (l : Label) (ps : List Part) (v : Value) (regions : List Region) (before after : List Visit) : Type 0 where
    pub vs : Values
    pub legal : IsLegal l
    pub all : HoldAll names bytes level inside ps vs regions before after
    pub is_made : made l vs ≡ Some v

  pub record ClaimedHolds (level : ℕ) (inside : List OpenShared) (s : Span) (l : Label) (ps : List Part) (v : Value) (regions : List Region) (before after : List Visit) : Type 0 where
    pub vs : Values
    pub within : List Region
    pub legal : IsLegal l
    pub all : HoldAll names bytes (suc level) inside ps vs within before after
    pub is_made : made l vs ≡ Some v
    pub regions_are : regions ≡ within ++ region_of s level ∷ []

  pub data CountedHolds : ℕ → List OpenShared → Bool → ℕ → Pointee → ℕ → Value → List Region → List Visit → List Visit → Type 0 where
    is_first :
        {level : ℕ} {inside : List OpenShared} {v w : Value} {regions : List Region} {before after between : List Visit} {cyclic : Bool} {t : ℕ} {q : Pointee} {len : ℕ}
        → open_at inside t ≡ None
        → visited before t ≡ None
        → Holds names bytes level (record { pos = t; pointee = q; len = len } ∷ inside) (behind t q len) w regions before between
        → v ≡ counted t w
        → after ≡ record { pos = t; pointee = q; len = len; value = w } ∷ between
        → CountedHolds level inside cyclic t q len v regions before after
    is_later :
        {level : ℕ} {inside : List OpenShared} {v w : Value} {regions : List Region} {before after : List Visit} {cyclic : Bool} {t : ℕ} {q : Pointee} {len : ℕ}
        → open_at inside t ≡ None
        → visited before t ≡ Some (record { pos = t; pointee = q; len = len; value = w })
        → v ≡ counted t w
        → regions ≡ []
        → after ≡ before
        → CountedHolds level inside cyclic t q len v regions before after
    is_back :
        {level : ℕ} {inside : List OpenShared} {v : Value} {regions : List Region} {before after : List Visit} {cyclic : Bool} {t : ℕ} {q : Pointee} {len : ℕ}
        → cyclic ≡ true
        → open_at inside t ≡ Some (record { pos = t; pointee = q; len = len })
        → v ≡ back t
        → regions ≡ []
        → after ≡ before
        → CountedHolds level inside cyclic t q len v regions before after

  pub by_plain :
      {level : ℕ} {inside : List OpenShared} {p : Part} {l : Label} {ps : List Part} {v : Value} {regions : List Region} {before after : List Visit}
      → content_of names bytes p ≡ plain l ps
      → Holds names bytes level inside p v regions before after
      → PlainHolds level inside l ps v regions before after
  by_plain {level = level} {inside = inside} {l = l} {ps = ps} {v = v} {regions = regions} {before = before} {after = after} e (holds_plain {l = l'} {ps = ps'} {vs = vs} f legal all m) =
      let el : l' ≡ l = cc in
      let ep : ps' ≡ ps = cc in
      record { vs = vs; legal = subst IsLegal el legal; all = subst (λ x. HoldAll names bytes level inside x vs regions before after) ep all; is_made = subst (λ x. made x vs ≡ Some v) el m }
  by_plain e (holds_claimed f legal all m r) = absurd (cc)
  by_plain e (holds_first f a b c d g) = absurd (cc)
  by_plain e (holds_later f a b c d g) = absurd (cc)
  by_plain e (holds_back f a b c d) = absurd (cc)

  pub by_claimed :
      {level : ℕ} {inside : List OpenShared} {p : Part} {s : Span} {l : Label} {ps : List Part} {v : Value} {regions : List Region} {before after : List Visit}
      → content_of names bytes p ≡ claimed s l ps
      → Holds names bytes level inside p v regions before after
      → ClaimedHolds level inside s l ps v regions before after
  by_claimed e (holds_plain f legal all m) = absurd (cc)
  by_claimed {level = level} {inside = inside} {s = s} {l = l} {ps = ps} {v = v} {regions = regions} {before = before} {after = after} e (holds_claimed {within = within} {s = s'} {l = l'} {ps = ps'} {vs = vs} f legal all m r) =
      let es : s' ≡ s = cc in
      let el : l' ≡ l = cc in
      let ep : ps' ≡ ps = cc in
      record {
        vs = vs;
        within = within;
        legal = subst IsLegal el legal;
        all = subst (λ x. HoldAll names bytes (suc level) inside x vs within before after) ep all;
        is_made = subst (λ x. made x vs ≡ Some v) el m;
        regions_are = r ∙ ap (λ x. within ++ region_of x level ∷ []) es;
      }
  by_claimed e (holds_first f a b c d g) = absurd (cc)
  by_claimed e (holds_later f a b c d g) = absurd (cc)
  by_claimed e (holds_back f a b c d) = absurd (cc)

  pub by_counting :
      {level : ℕ} {inside : List OpenShared} {p : Part} {cyclic : Bool} {t : ℕ} {q : Pointee} {len : ℕ} {v : Value} {regions : List Region} {before after : List Visit}
      → content_of names bytes p ≡ counting cyclic t q len
      → Holds names bytes level inside p v regions before after
      → CountedHolds level inside cyclic t q len v regions before after
  by_counting e (holds_plain f legal all m) = absurd (cc)
  by_counting e (holds_claimed f legal all m r) = absurd (cc)
  by_counting {level = level} {inside = inside} {cyclic = cyclic} {t = t} {q = q} {len = len} {v = v} {regions = regions} {before = before} {after = after} e (holds_first {w = w} {between = between} {cyclic = c'} {t = t'} {q = q'} {len = len'} f a b h d g) =
      let same : content_of names bytes _ ≡ _ = e in
      let ec : c' ≡ cyclic = cc in
      let et : t' ≡ t = cc in
      let eq : q' ≡ q = cc in
      let el : len' ≡ len = cc in
      let whole : CountedHolds level inside c' t' q' len' v regions before after = is_first a b h d g in
      subst (λ x. CountedHolds level inside cyclic t q x v regions before after) el
      (subst (λ x. CountedHolds level inside cyclic t x len' v regions before after) eq
      (subst (λ x. CountedHolds level inside cyclic x q' len' v regions before after) et
      (subst (λ x. CountedHolds level inside x t' q' len' v regions before after) ec whole)))
  by_counting {level = level} {inside = inside} {cyclic = cyclic} {t = t} {q = q} {len = len} {v = v} {regions = regions} {before = before} {after = after} e (holds_later {cyclic = c'} {t = t'} {q = q'} {len = len'} f a b d g h) =
      let ec : c' ≡ cyclic = cc in
      let et : t' ≡ t = cc in
      let eq : q' ≡ q = cc in
      let el : len' ≡ len = cc in
      let whole : CountedHolds level inside c' t' q' len' v regions before after = is_later a b d g h in
      subst (λ x. CountedHolds level inside cyclic t q x v regions before after) el
      (subst (λ x. CountedHolds level inside cyclic t x len' v regions before after) eq
      (subst (λ x. CountedHolds level inside cyclic x q' len' v regions before after) et
      (subst (λ x. CountedHolds level inside x t' q' len' v regions before after) ec whole)))
  by_counting {level = level} {inside = inside} {cyclic = cyclic} {t = t} {q = q} {len = len} {v = v} {regions = regions} {before = before} {after = after} e (holds_back {t = t'} {q = q'} {len = len'} f a d g h) =
      let ec : true ≡ cyclic = cc in
      let et : t' ≡ t = cc in
      let eq : q' ≡ q = cc in
      let el : len' ≡ len = cc in
      let whole : CountedHolds level inside true t' q' len' v regions before after = is_back refl a d g h in
      subst (λ x. CountedHolds level inside cyclic t q x v regions before after) el
      (subst (λ x. CountedHolds level inside cyclic t x len' v regions before after) eq
      (subst (λ x. CountedHolds level inside cyclic x q' len' v regions before after) et
      (subst (λ x. CountedHolds level inside x t' q' len' v regions before after) ec whole)))

  pub record AgreeAll (vs ws : Values) (rs qs : List Region) (a b : List Visit) : Type 0 where
    pub values : vs ≡ ws
    pub regions : rs ≡ qs
    pub after : a ≡ b

  first_agrees :
      {level : ℕ} {inside : List OpenShared} {cyclic : Bool} {t : ℕ} {q : Pointee} {len : ℕ} {v w w' : Value} {rs qs : List Region} {before between after b : List Visit}
      → ((u : Value) (us : List Region) (c : List Visit) → Holds names bytes level (record { pos = t; pointee = q; len = len } ∷ inside) (behind t q len) u us before c → Agree w u rs us between c)
      → open_at inside t ≡ None
      → visited before t ≡ None
      → v ≡ counted t w
      → after ≡ record { pos = t; pointee = q; len = len; value = w } ∷ between
      → CountedHolds level inside cyclic t q len w' qs before b
      → Agree v w' rs qs after b
  first_agrees {t = t} {q = q} {len = len} {w' = w'} {rs = rs} {qs = qs} {between = between} {b = b} ih x y d g (is_first {w = u} {between = c} x' y' h' d' g') =
      let same = ih u qs c h' in
      let ev = same.value in
      let ea = same.after in
      record { value = d ∙ ap (counted t) ev ∙ sym d'; regions = same.regions; after = g ∙ ap₂ (λ (m : Value) (n : List Visit). record { pos = t; pointee = q; len = len; value = m } ∷ n) ev ea ∙ sym g' }
  first_agrees ih x y d g (is_later x' y' d' g' h') = absurd (cc)
  first_agrees ih x y d g (is_back c x' d' g' h') = absurd (cc)

  later_agrees :
      {level : ℕ} {inside : List OpenShared} {cyclic : Bool} {t : ℕ} {q : Pointee} {len : ℕ} {v w w' : Value} {rs qs : List Region} {before after b : List Visit}
      → open_at inside t ≡ None
      → visited before t ≡ Some (record { pos = t; pointee = q; len = len; value = w })
      → v ≡ counted t w
      → rs ≡ []
      → after ≡ before
      → CountedHolds level inside cyclic t q len w' qs before b
      → Agree v w' rs qs after b
  later_agrees x y d g h (is_first x' y' h' d' g') = absurd (cc)
  later_agrees {t = t} {q = q} {len = len} {w = w} x y d g h (is_later {w = u} x' y' d' g' h') =
      let e : w ≡ u = visit_value (record { pos = t; pointee = q; len = len; value = w }) (record { pos = t; pointee = q; len = len; value = u }) (sym y ∙ y') in
      record { value = d ∙ ap (counted t) e ∙ sym d'; regions = cc; after = cc }
  later_agrees x y d g h (is_back c x' d' g' h') = absurd (cc)

  back_agrees :
      {level : ℕ} {inside : List OpenShared} {cyclic : Bool} {t : ℕ} {q : Pointee} {len : ℕ} {v w' : Value} {rs qs : List Region} {before after b : List Visit}
      → open_at inside t ≡ Some (record { pos = t; pointee = q; len = len })
      → v ≡ back t
      → rs ≡ []
      → after ≡ before
      → CountedHolds level inside cyclic t q len w' qs before b
      → Agree v w' rs qs after b
  back_agrees x d g h (is_first x' y' h' d' g') = absurd (cc)
  back_agrees x d g h (is_later x' y' d' g' h') = absurd (cc)
  back_agrees x d g h (is_back c x' d' g' h') = record { value = cc; regions = cc; after = cc }

  mutual
    pub one_value :
        {level : ℕ} {inside : List OpenShared} {p : Part} {v : Value} {rs : List Region} {before a : List Visit} (w : Value) (qs : List Region) (b : List Visit)
        → Holds names bytes level inside p v rs before a
        → Holds names bytes level inside p w qs before b
        → Agree v w rs qs a b
    one_value w qs b (holds_plain {l = l} f legal all m) other =
        let o = by_plain f other in
        let same = one_list o.vs qs b all o.all in
        let em = o.is_made in
        let ev = same.values in
        record { value = cc; regions = same.regions; after = same.after }
    one_value w qs b (holds_claimed {s = s} {l = l} f legal all m r) other =
        let o = by_claimed f other in
        let same = one_list o.vs o.within b all o.all in
        let em = o.is_made in
        let ev = same.values in
        let er = same.regions in
        let e = o.regions_are in
        record { value = cc; regions = cc; after = same.after }
    one_value w qs b (holds_first f x y h d g) other =
        first_agrees (λ u us c k. one_value u us c h k) x y d g (by_counting f other)
    one_value w qs b (holds_later f x y d g h) other = later_agrees x y d g h (by_counting f other)
    one_value w qs b (holds_back f x d g h) other = back_agrees x d g h (by_counting f other)

    pub one_list :
        {level : ℕ} {inside : List OpenShared} {ps : List Part} {vs : Values} {rs : List Region} {before a : List Visit} (ws : Values) (qs : List Region) (b : List Visit)
        → HoldAll names bytes level inside ps vs rs before a
        → HoldAll names bytes level inside ps ws qs before b
        → AgreeAll vs ws rs qs a b
    one_list ws qs b (holds_none e f g) (holds_none e' f' g') = record { values = cc; regions = cc; after = cc }
    one_list {level = level} {inside = inside} ws qs b (holds_more {ps = ps} h hs e r) (holds_more {v = v'} {vs = vs'} {here = here'} {later = later'} {between = between'} h' hs' e' r') =
        let same = one_value v' here' between' h h' in
        let moved = subst (λ x. HoldAll names bytes level inside ps vs' later' x b) (sym same.after) hs' in
        let others = one_list vs' later' b hs moved in
        let e1 = same.value in
        let e2 = same.regions in
        let e3 = others.values in
        let e4 = others.regions in
        record { values = cc; regions = cc; after = others.after }

pub one_value_law : OneValue
one_value_law names bytes level inside p before v w rs qs a b h k = one_value names bytes w qs b h k
