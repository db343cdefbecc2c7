-- The region in which the bytes of a leaf lie.
use Rattle.std.proofs.Common.{◌≡◌, ℕ, zero, suc, le_of_suc-le-suc, ◌+◌, ◌≤◌, List, [], ◌∷◌, ◌++◌, length, refl, ap, sym, subst, ◌∙◌, arith, le_refl, ◌⊎◌, inl, inr, ⊎_elim, All}
use Rattle.std.proofs.lemmas.List.{append_assoc}
use Rattle.std.proofs.lemmas.List.Elements.{All-append}
use Rattle.archive_shape_layout.specs.Bytes.{window}
use Rattle.archive_shape_layout.specs.Shape.Pointee.{sized, str}
use Rattle.archive_shape_layout.specs.Value.{Value, Values}
use Rattle.archive_shape_layout.specs.Content.{Names, Part, Span, Label, content_of, pointee_content}
use Rattle.archive_shape_layout.specs.Content.Part.{at, behind}
use Rattle.archive_shape_layout.specs.Holds.{Region, region_of, Visit, OpenShared, Holds, HoldAll, Ascends, end_after}
use Rattle.archive_shape_layout.specs.Holds.HoldAll.{holds_none, holds_more}
use Rattle.archive_shape_layout.specs.Edit.{Apart, IsLeafIn, InOneRegion, LeafInOneRegion}
use Rattle.archive_shape_layout.specs.Edit.IsLeafIn.{in_place, out_of_line}
use Rattle.archive_shape_layout.specs.Path.{Stands, StandsIn}
use Rattle.archive_shape_layout.specs.Path.Stands.{stands_here, stands_plain, stands_claimed}
use Rattle.archive_shape_layout.specs.Path.StandsIn.{stands_first, stands_later}
use Rattle.archive_shape_layout.proofs.Ascent.{end_after-grows, above_low, Ascends-append}
use Rattle.archive_shape_layout.proofs.Unique.{by_plain, by_claimed, one_value}
use Rattle.archive_shape_layout.proofs.Places.{behind_fits, InOwn, Fits, AllFit}
use Rattle.archive_shape_layout.proofs.Edits.{InAny, any_fits, own_up, plain_parts, claimed_parts}

-- ---- a region that has a window

record Has (start size : ℕ) (regions : List Region) : Type 0 where
  earlier : List Region
  region : Region
  later : List Region
  are : regions ≡ earlier ++ region ∷ later
  begins : region.start ≤ start
  ends : start + size ≤ region.start + region.size

module _ (start size : ℕ) (xs ys rs : List Region) (is : rs ≡ xs ++ ys) where
  in_first : Has start size xs → Has start size rs
  in_first h = record {
    earlier = h.earlier;
    region = h.region;
    later = h.later ++ ys;
    are = is ∙ ap (λ l. l ++ ys) h.are ∙ append_assoc h.earlier (h.region ∷ h.later) ys;
    begins = h.begins;
    ends = h.ends;
  }

  in_second : Has start size ys → Has start size rs
  in_second h = record {
    earlier = xs ++ h.earlier;
    region = h.region;
    later = h.later;
    are = is ∙ ap (λ l. xs ++ l) h.are ∙ sym (append_assoc xs h.earlier (h.region ∷ h.later));
    begins = h.begins;
    ends = h.ends;
  }

-- ---- the region of a leaf

module _ (names : Names) (bytes : List ℕ) (q : Part) (u : Value) (start size : ℕ) (leaf : IsLeafIn names bytes q start size) where
  -- a leaf lies in its own bytes, or out of line in the region that it claims
  at_leaf : {level : ℕ} {inside : List OpenShared} {rs : List Region} {before after : List Visit}
      → Holds names bytes level inside q u rs before after → InOwn start size q ⊎ Has start size rs
  unfolding pointee_content
  at_leaf {level = level} {rs = rs} h = by_kind leaf
    where
      span : Span
      span = record { start = start; size = size; align = 1 }

      by_kind : IsLeafIn names bytes q start size → InOwn start size q ⊎ Has start size rs
      by_kind (in_place e size_is c) = inl (subst (InOwn start size) (sym e) (le_refl start, omega arith))
      by_kind (out_of_line e) =
          let o = by_claimed names bytes {s = span} {l = Label.written (window bytes start size)} {ps = []} (ap (content_of names bytes) e) h in
          inr (record { earlier = o.within; region = region_of span level; later = []; are = o.regions_are; begins = le_refl start; ends = le_refl (start + size) })

  mutual
    -- a leaf lies in the own bytes of the part that it is in, or in a region that that part claims
    leaf_in :
        {level : ℕ} {inside : List OpenShared} {p : Part} {v : Value} {path : List ℕ} {rs : List Region} {before after : List Visit} (base top : ℕ)
        → Stands names bytes q u level inside before p v path
        → Fits base top p
        → Holds names bytes level inside p v rs before after
        → InOwn start size p ⊎ Has start size rs
    leaf_in {level = level} {inside = inside} {v = v} {rs = rs} {before = before} {after = after} base top (stands_here ep ev er) f h =
        let at_q = subst (λ x. Holds names bytes level inside x v rs before after) ep h in
        ⊎_elim
        (λ i. inl (subst (InOwn start size) (sym ep) i))
        (λ r. inr r)
        (at_leaf (subst (λ x. Holds names bytes level inside q x rs before after) ev at_q))
    leaf_in {p = p} base top (stands_plain e within is_made through) f h =
        let o = by_plain names bytes e h in
        let parts = plain_parts names bytes base top p f e in
        ⊎_elim (λ i. inl (own_up names bytes start size p e i)) (λ r. inr r) (leaf_in_any base top within parts.0 o.all)
    leaf_in {level = level} {p = p} {rs = rs} base top (stands_claimed {s = s} {ps = ps} e within is_made through) f h =
        let o = by_claimed names bytes e h in
        let parts = claimed_parts names bytes base top p f e in
        ⊎_elim
        (λ i.
        let range = any_fits start size s.start (s.start + s.size) ps parts.fits i in
        inr (record { earlier = o.within; region = region_of s level; later = []; are = o.regions_are; begins = range.0; ends = range.1 }))
        (λ r. inr (in_first start size o.within (region_of s level ∷ []) rs o.regions_are r))
        (leaf_in_any s.start (s.start + s.size) within parts.fits o.all)

    leaf_in_any :
        {level : ℕ} {inside : List OpenShared} {ps : List Part} {vs us : Values} {i : ℕ} {path : List ℕ} {rs : List Region} {before after : List Visit} (base top : ℕ)
        → StandsIn names bytes q u level inside before ps vs i path
        → AllFit base top ps
        → HoldAll names bytes level inside ps us rs before after
        → InAny start size ps ⊎ Has start size rs
    leaf_in_any {level = level} {inside = inside} {rs = rs} {before = before} base top (stands_first {p = p} stands holds rest is zero_is) (AllFit.fit_more f fs) (holds_more {v = x} {here = here} {later = later} {between = between} h hs e r) =
        let alike = (one_value names bytes x here between holds h).value in
        ⊎_elim
        (λ i. inl (InAny.any_here i))
        (λ k. inr (in_first start size here later rs r k))
        (leaf_in base top stands f (subst (λ y. Holds names bytes level inside p y here before between) (sym alike) h))
    leaf_in_any {level = level} {inside = inside} {rs = rs} {after = after} base top (stands_later {ps = ps} holds stands is suc_is) (AllFit.fit_more f fs) (holds_more {v = x} {vs = xs} {here = here} {later = later} {between = between} h hs e r) =
        let reached = (one_value names bytes x here between holds h).after in
        ⊎_elim
        (λ i. inl (InAny.any_later i))
        (λ k. inr (in_second start size here later rs r k))
        (leaf_in_any base top stands fs (subst (λ y. HoldAll names bytes level inside ps xs later y after) (sym reached) hs))

-- ---- the other regions

-- each of the regions that ascend ends at the latest where the last one ends
all_before_end : (low high : ℕ) (xs : List Region) → Ascends low high xs → All (λ r. r.start + r.size ≤ end_after low xs) xs
unfolding Ascends end_after
all_before_end low high [] a k d below = absurd (omega arith)
all_before_end low high (r ∷ xs) a zero d below = end_after-grows (r.start + r.size) high xs a.1
all_before_end low high (r ∷ xs) a (suc k) d below = all_before_end (r.start + r.size) high xs a.1 k d (le_of_suc-le-suc below)

module _ (low high start size : ℕ) (regions : List Region) (ascends : Ascends low high regions) (h : Has start size regions) where
  others_apart : All (λ r. Apart r.start r.size start size) (h.earlier ++ h.later)
  unfolding Ascends
  others_apart =
      let parted = (Ascends-append low high h.earlier (h.region ∷ h.later)).0 (subst (Ascends low high) h.are ascends) in
      let follows = parted.1.0.after in
      let before = all_before_end low high h.earlier parted.0 in
      let behind = above_low (h.region.start + h.region.size) high h.later parted.1.1 in
      let begins = h.begins in
      let ends = h.ends in
      All-append (λ r. Apart r.start r.size start size) h.earlier h.later
      (λ k d below. let b = before k d below in inl (omega arith))
      (λ k d below. let b = behind k d below in inr (omega arith))

  in_one_region : InOneRegion regions start size
  in_one_region = record {
    earlier = h.earlier;
    region = h.region;
    later = h.later;
    are = h.are;
    begins = h.begins;
    ends = h.ends;
    others = others_apart;
  }

pub leaf_in_one_region_law : LeafInOneRegion
leaf_in_one_region_law names bytes pos s v regions visits path p u start size root stands leaf =
    ⊎_elim
    (λ own. absurd own)
    (λ h. in_one_region 0 (length bytes) start size regions root.ascends h)
    (leaf_in names bytes p u start size leaf 0 0 stands (behind_fits 0 0 pos (sized s) 1) root.holds)
