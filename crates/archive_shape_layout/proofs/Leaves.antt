-- Where the bytes of leaves lie in a value: in the buffer, and those of two leaves apart.
use Rattle.std.proofs.Common.{◌≡◌, ℕ, suc, ◌+◌, ◌≤◌, List, [], ◌∷◌, ◌++◌, length, Option, Some, refl, ap, sym, subst, ◌∙◌, arith, le_refl, ◌⊎◌, inl, inr, ⊎_elim}
use Rattle.archive_shape_layout.specs.Bytes.{window}
use Rattle.archive_shape_layout.specs.Shape.Pointee.{sized}
use Rattle.archive_shape_layout.specs.Value.{Value, Values}
use Rattle.archive_shape_layout.specs.Content.{Names, Part, Span, Label, content_of, pointee_content}
use Rattle.archive_shape_layout.specs.Content.Part.{at, behind, node, child, entry, buckets, place_at}
use Rattle.archive_shape_layout.specs.Content.Content.{plain, claimed}
use Rattle.archive_shape_layout.specs.Holds.{Region, region_of, Visit, OpenShared, Holds, HoldAll, Ascends, end_after}
use Rattle.archive_shape_layout.specs.Holds.HoldAll.{holds_none, holds_more}
use Rattle.archive_shape_layout.specs.Edit.{Apart, Spares, IsLeafIn, LeavesApart, LeafWithin}
use Rattle.archive_shape_layout.specs.Edit.IsLeafIn.{in_place, out_of_line}
use Rattle.archive_shape_layout.specs.Path.{through, Stands, StandsIn}
use Rattle.archive_shape_layout.specs.Path.Stands.{stands_here, stands_plain, stands_claimed}
use Rattle.archive_shape_layout.specs.Path.StandsIn.{stands_first, stands_later}
use Rattle.archive_shape_layout.proofs.Ascent.{end_after-grows, end_after-below}
use Rattle.archive_shape_layout.proofs.Unique.{by_plain, by_claimed, one_value, one_list}
use Rattle.archive_shape_layout.proofs.Places.{behind_fits, InOwn, OutOwn, Fits, AllFit, AllApart, Separate}
use Rattle.archive_shape_layout.proofs.Paths.{path_is}
use Rattle.archive_shape_layout.proofs.Stood.{stands_all}
use Rattle.archive_shape_layout.proofs.Edits.{InAny, Edited, any_fits, any_apart, plain_parts, claimed_parts, narrow, one_follows, edit, edit_in}

-- ---- two windows

apart_swaps : (start size from len : ℕ) → Apart start size from len → Apart from len start size
apart_swaps start size from len h = ⊎_elim (λ x. inr x) (λ x. inl x) h

-- a window in a part's own bytes, and one that does not overlap these
own_apart : (start size from len : ℕ) (t : Part) → InOwn start size t → OutOwn from len t → Apart start size from len
own_apart start size from len (at pos s) i o = ⊎_elim (λ x. inr (omega arith)) (λ x. inl (omega arith)) o
own_apart start size from len (entry k key_pos v value_pos) (inl i) o = ⊎_elim (λ x. inr (omega arith)) (λ x. inl (omega arith)) o.0
own_apart start size from len (entry k key_pos v value_pos) (inr i) o = ⊎_elim (λ x. inr (omega arith)) (λ x. inl (omega arith)) o.1
own_apart start size from len (child level most k v pos) i o = absurd i
own_apart start size from len (place_at pos limit) i o = absurd i
own_apart start size from len (behind pos p count) i o = absurd i
own_apart start size from len (node level most k v pos) i o = absurd i
own_apart start size from len (buckets target count many it) i o = absurd i

-- a window in a part or in what it claims, and one in the parts after it or in what they claim
rest_apart : (start size from len low high base top : ℕ) (t : Part) (ps : List Part) (here later : List Region)
    → Fits base top t
    → AllFit base top ps
    → AllApart t ps
    → Ascends (end_after low here) high later
    → end_after (end_after low here) later ≤ base
    → InOwn start size t ⊎ ((low ≤ start) × (start + size ≤ end_after low here))
    → InAny from len ps ⊎ ((end_after low here ≤ from) × (from + len ≤ end_after (end_after low here) later))
    → Apart start size from len
rest_apart start size from len low high base top t ps here later f fs o a under (inl i) (inl k) =
    own_apart start size from len t i (any_apart from len t ps o k)
rest_apart start size from len low high base top t ps here later f fs o a under (inl i) (inr y) =
    let range = f.inside start size i in
    let b = y.1 in
    inr (omega arith)
rest_apart start size from len low high base top t ps here later f fs o a under (inr x) (inl k) =
    let range = any_fits from len base top ps fs k in
    let grows = end_after-grows (end_after low here) high later a in
    let b = x.1 in
    inl (omega arith)
rest_apart start size from len low high base top t ps here later f fs o a under (inr x) (inr y) =
    let b = x.1 in
    let c = y.0 in
    inl (omega arith)

-- ---- one leaf

module _ (names : Names) (bytes : List ℕ) (q : Part) (u : Value) (start size : ℕ) (leaf : IsLeafIn names bytes q start size) where
  -- a buffer spares a window of itself
  spared : Spares bytes bytes start size
  spared = record { length = refl; outside = λ w n o. refl }

  -- where a leaf lies, as a write that changes nothing shows it
  at_leaf : (level : ℕ) (inside : List OpenShared) (rs : List Region) (before after : List Visit) (low high : ℕ)
      → Ascends low high rs → Holds names bytes level inside q u rs before after
      → Edited names bytes bytes start size q u u spared level inside q u rs before after low
  unfolding pointee_content
  at_leaf level inside rs before after low high a h = record { lies = by_kind leaf; holds = h }
    where
      span : Span
      span = record { start = start; size = size; align = 1 }

      none_within : {vs : Values} {within : List Region} → HoldAll names bytes (suc level) inside [] vs within before after → within ≡ []
      none_within (holds_none x y z) = y

      by_kind : IsLeafIn names bytes q start size → InOwn start size q ⊎ ((low ≤ start) × (start + size ≤ end_after low rs))
      by_kind (in_place e size_is c) = inl (subst (InOwn start size) (sym e) (le_refl start, omega arith))
      by_kind (out_of_line e) =
          let o = by_claimed names bytes {s = span} {l = Label.written (window bytes start size)} {ps = []} (ap (content_of names bytes) e) h in
          let alone : rs ≡ region_of span level ∷ [] = o.regions_are ∙ ap (λ b. b ++ region_of span level ∷ []) (none_within o.all) in
          let follows = one_follows low high span level (subst (Ascends low high) alone a) in
          inr (follows.0, let ends = ap (end_after low) alone ∙ follows.1 in omega arith)

  -- a leaf lies in the own bytes of the part that it is in, or in what that part claims
  pub leaf_lies :
      {level : ℕ} {inside : List OpenShared} {p : Part} {v : Value} {path : List ℕ} {rs : List Region} {before after : List Visit} (low high base top : ℕ)
      → Stands names bytes q u level inside before p v path
      → Fits base top p
      → end_after low rs ≤ base
      → Ascends low high rs
      → Holds names bytes level inside p v rs before after
      → InOwn start size p ⊎ ((low ≤ start) × (start + size ≤ end_after low rs))
  leaf_lies low high base top stands f under a h = (edit names bytes bytes start size q u u spared at_leaf low high base top stands f under a h).lies

  pub leaf_lies_in :
      {level : ℕ} {inside : List OpenShared} {ps : List Part} {vs us : Values} {i : ℕ} {path : List ℕ} {rs : List Region} {before after : List Visit} (low high base top : ℕ)
      → StandsIn names bytes q u level inside before ps vs i path
      → AllFit base top ps
      → Separate ps
      → end_after low rs ≤ base
      → Ascends low high rs
      → HoldAll names bytes level inside ps us rs before after
      → InAny start size ps ⊎ ((low ≤ start) × (start + size ≤ end_after low rs))
  leaf_lies_in low high base top stands f s under a h = (edit_in names bytes bytes start size q u u spared at_leaf low high base top stands f s under a h).lies

pub leaf_within_law : LeafWithin
leaf_within_law names bytes pos s v regions visits path p u start size root stands leaf =
    let base = end_after 0 regions in
    let lies = leaf_lies names bytes p u start size leaf 0 (length bytes) base base stands (behind_fits base base pos (sized s) 1) (le_refl base) root.ascends root.holds in
    let below = end_after-below 0 (length bytes) regions (omega arith) root.ascends in
    ⊎_elim (λ o. absurd o) (λ x. let y = x.1 in omega arith) lies

-- ---- two leaves

-- the path in the whole depends on the label, the values, the part and the path in it
same_path : {l k : Label} {vs ws : Values} {i j : ℕ} {inner more path other : List ℕ}
    → l ≡ k → vs ≡ ws → i ≡ j → inner ≡ more → through l vs i inner ≡ Some path → through k ws j more ≡ Some other → path ≡ other
same_path {l = l} {k = k} {vs = vs} {ws = ws} {i = i} {j = j} {inner = inner} {more = more} {path = path} {other = other} a b c d e f =
    let one : through l vs i inner ≡ through k ws j more = cc in
    let both : ◌≡◌ {A = Option (List ℕ)} (Some path) (Some other) = sym e ∙ one ∙ f in
    path_is both

module _ (names : Names) (bytes : List ℕ) where
  none_in : {q : Part} {w : Value} {level : ℕ} {inside : List OpenShared} {before : List Visit} {ps : List Part} {vs : Values} {i : ℕ} {path : List ℕ}
      → ps ≡ [] → StandsIn names bytes q w level inside before ps vs i path → ⊥
  none_in e (stands_first stands holds rest is zero_is) = absurd (cc)
  none_in e (stands_later holds stands is suc_is) = absurd (cc)

  -- a leaf has no parts
  leaf_parts : {p r : Part} {start size : ℕ} {l : Label} {ps : List Part} → IsLeafIn names bytes r start size → p ≡ r → content_of names bytes p ≡ plain l ps → ps ≡ []
  unfolding pointee_content
  leaf_parts {l = l} {ps = ps} (in_place {l = k} a b c) e f =
      let same : plain l ps ≡ plain k [] = sym f ∙ ap (content_of names bytes) e ∙ c in
      cc
  leaf_parts {start = start} {size = size} {l = l} {ps = ps} (out_of_line a) e f =
      let same : plain l ps ≡ claimed (record { start = start; size = size; align = 1 }) (Label.written (window bytes start size)) [] = sym f ∙ ap (content_of names bytes) (e ∙ a) in
      absurd (cc)

  leaf_claims : {p r : Part} {start size : ℕ} {s : Span} {l : Label} {ps : List Part} → IsLeafIn names bytes r start size → p ≡ r → content_of names bytes p ≡ claimed s l ps → ps ≡ []
  unfolding pointee_content
  leaf_claims {s = s} {l = l} {ps = ps} (in_place {l = k} a b c) e f =
      let same : claimed s l ps ≡ plain k [] = sym f ∙ ap (content_of names bytes) e ∙ c in
      absurd (cc)
  leaf_claims {start = start} {size = size} {s = s} {l = l} {ps = ps} (out_of_line a) e f =
      let same : claimed s l ps ≡ claimed (record { start = start; size = size; align = 1 }) (Label.written (window bytes start size)) [] = sym f ∙ ap (content_of names bytes) (e ∙ a) in
      cc

  module _
      (p q : Part) (u w : Value) (start size from len : ℕ)
      (one : IsLeafIn names bytes p start size) (two : IsLeafIn names bytes q from len)
    where
      mutual
        -- the bytes of two leaves at different paths of a part do not overlap
        pub apart :
            {level : ℕ} {inside : List OpenShared} {t : Part} {v : Value} {path other : List ℕ} {rs : List Region} {before after : List Visit} (low high base top : ℕ)
            → Stands names bytes p u level inside before t v path
            → Stands names bytes q w level inside before t v other
            → (path ≡ other → ⊥)
            → Fits base top t
            → end_after low rs ≤ base
            → Ascends low high rs
            → Holds names bytes level inside t v rs before after
            → Apart start size from len
        apart low high base top (stands_here ep ev er) (stands_here ep' ev' er') ne f under a h = absurd (ne (er ∙ sym er'))
        apart low high base top (stands_here ep ev er) (stands_plain e within is_made through) ne f under a h = absurd (none_in (leaf_parts one ep e) within)
        apart low high base top (stands_here ep ev er) (stands_claimed e within is_made through) ne f under a h = absurd (none_in (leaf_claims one ep e) within)
        apart low high base top (stands_plain e within is_made through) (stands_here ep ev er) ne f under a h = absurd (none_in (leaf_parts two ep e) within)
        apart low high base top (stands_claimed e within is_made through) (stands_here ep ev er) ne f under a h = absurd (none_in (leaf_claims two ep e) within)
        apart low high base top (stands_plain e within is_made through) (stands_claimed e' within' is_made' through') ne f under a h = absurd (cc)
        apart low high base top (stands_claimed e within is_made through) (stands_plain e' within' is_made' through') ne f under a h = absurd (cc)
        apart {level = level} {inside = inside} {t = t} {before = before} low high base top (stands_plain {l = l} {ps = ps} e within is_made through) (stands_plain {inner = inner'} {l = l'} {ps = ps'} {vs = vs'} {i = i'} e' within' is_made' through') ne f under a h =
            let o = by_plain names bytes e h in
            let parts = plain_parts names bytes base top t f e in
            let content : plain l' ps' ≡ plain l ps = sym e' ∙ e in
            let label_is : l' ≡ l = cc in
            let parts_are : ps' ≡ ps = cc in
            let there = subst (λ x. StandsIn names bytes q w level inside before x vs' i' inner') parts_are within' in
            let s = stands_all names bytes p u within in
            let s' = stands_all names bytes q w there in
            let values = (one_list names bytes vs' s'.regions s'.after s.all s'.all).values in
            apart_in low high base top within there (λ number_is path_is. ne (same_path (sym label_is) values number_is path_is through through')) parts.0 parts.1 under a o.all
        apart {level = level} {inside = inside} {t = t} {rs = rs} {before = before} low high base top (stands_claimed {s = s} {l = l} {ps = ps} e within is_made through) (stands_claimed {inner = inner'} {s = s'} {l = l'} {ps = ps'} {vs = vs'} {i = i'} e' within' is_made' through') ne f under a h =
            let o = by_claimed names bytes e h in
            let both = narrow low high o.within (region_of s level ∷ []) rs o.regions_are a in
            let next = one_follows (end_after low o.within) high s level both.0.1 in
            let parts = claimed_parts names bytes base top t f e in
            let content : claimed s' l' ps' ≡ claimed s l ps = sym e' ∙ e in
            let label_is : l' ≡ l = cc in
            let parts_are : ps' ≡ ps = cc in
            let there = subst (λ x. StandsIn names bytes q w (suc level) inside before x vs' i' inner') parts_are within' in
            let held = stands_all names bytes p u within in
            let held' = stands_all names bytes q w there in
            let values = (one_list names bytes vs' held'.regions held'.after held.all held'.all).values in
            apart_in low high s.start (s.start + s.size) within there (λ number_is path_is. ne (same_path (sym label_is) values number_is path_is through through')) parts.fits parts.separate next.0 both.0.0 o.all

        pub apart_in :
            {level : ℕ} {inside : List OpenShared} {ps : List Part} {vs vs' us : Values} {i j : ℕ} {path other : List ℕ} {rs : List Region} {before after : List Visit} (low high base top : ℕ)
            → StandsIn names bytes p u level inside before ps vs i path
            → StandsIn names bytes q w level inside before ps vs' j other
            → (i ≡ j → path ≡ other → ⊥)
            → AllFit base top ps
            → Separate ps
            → end_after low rs ≤ base
            → Ascends low high rs
            → HoldAll names bytes level inside ps us rs before after
            → Apart start size from len
        apart_in {level = level} {inside = inside} {other = other} {rs = rs} {before = before} low high base top (stands_first {p = t} stands holds rest is zero_is) (stands_first stands' holds' rest' is' zero_is') ne (AllFit.fit_more f fs) (Separate.sep_more o os) under a (holds_more {v = x} {here = here} {later = later} {between = between} h hs e r) =
            let both = narrow low high here later rs r a in
            let total = both.1 in
            let grows = end_after-grows (end_after low here) high later both.0.1 in
            let alike = (one_value names bytes x here between holds h).value in
            let alike' = (one_value names bytes x here between holds' h).value in
            apart low high base top stands (subst (λ y. Stands names bytes q w level inside before t y other) (alike' ∙ sym alike) stands') (λ path_is. ne (zero_is ∙ sym zero_is') path_is) f (omega arith) both.0.0 (subst (λ y. Holds names bytes level inside t y here before between) (sym alike) h)
        apart_in {level = level} {inside = inside} {rs = rs} {before = before} {after = after} low high base top (stands_first {p = t} {ps = ps} stands holds rest is zero_is) (stands_later holds' stands' is' suc_is') ne (AllFit.fit_more f fs) (Separate.sep_more o os) under a (holds_more {v = x} {vs = xs} {here = here} {later = later} {between = between} h hs e r) =
            let both = narrow low high here later rs r a in
            let total = both.1 in
            let grows = end_after-grows (end_after low here) high later both.0.1 in
            let alike = (one_value names bytes x here between holds h).value in
            let reached = (one_value names bytes x here between holds' h).after in
            rest_apart start size from len low high base top t ps here later f fs o both.0.1 (omega arith)
            (leaf_lies names bytes p u start size one low high base top stands f (omega arith) both.0.0 (subst (λ y. Holds names bytes level inside t y here before between) (sym alike) h))
            (leaf_lies_in names bytes q w from len two (end_after low here) high base top stands' fs os (omega arith) both.0.1 (subst (λ y. HoldAll names bytes level inside ps xs later y after) (sym reached) hs))
        apart_in {level = level} {inside = inside} {rs = rs} {before = before} {after = after} low high base top (stands_later holds stands is suc_is) (stands_first {p = t} {ps = ps} stands' holds' rest' is' zero_is') ne (AllFit.fit_more f fs) (Separate.sep_more o os) under a (holds_more {v = x} {vs = xs} {here = here} {later = later} {between = between} h hs e r) =
            let both = narrow low high here later rs r a in
            let total = both.1 in
            let grows = end_after-grows (end_after low here) high later both.0.1 in
            let alike = (one_value names bytes x here between holds' h).value in
            let reached = (one_value names bytes x here between holds h).after in
            apart_swaps from len start size
            (rest_apart from len start size low high base top t ps here later f fs o both.0.1 (omega arith)
            (leaf_lies names bytes q w from len two low high base top stands' f (omega arith) both.0.0 (subst (λ y. Holds names bytes level inside t y here before between) (sym alike) h))
            (leaf_lies_in names bytes p u start size one (end_after low here) high base top stands fs os (omega arith) both.0.1 (subst (λ y. HoldAll names bytes level inside ps xs later y after) (sym reached) hs)))
        apart_in {level = level} {inside = inside} {other = other} {rs = rs} {after = after} low high base top (stands_later {p = t} {ps = ps} holds stands is suc_is) (stands_later {vs = vs'} {i = i'} holds' stands' is' suc_is') ne (AllFit.fit_more f fs) (Separate.sep_more o os) under a (holds_more {v = x} {vs = xs} {here = here} {later = later} {between = between} h hs e r) =
            let both = narrow low high here later rs r a in
            let total = both.1 in
            let reached = (one_value names bytes x here between holds h).after in
            let reached' = (one_value names bytes x here between holds' h).after in
            apart_in (end_after low here) high base top stands (subst (λ y. StandsIn names bytes q w level inside y ps vs' i' other) (reached' ∙ sym reached) stands') (λ number_is path_is. ne (suc_is ∙ ap suc number_is ∙ sym suc_is') path_is) fs os (omega arith) both.0.1 (subst (λ y. HoldAll names bytes level inside ps xs later y after) (sym reached) hs)

pub leaves_apart_law : LeavesApart
leaves_apart_law names bytes pos s v regions visits path other p q u w start size from len root stands others one two ne =
    let base = end_after 0 regions in
    apart names bytes p q u w start size from len one two 0 (length bytes) base base stands others ne (behind_fits base base pos (sized s) 1) (le_refl base) root.ascends root.holds
