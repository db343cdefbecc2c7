-- After a write to one leaf's own bytes, a canonical archive is canonical.
use Rattle.std.proofs.Common.{true, ◌≡◌, ℕ, zero, suc, ◌+◌, ◌-◌, ◌*◌, ◌≤◌, ◌<◌, List, [], ◌∷◌, ◌++◌, length, slice_index, Some, refl, ap, ap₂, sym, subst, ◌∙◌, arith, le_refl, ◌⊎◌, inl, inr, ⊎_elim}
use Rattle.archive_shape_layout.specs.Bytes.{window, align_up}
use Rattle.archive_shape_layout.specs.Shape.{Shape, size_of}
use Rattle.archive_shape_layout.specs.Shape.Pointee.{sized, str}
use Rattle.archive_shape_layout.specs.Value.{Value, Values}
use Rattle.archive_shape_layout.specs.Content.{Names, Part, Item, Span, Label, content_of, made, IsLegal, pointee_content, item_size, control_count}
use Rattle.archive_shape_layout.specs.Content.Part.{at, behind, node, child, entry, buckets, place_at}
use Rattle.archive_shape_layout.specs.Content.Content.{plain, claimed}
use Rattle.archive_shape_layout.specs.Laws.{AgreesOn}
use Rattle.archive_shape_layout.specs.Holds.{Region, region_of, Visit, OpenShared, Holds, HoldAll, Ascends, end_after}
use Rattle.archive_shape_layout.specs.Holds.Holds.{holds_plain, holds_claimed, holds_first, holds_later, holds_back}
use Rattle.archive_shape_layout.specs.Holds.HoldAll.{holds_none, holds_more}
use Rattle.archive_shape_layout.specs.Edit.{Spares}
use Rattle.archive_shape_layout.specs.Path.{change_in, put_at, Stands, StandsIn}
use Rattle.archive_shape_layout.specs.Path.Stands.{stands_here, stands_plain, stands_claimed}
use Rattle.archive_shape_layout.specs.Path.StandsIn.{stands_first, stands_later}
use Rattle.archive_shape_layout.specs.Value.Value.{natural, integer, boolean, string, group, chosen, counted, back}
use Rattle.archive_shape_layout.specs.Value.Values.{no_values, more_values}
use Rattle.archive_shape_layout.proofs.Ascent.{end_after-grows}
use Rattle.archive_shape_layout.proofs.Unique.{one_value, one_list}
use Rattle.archive_shape_layout.proofs.Framed.{stable_plain, stable_claimed}
use Rattle.archive_shape_layout.proofs.Places.{behind_fits, InOwn, Fits, AllFit, Separate, Laid, buckets_laid}
use Rattle.archive_shape_layout.proofs.Paths.{put_label}
use Rattle.archive_shape_layout.proofs.Stood.{stands_in_value, stands_all}
use Rattle.archive_shape_layout.proofs.Edits.{InAny, any_here, any_later, any_fits, any_apart, all_own, claimed_all, own_agrees, regions_agree, kept_plain, kept_claimed, plain_parts, claimed_parts, own_up, narrow, one_follows}
use Rattle.archive_shape_canonical.specs.Clean.{IsIn, IsClean}
use Rattle.archive_shape_canonical.specs.Seen.{key_alone, keys_alone, by_keys, all_by_keys, blank, blanks, all_blank, first_seen_values, seen_values, seen_bytes_of}
use Rattle.archive_shape_canonical.specs.Settled.{Fit, IsSettled}
use Rattle.archive_shape_canonical.specs.Canonical.{end_of, end_of_all, IsCanonical, AreCanonical, InRegions, CanonicalArchive}
use Rattle.archive_shape_canonical.specs.Laws.{IsBehindKey, IsOnward, AvoidsItemKey, AvoidsKey, AvoidsKeys, AvoidKeys, CanonicalEditOfLeaf, CanonicalEditOfText}
use Rattle.archive_shape_canonical.proofs.Kept.{plain_seen, claimed_seen, span_seen, either, plain_stays, claimed_stays, plain_leads, claimed_leads}
use Rattle.archive_shape_canonical.proofs.Framing.{settled_still, SeenCanonicalIn, SeenAllCanonicalIn, framed, framed_all}

-- a window in an item lies below the controls
controls_alike : (bytes others : List ℕ) (w n : ℕ) (spares : Spares bytes others w n) (names : Names) (target len many : ℕ) (it : Item) {s : Span} {l : Label} {ps : List Part}
    → content_of names bytes (buckets target len many it) ≡ claimed s l ps → InAny w n ps → AgreesOn bytes others target (control_count many)
controls_alike bytes others w n spares names target len many it {ps = ps} e i =
    let laid = subst (Laid (target - many * item_size it) target true) e (buckets_laid target len many it (window bytes target (control_count many))) in
    let range = any_fits w n (target - many * item_size it) target ps (claimed_all laid) i in
    spares.outside target (control_count many) (inl range.1)

-- ---- canonical parts, by their contents

module _ (fit : Fit) (names : Names) (bytes : List ℕ) where
  record CanonicalPlain (level : ℕ) (inside : List OpenShared) (p : Part) (l : Label) (ps : List Part) (v : Value) (rs : List Region) (before after : List Visit) (low end : ℕ) : Type 0 where
    vs : Values
    legal : IsLegal l
    all : HoldAll names bytes level inside ps vs rs before after
    is_made : made l vs ≡ Some v
    clean : IsClean names bytes p
    settled : IsSettled fit bytes p ps vs
    canonical : AreCanonical fit all low
    ends : end ≡ end_of_all all low

  record CanonicalClaimed (level : ℕ) (inside : List OpenShared) (p : Part) (s : Span) (l : Label) (ps : List Part) (v : Value) (rs : List Region) (before after : List Visit) (low end : ℕ) : Type 0 where
    vs : Values
    within : List Region
    legal : IsLegal l
    all : HoldAll names bytes (suc level) inside ps vs within before after
    is_made : made l vs ≡ Some v
    regions_are : rs ≡ within ++ region_of s level ∷ []
    clean : IsClean names bytes p
    settled : IsSettled fit bytes p ps vs
    canonical : AreCanonical fit all low
    placed : s.start ≡ align_up (end_of_all all low) s.align
    ends : end ≡ s.start + s.size

  canonical_plain : {level : ℕ} {inside : List OpenShared} {p : Part} {l : Label} {ps : List Part} {v : Value} {rs : List Region} {before after : List Visit} (low : ℕ)
      → content_of names bytes p ≡ plain l ps → (h : Holds names bytes level inside p v rs before after) → IsCanonical fit h low
      → CanonicalPlain level inside p l ps v rs before after low (end_of h low)
  canonical_plain {level = level} {inside = inside} {p = p} {l = l} {ps = ps} {v = v} {rs = rs} {before = before} {after = after} low e (holds_plain {l = l'} {ps = ps'} {vs = vs} f legal all m) n =
      let el : l' ≡ l = cc in
      let ep : ps' ≡ ps = cc in
      let here : CanonicalPlain level inside p l' ps' v rs before after low (end_of_all all low) =
      record { vs = vs; legal = legal; all = all; is_made = m; clean = n.0; settled = n.1; canonical = n.2; ends = refl } in
      subst (λ x. CanonicalPlain level inside p l x v rs before after low (end_of_all all low)) ep
      (subst (λ x. CanonicalPlain level inside p x ps' v rs before after low (end_of_all all low)) el here)
  canonical_plain low e (holds_claimed f legal all m r) n = absurd (cc)
  canonical_plain low e (holds_first f a b h d g) n = absurd (cc)
  canonical_plain low e (holds_later f a b d g h) n = absurd (cc)
  canonical_plain low e (holds_back f a b c d) n = absurd (cc)

  canonical_claimed : {level : ℕ} {inside : List OpenShared} {p : Part} {s : Span} {l : Label} {ps : List Part} {v : Value} {rs : List Region} {before after : List Visit} (low : ℕ)
      → content_of names bytes p ≡ claimed s l ps → (h : Holds names bytes level inside p v rs before after) → IsCanonical fit h low
      → CanonicalClaimed level inside p s l ps v rs before after low (end_of h low)
  canonical_claimed low e (holds_plain f legal all m) n = absurd (cc)
  canonical_claimed {level = level} {inside = inside} {p = p} {s = s} {l = l} {ps = ps} {v = v} {rs = rs} {before = before} {after = after} low e (holds_claimed {within = within} {s = s'} {l = l'} {ps = ps'} {vs = vs} f legal all m r) n =
      let es : s' ≡ s = cc in
      let el : l' ≡ l = cc in
      let ep : ps' ≡ ps = cc in
      let here : CanonicalClaimed level inside p s' l' ps' v rs before after low (s'.start + s'.size) =
      record { vs = vs; within = within; legal = legal; all = all; is_made = m; regions_are = r; clean = n.0; settled = n.1; canonical = n.2; placed = n.3; ends = refl } in
      subst (λ x. CanonicalClaimed level inside p s l x v rs before after low (s'.start + s'.size)) ep
      (subst (λ x. CanonicalClaimed level inside p s x ps' v rs before after low (s'.start + s'.size)) el
      (subst (λ x. CanonicalClaimed level inside p x l' ps' v rs before after low (s'.start + s'.size)) es here))
  canonical_claimed low e (holds_first f a b h d g) n = absurd (cc)
  canonical_claimed low e (holds_later f a b d g h) n = absurd (cc)
  canonical_claimed low e (holds_back f a b c d) n = absurd (cc)

pub InRegions-left : (rs qs : List Region) (i : ℕ) → InRegions rs i → InRegions (rs ++ qs) i
InRegions-left [] qs i h = absurd h
InRegions-left (r ∷ rs) qs i h = ⊎_elim (λ a. inl a) (λ b. inr (InRegions-left rs qs i b)) h

pub InRegions-right : (rs qs : List Region) (i : ℕ) → InRegions qs i → InRegions (rs ++ qs) i
InRegions-right [] qs i h = h
InRegions-right (r ∷ rs) qs i h = inr (InRegions-right rs qs i h)

-- ---- what a fit may read of values is unchanged where no key changes

key_alone_stays : (j : ℕ) (path : List ℕ) (new : Value) (v : Value) → key_alone (put_at (suc j ∷ path) new v) ≡ key_alone v
key_alone_stays j path new (group no_values) = refl
key_alone_stays j path new (group (more_values k vs)) = refl
key_alone_stays j path new (chosen t vs) = refl
key_alone_stays j path new (natural m) = refl
key_alone_stays j path new (integer m) = refl
key_alone_stays j path new (boolean m) = refl
key_alone_stays j path new (string m) = refl
key_alone_stays j path new (counted t v) = refl
key_alone_stays j path new (back t) = refl

keys_alone_stay : (i j : ℕ) (path : List ℕ) (new : Value) (vs : Values) → keys_alone (change_in i (λ x. put_at (suc j ∷ path) new x) vs) ≡ keys_alone vs
keys_alone_stay i j path new no_values = refl
keys_alone_stay zero j path new (more_values v vs) = ap (λ x. more_values x (keys_alone vs)) (key_alone_stays j path new v)
keys_alone_stay (suc i) j path new (more_values v vs) = ap (λ x. more_values (key_alone v) x) (keys_alone_stay i j path new vs)

by_keys_stays : (inner : List ℕ) (new : Value) (v : Value) → IsBehindKey inner → by_keys (put_at inner new v) ≡ by_keys v
by_keys_stays [] new v h = absurd h
by_keys_stays (i ∷ []) new v h = absurd h
by_keys_stays (i ∷ (zero ∷ path)) new v h = absurd h
by_keys_stays (i ∷ (suc j ∷ path)) new (group vs) h = ap (λ x. group x) (keys_alone_stay i j path new vs)
by_keys_stays (i ∷ (suc j ∷ path)) new (chosen t vs) h = refl
by_keys_stays (i ∷ (suc j ∷ path)) new (natural m) h = refl
by_keys_stays (i ∷ (suc j ∷ path)) new (integer m) h = refl
by_keys_stays (i ∷ (suc j ∷ path)) new (boolean m) h = refl
by_keys_stays (i ∷ (suc j ∷ path)) new (string m) h = refl
by_keys_stays (i ∷ (suc j ∷ path)) new (counted t v) h = refl
by_keys_stays (i ∷ (suc j ∷ path)) new (back t) h = refl

all_by_keys_stay : (i : ℕ) (inner : List ℕ) (new : Value) (vs : Values) → IsBehindKey inner → all_by_keys (change_in i (λ x. put_at inner new x) vs) ≡ all_by_keys vs
all_by_keys_stay i inner new no_values h = refl
all_by_keys_stay zero inner new (more_values v vs) h = ap (λ x. more_values x (all_by_keys vs)) (by_keys_stays inner new v h)
all_by_keys_stay (suc i) inner new (more_values v vs) h = ap (λ x. more_values (by_keys v) x) (all_by_keys_stay i inner new vs h)

blanks_stay : (i : ℕ) (f : Value → Value) (vs : Values) → blanks (change_in i f vs) ≡ blanks vs
blanks_stay i f no_values = refl
blanks_stay zero f (more_values v vs) = refl
blanks_stay (suc i) f (more_values v vs) = ap (λ x. more_values (natural 0) x) (blanks_stay i f vs)

blank_stays : (inner : List ℕ) (new : Value) (v : Value) → IsOnward inner → blank (put_at inner new v) ≡ blank v
blank_stays [] new v h = absurd h
blank_stays (i ∷ path) new (group vs) h = ap (λ x. group x) (blanks_stay i (λ x. put_at path new x) vs)
blank_stays (i ∷ path) new (chosen t vs) h = refl
blank_stays (i ∷ path) new (natural m) h = refl
blank_stays (i ∷ path) new (integer m) h = refl
blank_stays (i ∷ path) new (boolean m) h = refl
blank_stays (i ∷ path) new (string m) h = refl
blank_stays (i ∷ path) new (counted t v) h = refl
blank_stays (i ∷ path) new (back t) h = refl

all_blank_stay : (i : ℕ) (inner : List ℕ) (new : Value) (vs : Values) → IsOnward inner → all_blank (change_in i (λ x. put_at inner new x) vs) ≡ all_blank vs
all_blank_stay i inner new no_values h = refl
all_blank_stay zero inner new (more_values v vs) h = ap (λ x. more_values x (all_blank vs)) (blank_stays inner new v h)
all_blank_stay (suc i) inner new (more_values v vs) h = ap (λ x. more_values (blank v) x) (all_blank_stay i inner new vs h)

first_values_stay : (ps : List Part) (vs : Values) (i : ℕ) (inner : List ℕ) (new : Value) → AvoidsItemKey ps inner → first_seen_values ps (change_in i (λ x. put_at inner new x) vs) ≡ first_seen_values ps vs
first_values_stay [] vs i inner new h = refl
first_values_stay (at pos s ∷ ps) vs i inner new h = refl
first_values_stay (behind pos q len ∷ ps) vs i inner new h = refl
first_values_stay (node level most k v pos ∷ ps) vs i inner new h = all_by_keys_stay i inner new vs h
first_values_stay (child level most k v pos ∷ ps) vs i inner new h = refl
first_values_stay (entry k a v b ∷ ps) vs i inner new h = refl
first_values_stay (buckets target len many it ∷ ps) vs i inner new h = all_by_keys_stay i inner new vs h
first_values_stay (place_at pos limit ∷ ps) vs i inner new h = refl

values_stay : (p : Part) (ps : List Part) (vs : Values) (i : ℕ) (inner : List ℕ) (new : Value) → AvoidsKey p ps inner → seen_values p ps (change_in i (λ x. put_at inner new x) vs) ≡ seen_values p ps vs
values_stay (at pos s) ps vs i inner new h = first_values_stay ps vs i inner new h
values_stay (behind pos q len) ps vs i inner new h = refl
values_stay (node level most k v pos) ps vs i inner new h = all_blank_stay i inner new vs h
values_stay (child level most k v pos) ps vs i inner new h = first_values_stay ps vs i inner new h
values_stay (entry k a v b) ps vs i inner new h = refl
values_stay (buckets target len many it) ps vs i inner new h = refl
values_stay (place_at pos limit) ps vs i inner new h = refl

module _
    (fit : Fit) (names : Names) (bytes others : List ℕ) (w n : ℕ) (q : Part) (old new : Value)
    (spares : Spares bytes others w n)
  where
    abbrev LiesIn : Type 0 → ℕ → List Region → Type 0
    LiesIn own low rs = own ⊎ ((low ≤ w) × (w + n ≤ end_after low rs) × ((i : ℕ) → IsIn w n i → InRegions rs i))

    -- what is known of a part: where the window lies in it, and that it is canonical in the other bytes
    record Edited (level : ℕ) (inside : List OpenShared) (p : Part) (v : Value) (rs : List Region) (before after : List Visit) (low from end : ℕ) : Type 0 where
      lies : LiesIn (InOwn w n p) low rs
      there : SeenCanonicalIn bytes others names fit level inside p v rs before after from end

    record EditedAll (level : ℕ) (inside : List OpenShared) (ps : List Part) (vs : Values) (rs : List Region) (before after : List Visit) (low from end : ℕ) : Type 0 where
      lies : LiesIn (InAny w n ps) low rs
      there : SeenAllCanonicalIn bytes others names fit level inside ps vs rs before after from end

    module _
        (at_leaf : (level : ℕ) (inside : List OpenShared) (p : Part) (v : Value) (rs : List Region) (before after : List Visit) (low high from to : ℕ)
        → p ≡ q → v ≡ old → Ascends low high rs → (h : Holds names bytes level inside p v rs before after) → IsCanonical fit h from → to ≡ from
        → Edited level inside p new rs before after low to (end_of h from))
      where
        mutual
          edit :
              {level : ℕ} {inside : List OpenShared} {p : Part} {v u : Value} {path : List ℕ} {rs : List Region} {since before after : List Visit} (low high base top from to : ℕ)
              → (stands : Stands names bytes q old level inside since p v path)
              → AvoidsKeys stands
              → since ≡ before
              → v ≡ u
              → Fits base top p
              → end_after low rs ≤ base
              → Ascends low high rs
              → (h : Holds names bytes level inside p u rs before after)
              → IsCanonical fit h from
              → to ≡ from
              → Edited level inside p (put_at path new u) rs before after low to (end_of h from)
          edit {level = level} {inside = inside} {p = p} {u = u} {rs = rs} {before = before} {after = after} low high base top from to (stands_here ep ev er) free es eu f under a h k eq =
              let d = at_leaf level inside p u rs before after low high from to ep (sym eu ∙ ev) a h k eq in
              subst (λ x. Edited level inside p (put_at x new u) rs before after low to (end_of h from)) (sym er) d
          edit {level = level} {inside = inside} {p = p} {v = v} {u = u} {path = path} {rs = rs} {since = since} {before = before} {after = after} low high base top from to (stands_plain {inner = inner} {l = m} {ps = ps} {vs = vs} {i = i} e within is_made through) free es eu f under a h k eq =
              let o = canonical_plain fit names bytes from e h k in
              let parts = plain_parts names bytes base top p f e in
              let s = stands_all names bytes q old within in
              let us = one_list names bytes o.vs rs after (subst (λ b. HoldAll names bytes level inside ps vs s.regions b s.after) es s.all) o.all in
              let d = edit_in low high base top from to within free.1 es us.values parts.0 parts.1 under a o.all o.canonical eq in
              let x = stands_in_value names bytes q old within in
              let put = put_label m vs i inner path u new x.value old (is_made ∙ ap Some eu) x.there x.inner through in
              let apart = λ (b : (low ≤ w) × (w + n ≤ end_after low rs) × ((j : ℕ) → IsIn w n j → InRegions rs j)). own_agrees bytes others w n spares p (f.outside w n (inl (let y = b.1 in omega arith))) in
              let alike : content_of names others p ≡ plain m ps =
              ⊎_elim (λ j. kept_plain bytes others w n spares names p e j) (λ b. stable_plain bytes others names p (apart b) e) d.lies in
              let seen = plain_seen bytes others names p e in
              let clean = ⊎_elim (λ j. plain_leads bytes others w n spares names p e alike j o.clean) (λ b. plain_stays bytes others names p e alike (apart b) o.clean) d.lies in
              let made_is = ap (λ y. made m (change_in i (λ z. put_at inner new z) y)) (sym us.values) ∙ put.is_made in
              let there = d.there in
              record {
                lies = ⊎_elim (λ j. inl (own_up names bytes w n p e j)) (λ b. inr b) d.lies;
                there = record {
                  seen_bytes = seen;
                  holds = holds_plain alike o.legal there.all made_is;
                  canonical = (clean, settled_still bytes others names fit p ps o.vs _ seen there.seen_bytes (values_stay p ps o.vs i inner new free.0) o.settled, there.canonical);
                  ends = there.ends ∙ sym o.ends;
                };
              }
          edit {level = level} {inside = inside} {p = p} {v = v} {u = u} {path = path} {rs = rs} {since = since} {before = before} {after = after} low high base top from to (stands_claimed {inner = inner} {s = s} {l = m} {ps = ps} {vs = vs} {i = i} e within is_made through) free es eu f under a h k eq =
              let o = canonical_claimed fit names bytes from e h k in
              let both = narrow low high o.within (region_of s level ∷ []) rs o.regions_are a in
              let next = one_follows (end_after low o.within) high s level both.0.1 in
              let total = both.1 in
              let parts = claimed_parts names bytes base top p f e in
              let t = stands_all names bytes q old within in
              let us = one_list names bytes o.vs o.within after (subst (λ b. HoldAll names bytes (suc level) inside ps vs t.regions b t.after) es t.all) o.all in
              let d = edit_in low high s.start (s.start + s.size) from to within free.1 es us.values parts.fits parts.separate next.0 both.0.0 o.all o.canonical eq in
              let x = stands_in_value names bytes q old within in
              let put = put_label m vs i inner path u new x.value old (is_made ∙ ap Some eu) x.there x.inner through in
              let grows = end_after-grows low high o.within both.0.0 in
              let apart = λ (b : (low ≤ w) × (w + n ≤ end_after low o.within) × ((j : ℕ) → IsIn w n j → InRegions o.within j)). own_agrees bytes others w n spares p (f.outside w n (inl (let y = b.1 in omega arith))) in
              let here = λ (b : (low ≤ w) × (w + n ≤ end_after low o.within) × ((j : ℕ) → IsIn w n j → InRegions o.within j)). spares.outside s.start s.size (inl (let y = b.1 in omega arith)) in
              let alike : content_of names others p ≡ claimed s m ps =
              ⊎_elim (λ j. kept_claimed bytes others w n spares names p e j) (λ b. stable_claimed bytes others names p (apart b) (here b) e) d.lies in
              let seen = ⊎_elim (λ j. claimed_seen bytes others names p e alike (λ target len cap it is. controls_alike bytes others w n spares names target len cap it (subst (λ y. content_of names bytes y ≡ claimed s m ps) is e) j)) (λ b. span_seen bytes others names p e alike (here b)) d.lies in
              let clean = ⊎_elim (λ j. claimed_leads bytes others w n spares names p e alike j o.clean) (λ b. claimed_stays bytes others names p e alike (apart b) (here b) o.clean) d.lies in
              let made_is = ap (λ y. made m (change_in i (λ z. put_at inner new z) y)) (sym us.values) ∙ put.is_made in
              let there = d.there in
              record {
                lies = ⊎_elim
                    (λ j. let range = any_fits w n s.start (s.start + s.size) ps parts.fits j in
                    inr (omega arith, omega arith, λ z c. subst (λ r. InRegions r z) (sym o.regions_are) (InRegions-right o.within (region_of s level ∷ []) z (inl (let c0 = c.0 in let c1 = c.1 in (omega arith, omega arith))))))
                    (λ b. let b0 = b.0 in let b1 = b.1 in inr (omega arith, omega arith, λ z c. subst (λ r. InRegions r z) (sym o.regions_are) (InRegions-left o.within (region_of s level ∷ []) z (b.2 z c))))
                    d.lies;
                there = record {
                  seen_bytes = seen;
                  holds = holds_claimed alike o.legal there.all made_is o.regions_are;
                  canonical = (clean, settled_still bytes others names fit p ps o.vs _ seen there.seen_bytes (values_stay p ps o.vs i inner new free.0) o.settled, there.canonical, o.placed ∙ ap (λ y. align_up y s.align) (sym there.ends));
                  ends = sym o.ends;
                };
              }

          edit_in :
              {level : ℕ} {inside : List OpenShared} {ps : List Part} {vs us : Values} {i : ℕ} {path : List ℕ} {rs : List Region} {since before after : List Visit} (low high base top from to : ℕ)
              → (stands : StandsIn names bytes q old level inside since ps vs i path)
              → AvoidKeys stands
              → since ≡ before
              → vs ≡ us
              → AllFit base top ps
              → Separate ps
              → end_after low rs ≤ base
              → Ascends low high rs
              → (all : HoldAll names bytes level inside ps us rs before after)
              → AreCanonical fit all from
              → to ≡ from
              → EditedAll level inside ps (change_in i (λ x. put_at path new x) us) rs before after low to (end_of_all all from)
          edit_in {level = level} {inside = inside} {path = path} {rs = rs} {before = before} {after = after} low high base top from to (stands_first {p = p} {ps = ps} {v = v} {vs = vs} stands holds rest_holds is zero_is) free es eu (AllFit.fit_more f fs) (Separate.sep_more apart sep) under a (holds_more {v = u} {vs = us} {here = here} {later = later} {between = between} h hs e r) k eq =
              let both = narrow low high here later rs r a in
              let total = both.1 in
              let grows = end_after-grows (end_after low here) high later both.0.1 in
              let pair : more_values v vs ≡ more_values u us = sym is ∙ eu ∙ e in
              let alike : v ≡ u = cc in
              let d = edit low high base top from to stands free es alike f (omega arith) both.0.0 h k.0 eq in
              let first = d.there in
              let own = all_own bytes others w n spares base top p ps fs (⊎_elim (λ i. inl (i, apart)) (λ b. inr (let b1 = b.1 in omega arith)) d.lies) in
              let claims = regions_agree bytes others w n spares (end_after low here) high later both.0.1 (⊎_elim (λ i. let b = f.inside w n i in inr (omega arith)) (λ b. inl b.1) d.lies) in
              let rest = framed_all bytes others names fit (end_of h from) (end_of first.holds to) own claims hs k.1 first.ends in
              record {
                lies = ⊎_elim (λ i. inl (any_here i)) (λ b. let b1 = b.1 in inr (b.0, omega arith, λ z c. subst (λ x. InRegions x z) (sym r) (InRegions-left here later z (b.2 z c)))) d.lies;
                there = record {
                  seen_bytes = first.seen_bytes;
                  all = holds_more first.holds rest.all (ap₂ (λ j x. change_in j (λ y. put_at path new y) x) zero_is e) r;
                  canonical = (first.canonical, rest.canonical);
                  ends = rest.ends;
                };
              }
          edit_in {level = level} {inside = inside} {path = path} {rs = rs} {before = before} {after = after} low high base top from to (stands_later {between = since_then} {p = p} {ps = ps} {v = v} {vs = vs} {here = claims_there} {i = i} holds stands is suc_is) free es eu (AllFit.fit_more f fs) (Separate.sep_more apart sep) under a (holds_more {v = u} {vs = us} {here = here} {later = later} {between = between} h hs e r) k eq =
              let both = narrow low high here later rs r a in
              let total = both.1 in
              let first_grows = end_after-grows low high here both.0.0 in
              let grows = end_after-grows (end_after low here) high later both.0.1 in
              let pair : more_values v vs ≡ more_values u us = sym is ∙ eu ∙ e in
              let alike : vs ≡ us = cc in
              let reached = (one_value names bytes u here between (subst (λ b. Holds names bytes level inside p v claims_there b since_then) es holds) h).after in
              let probe = edit_in (end_after low here) high base top (end_of h from) (end_of h from) stands free reached alike fs sep (omega arith) both.0.1 hs k.1 refl in
              let own = own_agrees bytes others w n spares p (⊎_elim (λ i. any_apart w n p ps apart i) (λ b. f.outside w n (inl (let b1 = b.1 in omega arith))) probe.lies) in
              let claims = regions_agree bytes others w n spares low high here both.0.0 (⊎_elim (λ i. let b = any_fits w n base top ps fs i in inr (omega arith)) (λ b. inr b.0) probe.lies) in
              let first = framed bytes others names fit from to own claims h k.0 eq in
              let d = edit_in (end_after low here) high base top (end_of h from) (end_of first.holds to) stands free reached alike fs sep (omega arith) both.0.1 hs k.1 first.ends in
              let rest = d.there in
              record {
                lies = ⊎_elim (λ i. inl (any_later i)) (λ b. let b0 = b.0 in let b1 = b.1 in inr (omega arith, omega arith, λ z c. subst (λ x. InRegions x z) (sym r) (InRegions-right here later z (b.2 z c)))) d.lies;
                there = record {
                  seen_bytes = first.seen_bytes;
                  all = holds_more first.holds rest.all (ap₂ (λ j x. change_in j (λ y. put_at path new y) x) suc_is e) r;
                  canonical = (first.canonical, rest.canonical);
                  ends = rest.ends;
                };
              }

        -- the root, with the window at the leaf
        edit_canonical : {start pos : ℕ} {s : Shape} {v : Value} {path : List ℕ} {regions : List Region} {visits : List Visit}
            → CanonicalArchive fit names bytes start pos s v regions visits
            → (stands : Stands names bytes q old 0 [] [] (behind pos (sized s) 1) v path)
            → AvoidsKeys stands
            → ((i : ℕ) → slice_index others i < 256)
            → CanonicalArchive fit names others start pos s (put_at path new v) regions visits
        edit_canonical {start = start} {pos = pos} {s = s} {regions = regions} x stands free small =
            let base = end_after 0 regions in
            let root = x.root in
            let d = edit 0 (length bytes) base base start start stands free refl refl (behind_fits base base pos (sized s) 1) (le_refl base) root.ascends root.holds x.canonical refl in
            let there = d.there in
            record {
              root = record { holds = there.holds; ascends = subst (λ m. Ascends 0 m regions) (sym spares.length) root.ascends };
              canonical = there.canonical;
              ends = there.ends ∙ x.ends ∙ sym spares.length;
              gaps = λ i far. ⊎_elim (λ c. inl (⊎_elim (λ o. absurd o) (λ b. b.2 i c) d.lies)) (λ alike. ⊎_elim (λ c. inl c) (λ z. inr (sym alike ∙ z)) (x.gaps i far)) (either bytes others w n spares i);
              once = x.once;
              bytes_are = small;
            }

-- ---- the two leaves

pub canonical_edit_of_leaf_law : CanonicalEditOfLeaf
canonical_edit_of_leaf_law fit names bytes others start pos s v regions visits path leaf_pos leaf_shape old new k l x stands free spares was is legal makes clean small =
    edit_canonical fit names bytes others leaf_pos (size_of leaf_shape) (at leaf_pos leaf_shape) old new spares in_place x stands free small
  where
    in_place : (level : ℕ) (inside : List OpenShared) (p : Part) (u : Value) (rs : List Region) (before after : List Visit) (low high from to : ℕ)
        → p ≡ at leaf_pos leaf_shape → u ≡ old → Ascends low high rs → (h : Holds names bytes level inside p u rs before after) → IsCanonical fit h from → to ≡ from
        → Edited fit names bytes others leaf_pos (size_of leaf_shape) (at leaf_pos leaf_shape) old new spares level inside p new rs before after low to (end_of h from)
    in_place level inside p u rs before after low high from to ep eu a h canon eq =
        let o = canonical_plain fit names bytes from (ap (content_of names bytes) ep ∙ was) h canon in
        let same_bytes_seen : seen_bytes_of bytes p ≡ seen_bytes_of others p = subst (λ y. seen_bytes_of bytes y ≡ seen_bytes_of others y) (sym ep) refl in
        let same_values_seen : seen_values p [] no_values ≡ seen_values p [] o.vs = subst (λ y. seen_values y [] no_values ≡ seen_values y [] o.vs) (sym ep) refl in
        let none = of_none o.all in
        record {
          lies = inl (subst (λ y. InOwn leaf_pos (size_of leaf_shape) y) (sym ep) (le_refl leaf_pos, le_refl _));
          there = record {
            seen_bytes = same_bytes_seen;
            holds = holds_plain (ap (content_of names others) ep ∙ is) legal (holds_none refl none.0 none.1) makes;
            canonical = (subst (IsClean names others) (sym ep) clean, settled_still bytes others names fit p [] o.vs no_values same_bytes_seen refl same_values_seen o.settled, tt);
            ends = eq ∙ sym (o.ends ∙ none.2 from);
          };
        }
      where
        of_none : {vs : Values} → (all : HoldAll names bytes level inside [] vs rs before after) → (rs ≡ []) × (after ≡ before) × ((m : ℕ) → end_of_all all m ≡ m)
        of_none (holds_none y z g) = (z, g, λ m. refl)

pub canonical_edit_of_text_law : CanonicalEditOfText
unfolding pointee_content made
canonical_edit_of_text_law fit names bytes others start pos s v regions visits path text_pos len old x stands free spares legal small =
    edit_canonical fit names bytes others text_pos len (behind text_pos str len) old (string (window others text_pos len)) spares behind_it x stands free small
  where
    behind_it : (level : ℕ) (inside : List OpenShared) (p : Part) (u : Value) (rs : List Region) (before after : List Visit) (low high from to : ℕ)
        → p ≡ behind text_pos str len → u ≡ old → Ascends low high rs → (h : Holds names bytes level inside p u rs before after) → IsCanonical fit h from → to ≡ from
        → Edited fit names bytes others text_pos len (behind text_pos str len) old (string (window others text_pos len)) spares level inside p (string (window others text_pos len)) rs before after low to (end_of h from)
    behind_it level inside p u rs before after low high from to ep eu a h canon eq =
        let span : Span = record { start = text_pos; size = len; align = 1 } in
        let o = canonical_claimed fit names bytes {s = span} {l = Label.written (window bytes text_pos len)} {ps = []} from (ap (content_of names bytes) ep) h canon in
        let same_bytes_seen : seen_bytes_of bytes p ≡ seen_bytes_of others p = subst (λ y. seen_bytes_of bytes y ≡ seen_bytes_of others y) (sym ep) refl in
        let same_values_seen : seen_values p [] no_values ≡ seen_values p [] o.vs = subst (λ y. seen_values y [] no_values ≡ seen_values y [] o.vs) (sym ep) refl in
        let none = of_none o.all in
        let own : Region = region_of span level in
        let alone : rs ≡ own ∷ [] = o.regions_are ∙ ap (λ b. b ++ own ∷ []) none.0 in
        let follows = one_follows low high span level (subst (Ascends low high) alone a) in
        record {
          lies = inr (follows.0, (let e = ap (end_after low) alone ∙ follows.1 in omega arith), λ z c. subst (λ r. InRegions r z) (sym alone) (inl c));
          there = record {
            seen_bytes = same_bytes_seen;
            holds = holds_claimed (ap (content_of names others) ep) legal (holds_none refl refl none.1) refl alone;
            canonical = (subst (IsClean names others) (sym ep) (record { padding = λ i c. inl c; filled = tt }), settled_still bytes others names fit p [] o.vs no_values same_bytes_seen refl same_values_seen o.settled, tt, o.placed ∙ ap (λ m. align_up m 1) (none.2 from ∙ sym eq));
            ends = sym o.ends;
          };
        }
      where
        of_none : {vs : Values} {within : List Region} → (all : HoldAll names bytes (suc level) inside [] vs within before after) → (within ≡ []) × (after ≡ before) × ((m : ℕ) → end_of_all all m ≡ m)
        of_none (holds_none y z g) = (z, g, λ m. refl)
