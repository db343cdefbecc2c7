-- A map lists the regions that are claimed.
use Rattle.std.proofs.Common.{◌≡◌, ◌∙◌, ℕ, zero, suc, ◌+◌, ◌<◌, ◌≤◌, ◌==◌, Bool, true, false, cond, List, [], ◌∷◌, ◌++◌, length, Option, Some, None, inl, inr, refl, sym, ap, ap₂, subst, arith, append_assoc, append-nil, eqb-true}
use Rattle.std.specs.Prelude.{⊤, ◌⊎◌}
use Rattle.std.proofs.lemmas.Bool.Decides.{leb_tells}
use Rattle.archive_shape_layout.specs.Bytes.{window}
use Rattle.archive_shape_layout.specs.Shape.{Pointee}
use Rattle.archive_shape_layout.specs.Shape.Pointee.{sized, str}
use Rattle.archive_shape_layout.specs.Value.{Value, Values}
use Rattle.archive_shape_layout.specs.Content.{Part, Span, Label, content_of, pointee_content}
use Rattle.archive_shape_layout.specs.Content.Part.{behind}
use Rattle.archive_shape_layout.specs.Content.Label.{written, same as keeps}
use Rattle.archive_shape_layout.specs.Content.Content.{plain, claimed, counting}
use Rattle.archive_shape_layout.specs.Holds as layout
use Rattle.archive_shape_layout.specs.Holds.{Region, Visit, OpenShared, Holds, HoldAll, HasRoot, Ascends, region_of, root_position, visited}
use Rattle.archive_shape_layout.specs.Holds.Holds.{holds_plain, holds_claimed, holds_first, holds_later, holds_back}
use Rattle.archive_shape_layout.specs.Holds.HoldAll.{holds_none, holds_more}
use Rattle.archive_shape_layout.proofs.Ascent.{end_after-grows}
use Rattle.archive_shape_layout.proofs.Edits.{narrow, one_follows}
use Rattle.archive_shape_layout.proofs.Unique.{by_claimed}
use Rattle.cabinet_documents.specs.Node.{node_shape, node_names}
use Rattle.cabinet_documents.proofs.Places.{Place, Spot, node_here, node_behind, text_behind, part_of, parts_at, Leads, leads_nowhere, leads_plain, leads_claimed, leads_counted, leads_whole, led}
use Rattle.cabinet_archives.specs.Mapping.{Name, Listed, node, region, listed_region, listed_tag, node_tag, name_in, end_after, Maps, MapsAll}
use Rattle.cabinet_archives.specs.Mapping.Maps.{maps_plain, maps_claimed, maps_first, maps_later}
use Rattle.cabinet_archives.specs.Mapping.MapsAll.{maps_none, maps_more}
use Rattle.cabinet_archives.specs.MapLaws.{span_of, spans, listed_spans, MapListsRegions, root_name}
use Rattle.cabinet_archives.proofs.Listings as listings
use Rattle.cabinet_archives.proofs.Listings.{claimed_maps, no_maps, one_list}

-- ---- spans

spans-append : (xs ys : List Region) → spans (xs ++ ys) ≡ spans xs ++ spans ys
spans-append [] ys = refl
spans-append (r ∷ xs) ys = ap (λ x. span_of r.start r.size ++ x) (spans-append xs ys) ∙ sym (append_assoc (span_of r.start r.size) (spans xs) (spans ys))

listed_spans-append : (xs ys : List Listed) → listed_spans (xs ++ ys) ≡ listed_spans xs ++ listed_spans ys
listed_spans-append [] ys = refl
listed_spans-append (node tag ∷ xs) ys = listed_spans-append xs ys
listed_spans-append (region start size n ∷ xs) ys = ap (λ x. (start, size) ∷ x) (listed_spans-append xs ys)

listed_span : (start size : ℕ) (n : Name) → listed_spans (listed_region start size n) ≡ span_of start size
unfolding listed_region span_of
listed_span start zero n = refl
listed_span start (suc size) n = refl

end_region : (low start size : ℕ) (n : Name) → low ≤ start → end_after low (listed_region start size n) ≤ start + size
unfolding listed_region end_after
end_region low start zero n less = omega (arith, less)
end_region low start (suc size) n less = omega arith

region_grows : (low start size : ℕ) (n : Name) → low ≤ start → low ≤ end_after low (listed_region start size n)
unfolding listed_region end_after
region_grows low start zero n less = omega arith
region_grows low start (suc size) n less = omega (arith, less)

end_beyond : (low start size : ℕ) (n : Name) → 0 < size → end_after low (listed_region start size n) ≡ start + size
unfolding listed_region end_after
end_beyond low start zero n some = absurd (omega (arith, some))
end_beyond low start (suc size) n some = refl

-- a node by itself has no span and no end
quiet_tag : (o : Option ℕ) (ls : List Listed) → listed_spans (listed_tag o ++ ls) ≡ listed_spans ls
unfolding listed_tag
quiet_tag None ls = refl
quiet_tag (Some tag) ls = refl

still_tag : (low : ℕ) (o : Option ℕ) (ls : List Listed) → end_after low (listed_tag o ++ ls) ≡ end_after low ls
unfolding listed_tag end_after
still_tag low None ls = refl
still_tag low (Some tag) ls = refl

still_none : (low : ℕ) → end_after low [] ≡ low
unfolding end_after
still_none low = refl

-- ---- shared positions

-- what was visited lies before the end of the last region, unless it is a text of no bytes
abbrev IsPast : ℕ → Visit → Type 0
IsPast low w = (w.pos < low) ⊎ ((w.pointee ≡ str) × (w.len ≡ 0))

abbrev ArePast : ℕ → List Visit → Type 0
ArePast low [] = ⊤
ArePast low (w ∷ ws) = IsPast low w × ArePast low ws

past_on : (low high : ℕ) (w : Visit) → low ≤ high → IsPast low w → IsPast high w
past_on low high w up (inl less) = inl (omega (arith, up, less))
past_on low high w up (inr none) = inr none

are_past_on : (low high : ℕ) (ws : List Visit) → low ≤ high → ArePast low ws → ArePast high ws
are_past_on low high [] up h = tt
are_past_on low high (w ∷ ws) up h = (past_on low high w up h.0, are_past_on low high ws up h.1)

found_past : (low t : ℕ) (ws : List Visit) (w : Visit) → visited ws t ≡ Some w → ArePast low ws → (w.pos ≡ t) × IsPast low w
found_past low t [] w e h = absurd (cc)
found_past low t (v ∷ ws) w e h = by (λ f. found_past low t ws w f h.1) (v.pos == t) refl e
  where
    by : (visited ws t ≡ Some w → (w.pos ≡ t) × IsPast low w) → (b : Bool) → (v.pos == t) ≡ b → cond b (Some v) (visited ws t) ≡ Some w → (w.pos ≡ t) × IsPast low w
    by later true is f = let same : v ≡ w = cc in subst (λ (x : Visit). (x.pos ≡ t) × IsPast low x) same (eqb-true v.pos t is, h.0)
    by later false is f = later f

-- ---- parts

module _ (bytes : List ℕ) where
  -- a list of a part that claims regions from `from` on, and visits shared positions
  record Lists (n : Name) (p : Part) (low from : ℕ) (regions : List Region) (after : List Visit) : Type 0 where
    listed : List Listed
    maps : Maps node_names bytes n p low listed
    spans_are : listed_spans listed ≡ spans regions
    grows : low ≤ end_after low listed
    ends : end_after low listed ≤ layout.end_after from regions
    past : ArePast (end_after low listed) after

  record ListsAll (n : Name) (p : Part) (i : ℕ) (ps : List Part) (low from : ℕ) (regions : List Region) (after : List Visit) : Type 0 where
    listed : List Listed
    maps : MapsAll node_names bytes n p i ps low listed
    spans_are : listed_spans listed ≡ spans regions
    grows : low ≤ end_after low listed
    ends : end_after low listed ≤ layout.end_after from regions
    past : ArePast (end_after low listed) after

  -- a shared position at its first visit, where its list is known
  visited_first : {n : Name} {p : Part} {t len : ℕ} {q : Pointee} {w : Value} {low from : ℕ} {regions : List Region} {between after : List Visit}
      → content_of node_names bytes p ≡ counting false t q len → low ≤ t
      → after ≡ record { pos = t; pointee = q; len = len; value = w } ∷ between
      → (o : Lists (name_in bytes p 0 n) (behind t q len) low from regions between)
      → IsPast (end_after low o.listed) (record { pos = t; pointee = q; len = len; value = w })
      → Lists n p low from regions after
  visited_first {low = low} e high is o past = record {
    listed = o.listed;
    maps = maps_first e high o.maps;
    spans_are = o.spans_are;
    grows = o.grows;
    ends = o.ends;
    past = subst (ArePast (end_after low o.listed)) (sym is) (past, o.past);
  }

  node_ends : {n : Name} {t low : ℕ} {listed : List Listed} → Maps node_names bytes n (behind t (sized node_shape) 1) low listed → t < end_after low listed
  unfolding pointee_content
  node_ends {n = n} {t = t} {low = low} m =
      let c = claimed_maps node_names bytes {s = record { start = t; size = 24; align = 8 }} {l = keeps} {ps = part_of node_here t ∷ []} refl m in
      let is = ap (end_after low) c.is ∙ listings.end_after-append low c.inner (listed_region t 24 n) ∙ end_beyond (end_after low c.inner) t 24 n (omega arith) in
      omega (arith, is)

  text_ends : {n : Name} {t len low : ℕ} {listed : List Listed} → 0 < len → Maps node_names bytes n (behind t str len) low listed → t < end_after low listed
  unfolding pointee_content
  text_ends {n = n} {t = t} {len = len} {low = low} some m =
      let c = claimed_maps node_names bytes {s = record { start = t; size = len; align = 1 }} {l = written (window bytes t len)} {ps = []} refl m in
      let is = ap (end_after low) c.is ∙ listings.end_after-append low c.inner (listed_region t len n) ∙ end_beyond (end_after low c.inner) t len n some in
      omega (arith, is, some)

  -- a text of no bytes is not listed
  text_none : {n : Name} (t low : ℕ) → Maps node_names bytes n (behind t str 0) low []
  unfolding pointee_content listed_region
  text_none t low = maps_claimed {s = record { start = t; size = 0; align = 1 }} refl (maps_none refl) refl

  -- what a shared pointer leads to begins where the last region ends or later
  begins_after : (high : ℕ) {t len : ℕ} {q : Pointee} {s : Span} {l : Label} {ps : List Part} {level : ℕ} {inside : List OpenShared} {w : Value} {from : ℕ} {regions : List Region} {before after : List Visit}
      → content_of node_names bytes (behind t q len) ≡ claimed s l ps → s.start ≡ t
      → Holds node_names bytes level inside (behind t q len) w regions before after → Ascends from high regions → from ≤ t
  begins_after high {t = t} {level = level} {from = from} {regions = regions} e start h asc =
      let c = by_claimed node_names bytes e h in
      let two = narrow from high c.within (region_of _ level ∷ []) regions c.regions_are asc in
      let low = end_after-grows from high c.within two.0.0 in
      let one = one_follows (layout.end_after from c.within) high _ level two.0.1 in
      let after = one.0 in
      omega (arith, low, after, start)

  mutual
    unfolding pointee_content

    lists : (k : Place) (pos : ℕ) (n : Name) {p : Part} {level : ℕ} {inside : List OpenShared} {v : Value} {regions : List Region} {before after : List Visit}
        → p ≡ part_of k pos → Holds node_names bytes level inside p v regions before after
        → (low from high : ℕ) → low ≤ from → Ascends from high regions → ArePast low before → Lists n p low from regions after
    lists k pos n {p = p} {level = level} {inside = inside} {regions = regions} {before = before} {after = after} same (holds_plain {l = l} {ps = ps} {vs = vs} e legal all made) low from high up asc past =
        by (λ qs are. lists_all qs n p 0 are all low from high up asc past) k (led bytes k pos)
      where
        said : content_of node_names bytes (part_of k pos) ≡ plain l ps
        said = ap (content_of node_names bytes) (sym same) ∙ e

        on : ListsAll n p 0 ps low from regions after → Lists n p low from regions after
        on o =
            let still = still_tag low (node_tag bytes p) o.listed in
            record {
              listed = listed_tag (node_tag bytes p) ++ o.listed;
              maps = maps_plain e o.maps refl;
              spans_are = quiet_tag (node_tag bytes p) o.listed ∙ o.spans_are;
              grows = subst (λ x. low ≤ x) (sym still) o.grows;
              ends = subst (λ x. x ≤ layout.end_after from regions) (sym still) o.ends;
              past = subst (λ x. ArePast x after) (sym still) o.past;
            }

        by : ((qs : List Spot) → ps ≡ parts_at qs → ListsAll n p 0 ps low from regions after) → (j : Place) → Leads bytes j (content_of node_names bytes (part_of k pos)) → Lists n p low from regions after
        by go j (leads_nowhere c) = let both = sym said ∙ c in absurd (cc)
        by go j (leads_plain {qs = qs} c f) = on (go qs (let both = sym said ∙ c in cc))
        by go j (leads_claimed c f b) = let both = sym said ∙ c in absurd (cc)
        by go j (leads_counted c) = let both = sym said ∙ c in absurd (cc)
        by go j (leads_whole c) = let both = sym said ∙ c in absurd (cc)
    lists k pos n {p = p} {level = level} {regions = regions} {after = after} same (holds_claimed {within = within} {s = s} {l = l} {ps = ps} e legal all made regs) low from high up asc past =
        by (λ qs are. lists_all qs n p 0 are all low from high up (narrow from high within (region_of s level ∷ []) regions regs asc).0.0 past) k (led bytes k pos)
      where
        said : content_of node_names bytes (part_of k pos) ≡ claimed s l ps
        said = ap (content_of node_names bytes) (sym same) ∙ e

        on : ListsAll n p 0 ps low from within after → Lists n p low from regions after
        on o =
            let two = narrow from high within (region_of s level ∷ []) regions regs asc in
            let one = one_follows (layout.end_after from within) high s level two.0.1 in
            let there : end_after low o.listed ≤ s.start = let a = o.ends in let b = one.0 in omega (arith, a, b) in
            let end = listings.end_after-append low o.listed (listed_region s.start s.size n) in
            let last = end_region (end_after low o.listed) s.start s.size n there in
            let more = region_grows (end_after low o.listed) s.start s.size n there in
            let whole = two.1 ∙ one.1 in
            let up_to : end_after low (o.listed ++ listed_region s.start s.size n) ≤ layout.end_after from regions = omega (arith, end, last, whole) in
            let grown : end_after low o.listed ≤ end_after low (o.listed ++ listed_region s.start s.size n) = omega (arith, end, more) in
            let first = o.grows in
            record {
              listed = o.listed ++ listed_region s.start s.size n;
              maps = maps_claimed e o.maps refl;
              spans_are =
                  listed_spans-append o.listed (listed_region s.start s.size n)
                  ∙ ap₂ (λ x y. x ++ y) o.spans_are (listed_span s.start s.size n ∙ sym (append-nil (span_of s.start s.size)))
                  ∙ sym (spans-append within (region_of s level ∷ []))
                  ∙ ap spans (sym regs);
              grows = omega (arith, first, grown);
              ends = up_to;
              past = are_past_on (end_after low o.listed) (end_after low (o.listed ++ listed_region s.start s.size n)) after grown o.past;
            }

        by : ((qs : List Spot) → ps ≡ parts_at qs → ListsAll n p 0 ps low from within after) → (j : Place) → Leads bytes j (content_of node_names bytes (part_of k pos)) → Lists n p low from regions after
        by go j (leads_nowhere c) = let both = sym said ∙ c in absurd (cc)
        by go j (leads_plain c f) = let both = sym said ∙ c in absurd (cc)
        by go j (leads_claimed {qs = qs} c f b) = on (go qs (let both = sym said ∙ c in cc))
        by go j (leads_counted c) = let both = sym said ∙ c in absurd (cc)
        by go j (leads_whole c) = let both = sym said ∙ c in absurd (cc)
    lists k pos n {p = p} {level = level} {inside = inside} {regions = regions} {before = before} {after = after} same (holds_first {w = w} {between = between} {cyclic = cyclic} {t = t} {q = q} {len = len} e away new inner v is) low from high up asc past =
        by (λ j there. lists j t (name_in bytes p 0 n) there inner low from high up asc past) k (led bytes k pos)
      where
        said : content_of node_names bytes (part_of k pos) ≡ counting cyclic t q len
        said = ap (content_of node_names bytes) (sym same) ∙ e

        shown : (m : ℕ) → len ≡ m → q ≡ str → {listed : List Listed} → Maps node_names bytes (name_in bytes p 0 n) (behind t q len) low listed → IsPast (end_after low listed) (record { pos = t; pointee = q; len = len; value = w })
        shown zero none is_text h = inr (is_text, none)
        shown (suc m) some is_text {listed} h = inl (text_ends (omega (arith, some)) (subst (λ x. Maps node_names bytes (name_in bytes p 0 n) (behind t x len) low listed) is_text h))

        text : q ≡ str → cyclic ≡ false → Lists (name_in bytes p 0 n) (behind t q len) low from regions between → Lists n p low from regions after
        text is_text no_cycle o =
            let begins = begins_after high {t = t} {len = len} {q = str} {s = record { start = t; size = len; align = 1 }} {l = written (window bytes t len)} {ps = []} refl refl (subst (λ x. Holds node_names bytes level (record { pos = t; pointee = q; len = len } ∷ inside) (behind t x len) w regions before between) is_text inner) asc in
            visited_first (e ∙ ap (λ x. counting x t q len) no_cycle) (omega (arith, up, begins)) is o (shown len refl is_text o.maps)

        whole : q ≡ sized node_shape → len ≡ 1 → cyclic ≡ false → Lists (name_in bytes p 0 n) (behind t q len) low from regions between → Lists n p low from regions after
        whole is_node one no_cycle o =
            let there : behind t q len ≡ behind t (sized node_shape) 1 = ap₂ (λ x m. behind t x m) is_node one in
            let begins = begins_after high {t = t} {len = 1} {q = sized node_shape} {s = record { start = t; size = 24; align = 8 }} {l = keeps} {ps = part_of node_here t ∷ []} refl refl (subst (λ x. Holds node_names bytes level (record { pos = t; pointee = q; len = len } ∷ inside) x w regions before between) there inner) asc in
            visited_first (e ∙ ap (λ x. counting x t q len) no_cycle) (omega (arith, up, begins)) is o (inl (node_ends (subst (λ x. Maps node_names bytes (name_in bytes p 0 n) x low o.listed) there o.maps)))

        by : ((j : Place) → behind t q len ≡ part_of j t → Lists (name_in bytes p 0 n) (behind t q len) low from regions between) → (i : Place) → Leads bytes i (content_of node_names bytes (part_of k pos)) → Lists n p low from regions after
        by go j (leads_nowhere c) = let both = sym said ∙ c in absurd (cc)
        by go j (leads_plain c f) = let both = sym said ∙ c in absurd (cc)
        by go j (leads_claimed c f b) = let both = sym said ∙ c in absurd (cc)
        by go j (leads_counted {t = u} {len = more} c) =
            let both : counting cyclic t q len ≡ counting false u str more = sym said ∙ c in
            let is_text : q ≡ str = cc in
            text is_text (cc) (go (text_behind len) (ap (λ x. behind t x len) is_text))
        by go j (leads_whole {t = u} c) =
            let both : counting cyclic t q len ≡ counting false u (sized node_shape) 1 = sym said ∙ c in
            let is_node : q ≡ sized node_shape = cc in
            let one : len ≡ 1 = cc in
            whole is_node one (cc) (go node_behind (ap₂ (λ x m. behind t x m) is_node one))
    lists k pos n {p = p} {regions = regions} {before = before} {after = after} same (holds_later {w = w} {cyclic = cyclic} {t = t} {q = q} {len = len} e away old v none is) low from high up asc past =
        by (found_past low t before (record { pos = t; pointee = q; len = len; value = w }) old past).1
      where
        nothing : Maps node_names bytes n p low [] → Lists n p low from regions after
        nothing maps = record {
          listed = [];
          maps = maps;
          spans_are = ap spans (sym none);
          grows = let still = still_none low in omega (arith, still);
          ends = let still = still_none low in let grown = end_after-grows from high regions asc in omega (arith, still, grown, up);
          past = subst (λ x. ArePast x after) (sym (still_none low)) (subst (ArePast low) (sym is) past);
        }

        by : IsPast low (record { pos = t; pointee = q; len = len; value = w }) → Lists n p low from regions after
        by (inl less) = nothing (maps_later e less refl)
        by (inr empty) =
            elim (leb_tells low t) [
              | inl high ↦ nothing (maps_first e high.1 (subst (λ x. Maps node_names bytes (name_in bytes p 0 n) x low []) (sym (ap₂ (λ x m. behind t x m) empty.0 empty.1)) (text_none t low)))
              | inr less ↦ nothing (maps_later e less.1 refl)
            ]
    lists k pos n {p = p} {regions = regions} {after = after} same (holds_back {t = t} {q = q} {len = len} e there v none is) low from high up asc past = by k (led bytes k pos)
      where
        said : content_of node_names bytes (part_of k pos) ≡ counting true t q len
        said = ap (content_of node_names bytes) (sym same) ∙ e

        by : (j : Place) → Leads bytes j (content_of node_names bytes (part_of k pos)) → Lists n p low from regions after
        by j (leads_nowhere c) = let both = sym said ∙ c in absurd (cc)
        by j (leads_plain c f) = let both = sym said ∙ c in absurd (cc)
        by j (leads_claimed c f b) = let both = sym said ∙ c in absurd (cc)
        by j (leads_counted c) = let both = sym said ∙ c in absurd (cc)
        by j (leads_whole c) = let both = sym said ∙ c in absurd (cc)

    lists_all : (qs : List Spot) (n : Name) (p : Part) (i : ℕ) {ps : List Part} {level : ℕ} {inside : List OpenShared} {vs : Values} {regions : List Region} {before after : List Visit}
        → ps ≡ parts_at qs → HoldAll node_names bytes level inside ps vs regions before after
        → (low from high : ℕ) → low ≤ from → Ascends from high regions → ArePast low before → ListsAll n p i ps low from regions after
    lists_all qs n p i {regions = regions} {after = after} are (holds_none v none is) low from high up asc past = record {
      listed = [];
      maps = maps_none refl;
      spans_are = ap spans (sym none);
      grows = let still = still_none low in omega (arith, still);
      ends = let still = still_none low in let grown = end_after-grows from high regions asc in omega (arith, still, grown, up);
      past = subst (λ x. ArePast x after) (sym (still_none low)) (subst (ArePast low) (sym is) past);
    }
    lists_all [] n p i are (holds_more h hs v regs) low from high up asc past = absurd (cc)
    lists_all (q ∷ qs) n p i {regions = regions} {after = after} are (holds_more {p = r} {ps = ps} {here = here} {later = later} h hs v regs) low from high up asc past =
        let two = narrow from high here later regions regs asc in
        let one : r ≡ part_of q.place q.pos = cc in
        let others : ps ≡ parts_at qs = cc in
        let o = lists q.place q.pos (name_in bytes p i n) one h low from high up two.0.0 past in
        let os = lists_all qs n p (suc i) others hs (end_after low o.listed) (layout.end_after from here) high o.ends two.0.1 o.past in
        let end = listings.end_after-append low o.listed os.listed in
        let first = o.grows in
        let second = os.grows in
        record {
          listed = o.listed ++ os.listed;
          maps = maps_more o.maps os.maps refl;
          spans_are = listed_spans-append o.listed os.listed ∙ ap₂ (λ x y. x ++ y) o.spans_are os.spans_are ∙ sym (spans-append here later) ∙ ap spans (sym regs);
          grows = omega (arith, end, first, second);
          ends = subst (λ x. x ≤ layout.end_after from regions) (sym end) (subst (λ x. end_after (end_after low o.listed) os.listed ≤ x) (sym two.1) os.ends);
          past = subst (λ x. ArePast x after) (sym end) os.past;
        }

pub map_lists_regions : MapListsRegions
map_lists_regions bytes v regions visits root =
    let o = lists bytes node_behind (root_position (length bytes) node_shape) root_name refl root.holds 0 0 (length bytes) (omega arith) root.ascends tt in
    record { listed = o.listed; maps = o.maps; one = λ other m. one_list node_names bytes m o.maps; spans_are = o.spans_are }
