-- What a map lists of a part, by the content of the part: there is one such list.
use Rattle.std.proofs.Common.{◌≡◌, ◌∙◌, ℕ, suc, ◌+◌, ◌<◌, ◌≤◌, Bool, List, [], ◌∷◌, ◌++◌, refl, sym, ap, ap₂, subst, arith}
use Rattle.archive_shape_layout.specs.Shape.{Pointee}
use Rattle.archive_shape_layout.specs.Content.{Names, Part, Span, Label, content_of}
use Rattle.archive_shape_layout.specs.Content.Part.{behind}
use Rattle.archive_shape_layout.specs.Content.Content.{illegal, plain, claimed, counting}
use Rattle.cabinet_archives.specs.Mapping.{Name, Listed, node, region, listed_region, listed_tag, node_tag, name_in, end_after, Maps, MapsAll}
use Rattle.cabinet_archives.specs.Mapping.Maps.{maps_plain, maps_claimed, maps_first, maps_later}
use Rattle.cabinet_archives.specs.Mapping.MapsAll.{maps_none, maps_more}

pub end_after-append : (low : ℕ) (xs ys : List Listed) → end_after low (xs ++ ys) ≡ end_after (end_after low xs) ys
unfolding end_after
end_after-append low [] ys = refl
end_after-append low (node tag ∷ xs) ys = end_after-append low xs ys
end_after-append low (region start size n ∷ xs) ys = end_after-append (start + size) xs ys

module _ (names : Names) (bytes : List ℕ) where
  pub record PlainMaps (n : Name) (p : Part) (ps : List Part) (low : ℕ) (listed : List Listed) : Type 0 where
    pub inner : List Listed
    pub all : MapsAll names bytes n p 0 ps low inner
    pub is : listed ≡ listed_tag (node_tag bytes p) ++ inner

  pub plain_maps : {n : Name} {p : Part} {l : Label} {ps : List Part} {low : ℕ} {listed : List Listed} → content_of names bytes p ≡ plain l ps → Maps names bytes n p low listed → PlainMaps n p ps low listed
  plain_maps {n = n} {p = p} {l = l} {ps = ps} {low = low} e (maps_plain {inner = inner} {l = m} {ps = qs} f all is) =
      let both : plain l ps ≡ plain m qs = sym e ∙ f in
      let parts : qs ≡ ps = cc in
      record { inner = inner; all = subst (λ x. MapsAll names bytes n p 0 x low inner) parts all; is = is }
  plain_maps e (maps_claimed f all is) = let both = sym e ∙ f in absurd (cc)
  plain_maps e (maps_first f high m) = let both = sym e ∙ f in absurd (cc)
  plain_maps e (maps_later f low is) = let both = sym e ∙ f in absurd (cc)

  pub record ClaimedMaps (n : Name) (p : Part) (s : Span) (ps : List Part) (low : ℕ) (listed : List Listed) : Type 0 where
    pub inner : List Listed
    pub all : MapsAll names bytes n p 0 ps low inner
    pub is : listed ≡ inner ++ listed_region s.start s.size n

  pub claimed_maps : {n : Name} {p : Part} {s : Span} {l : Label} {ps : List Part} {low : ℕ} {listed : List Listed} → content_of names bytes p ≡ claimed s l ps → Maps names bytes n p low listed → ClaimedMaps n p s ps low listed
  claimed_maps e (maps_plain f all is) = let both = sym e ∙ f in absurd (cc)
  claimed_maps {n = n} {p = p} {s = s} {l = l} {ps = ps} {low = low} e (maps_claimed {inner = inner} {s = t} {l = m} {ps = qs} f all is) =
      let both : claimed s l ps ≡ claimed t m qs = sym e ∙ f in
      let same : t ≡ s = cc in
      let parts : qs ≡ ps = cc in
      record { inner = inner; all = subst (λ x. MapsAll names bytes n p 0 x low inner) parts all; is = is ∙ ap (λ (x : Span). inner ++ listed_region x.start x.size n) same }
  claimed_maps e (maps_first f high m) = let both = sym e ∙ f in absurd (cc)
  claimed_maps e (maps_later f low is) = let both = sym e ∙ f in absurd (cc)

  -- at the first visit and at a later one
  pub data CountedMaps (n : Name) (p : Part) (q : Part) (t low : ℕ) (listed : List Listed) : Type 0 where
    counted_first : low ≤ t → Maps names bytes (name_in bytes p 0 n) q low listed → CountedMaps n p q t low listed
    counted_later : t < low → listed ≡ [] → CountedMaps n p q t low listed

  pub counting_maps : {n : Name} {p : Part} {cyclic : Bool} {t len : ℕ} {q : Pointee} {low : ℕ} {listed : List Listed} → content_of names bytes p ≡ counting cyclic t q len → Maps names bytes n p low listed → CountedMaps n p (behind t q len) t low listed
  counting_maps e (maps_plain f all is) = let both = sym e ∙ f in absurd (cc)
  counting_maps e (maps_claimed f all is) = let both = sym e ∙ f in absurd (cc)
  counting_maps {n = n} {p = p} {cyclic = cyclic} {t = t} {len = len} {q = q} {low = low} {listed = listed} e (maps_first {cyclic = other} {t = u} {len = more} {pointee = r} f high m) =
      let both : counting cyclic t q len ≡ counting other u r more = sym e ∙ f in
      let same : u ≡ t = cc in
      let parts : behind u r more ≡ behind t q len = cc in
      counted_first (subst (λ x. low ≤ x) same high) (subst (λ x. Maps names bytes (name_in bytes p 0 n) x low listed) parts m)
  counting_maps {cyclic = cyclic} {t = t} {len = len} {q = q} {low = low} e (maps_later {cyclic = other} {t = u} {len = more} {pointee = r} f less is) =
      let both : counting cyclic t q len ≡ counting other u r more = sym e ∙ f in
      let same : u ≡ t = cc in
      counted_later (subst (λ x. x < low) same less) is

  pub not_mapped : {n : Name} {p : Part} {low : ℕ} {listed : List Listed} → content_of names bytes p ≡ illegal → Maps names bytes n p low listed → ⊥
  not_mapped e (maps_plain f all is) = let both = sym e ∙ f in cc
  not_mapped e (maps_claimed f all is) = let both = sym e ∙ f in cc
  not_mapped e (maps_first f high m) = let both = sym e ∙ f in cc
  not_mapped e (maps_later f low is) = let both = sym e ∙ f in cc

  -- ---- parts in order

  pub no_maps : {n : Name} {p : Part} {i low : ℕ} {listed : List Listed} → MapsAll names bytes n p i [] low listed → listed ≡ []
  no_maps (maps_none is) = is

  pub record FirstMaps (n : Name) (p : Part) (i : ℕ) (q : Part) (ps : List Part) (low : ℕ) (listed : List Listed) : Type 0 where
    pub here : List Listed
    pub later : List Listed
    pub first : Maps names bytes (name_in bytes p i n) q low here
    pub rest : MapsAll names bytes n p (suc i) ps (end_after low here) later
    pub is : listed ≡ here ++ later

  pub first_maps : {n : Name} {p q : Part} {i low : ℕ} {ps : List Part} {listed : List Listed} → MapsAll names bytes n p i (q ∷ ps) low listed → FirstMaps n p i q ps low listed
  first_maps (maps_more {here = here} {later = later} m ms is) = record { here = here; later = later; first = m; rest = ms; is = is }

  -- ---- one list

  first_same : {n : Name} {p q : Part} {t low : ℕ} {xs ys : List Listed} → low ≤ t → CountedMaps n p q t low ys → (Maps names bytes (name_in bytes p 0 n) q low ys → xs ≡ ys) → xs ≡ ys
  first_same high (counted_first h k) on = on k
  first_same high (counted_later less none) on = absurd (omega (arith, high, less))

  later_same : {n : Name} {p q : Part} {t low : ℕ} {xs ys : List Listed} → t < low → xs ≡ [] → CountedMaps n p q t low ys → xs ≡ ys
  later_same less is (counted_first h k) = absurd (omega (arith, h, less))
  later_same less is (counted_later l none) = is ∙ sym none

  mutual
    pub one_list : {n : Name} {p : Part} {low : ℕ} {xs ys : List Listed} → Maps names bytes n p low xs → Maps names bytes n p low ys → xs ≡ ys
    one_list {p = p} (maps_plain e all is) m =
        let o = plain_maps e m in
        is ∙ ap (λ x. listed_tag (node_tag bytes p) ++ x) (one_list_of all o.all) ∙ sym o.is
    one_list {n = n} (maps_claimed {s = s} e all is) m =
        let o = claimed_maps e m in
        is ∙ ap (λ x. x ++ listed_region s.start s.size n) (one_list_of all o.all) ∙ sym o.is
    one_list (maps_first e high m) other = first_same high (counting_maps e other) (λ k. one_list m k)
    one_list (maps_later e less is) other = later_same less is (counting_maps e other)

    pub one_list_of : {n : Name} {p : Part} {i low : ℕ} {ps : List Part} {xs ys : List Listed} → MapsAll names bytes n p i ps low xs → MapsAll names bytes n p i ps low ys → xs ≡ ys
    one_list_of (maps_none is) m = is ∙ sym (no_maps m)
    one_list_of {n = n} {p = p} {i = i} {low = low} (maps_more {ps = ps} {here = here} {later = later} m ms is) other =
        let o = first_maps other in
        let same : o.here ≡ here = sym (one_list m o.first) in
        is ∙ ap₂ (λ x y. x ++ y) (sym same) (one_list_of ms (subst (λ x. MapsAll names bytes n p (suc i) ps (end_after low x) o.later) same o.rest)) ∙ sym o.is
