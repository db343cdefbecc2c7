-- A table of numbers below a limit is one of the numbers of entries: what is written as the one is read as the other.
use Rattle.std.proofs.Common.{◌≡◌, ℕ, suc, ◌+◌, ◌-◌, ◌*◌, ◌<◌, nat_lt, Bool, true, false, cond, List, [], ◌∷◌, ◌++◌, take, Some, refl, sym, ap, subst, ◌∙◌, arith, inl, inr, ⊎_elim, lt-ltb, add-zero}
use Rattle.std.specs.Prelude.{⊤}
use Rattle.archive_shape_layout.specs.Bytes.{window, word_at, align_up}
use Rattle.archive_shape_layout.specs.Value.{Value, Values}
use Rattle.archive_shape_layout.specs.Value.Value.{natural, group}
use Rattle.archive_shape_layout.specs.Value.Values.{no_values, more_values}
use Rattle.archive_shape_layout.specs.Content.{Names, Part, Span, Label, Content, content_of, made, choose, shape_content, number_value, place_content, tagged_items, buckets_content, buckets_span, control_count}
use Rattle.archive_shape_layout.specs.Content.Item.{item, place}
use Rattle.archive_shape_layout.specs.Content.Part.{at, buckets, place_at}
use Rattle.archive_shape_layout.specs.Content.Label.{leaf, whole}
use Rattle.archive_shape_layout.specs.Content.Content.{plain, claimed, illegal}
use Rattle.archive_shape_layout.specs.Holds.{Region, Visit, OpenShared, Holds, HoldAll}
use Rattle.archive_shape_layout.specs.Holds.Holds.{holds_plain, holds_claimed, holds_first, holds_later, holds_back}
use Rattle.archive_shape_layout.specs.Holds.HoldAll.{holds_none, holds_more}
use Rattle.archive_shape_layout.proofs.Unique.{by_plain, by_claimed}
use Rattle.archive_shape_canonical.specs.Settled.{Fit}
use Rattle.archive_shape_canonical.specs.Clean.{IsClean, InParts, PaddingIsZero, IsFilled}
use Rattle.archive_shape_canonical.specs.Canonical.{IsCanonical, AreCanonical, end_of, end_of_all}
use Rattle.archive_shape_canonical.proofs.Cleanness.{clean_by}
use Rattle.archive_shape_layout.proofs.Windows.{word_within}
use Rattle.archive_shape.proofs.Pieces.{word_of_window}
use Rattle.archive_forms_laws.specs.Spells.{CanonicalPart}
use Rattle.archive_forms_laws.specs.Sample.{number_shape}

-- a number below a limit
pub record IsBelow (limit : ℕ) (v : Value) : Type 0 where
  pub number : ℕ
  pub is : v ≡ natural number
  pub below : number < limit

abbrev pub AreBelow : ℕ → Values → Type 0
AreBelow limit no_values = ⊤
AreBelow limit (more_values v vs) = IsBelow limit v × AreBelow limit vs

module _ (names : Names) (bytes : List ℕ) where
  -- ---- one number

  -- what the layout has of a number at a position
  pub record NumberHolds (pos : ℕ) (v : Value) (regions : List Region) (before after : List Visit) : Type 0 where
    pub is : v ≡ natural (word_at bytes pos)
    pub none : regions ≡ []
    pub stays : after ≡ before

  pub number_content : (pos : ℕ) → content_of names bytes (at pos number_shape) ≡ plain (leaf (natural (word_at bytes pos))) []
  unfolding shape_content number_value
  number_content pos = ap (λ n. plain (leaf (natural n)) []) (sym (word_of_window bytes pos))

  leaf_held : (u v : Value) (pos : ℕ) {level : ℕ} {inside : List OpenShared} {vs : Values} {regions : List Region} {before after : List Visit}
      → u ≡ natural (word_at bytes pos) → made (leaf u) vs ≡ Some v → HoldAll names bytes level inside [] vs regions before after → NumberHolds pos v regions before after
  unfolding made
  leaf_held u v pos is m (holds_none e f g) =
      let one : made (leaf u) no_values ≡ Some v = subst (λ xs. made (leaf u) xs ≡ Some v) e m in
      let same : u ≡ v = cc in
      record { is = sym same ∙ is; none = f; stays = g }

  pub number_held : (pos : ℕ) {level : ℕ} {inside : List OpenShared} {v : Value} {regions : List Region} {before after : List Visit}
      → Holds names bytes level inside (at pos number_shape) v regions before after → NumberHolds pos v regions before after
  number_held pos {v = v} h =
      let says = by_plain names bytes (number_content pos) h in
      leaf_held (natural (word_at bytes pos)) v pos refl says.is_made says.all

  pub place_is : (pos limit n : ℕ) → word_at bytes pos ≡ n → n < limit → content_of names bytes (place_at pos limit) ≡ plain (leaf (natural n)) []
  unfolding place_content choose
  place_is pos limit n e less =
      let read : word_at (window bytes pos 4) 0 ≡ n = word_within bytes pos 4 0 (omega arith) ∙ ap (word_at bytes) (add-zero pos) ∙ e in
      ap (λ m. choose (nat_lt m limit) (plain (leaf (natural m)) []) illegal) read ∙ ap (λ b. choose b (plain (leaf (natural n)) []) illegal) (lt-ltb n limit less)

module _ (fit : Fit) (names : Names) (bytes : List ℕ) (limit : ℕ) where
  -- ---- all of them

  -- parts claim nothing and meet no shared values, and others have their values as writing makes them
  record PlacesHold (level : ℕ) (inside : List OpenShared) (qs : List Part) (vs : Values) (regions : List Region) (before after : List Visit) (low : ℕ) : Type 0 where
    none : regions ≡ []
    stays : after ≡ before
    hold : HoldAll names bytes level inside qs vs [] before before
    canonical : AreCanonical fit hold low
    ends : end_of_all hold low ≡ low

  abbrev Turned : List Part → List Part → Type 0
  Turned ps qs =
      (level low : ℕ) (inside : List OpenShared) (vs : Values) (regions : List Region) (before after : List Visit)
      → HoldAll names bytes level inside ps vs regions before after → AreBelow limit vs → PlacesHold level inside qs vs regions before after low

  turned_none : Turned [] []
  turned_none level low inside vs regions before after (holds_none e f g) below =
      record { none = f; stays = g; hold = holds_none e refl refl; canonical = tt; ends = refl }

  turned_more : (pos : ℕ) (ps qs : List Part) → Turned ps qs → Turned (at pos number_shape ∷ ps) (place_at pos limit ∷ qs)
  unfolding made
  turned_more pos ps qs rest level low inside vs regions before after (holds_more {v = u} {vs = us} {here = here} {later = later} {between = between} h hs is joined) below =
      let one = number_held names bytes pos h in
      let b = subst (AreBelow limit) is below in
      let others = rest level low inside us later before after (subst (λ a. HoldAll names bytes level inside ps us later a after) one.stays hs) b.1 in
      let n = b.0.number in
      let value : u ≡ natural n = b.0.is in
      let same : natural (word_at bytes pos) ≡ natural n = sym one.is ∙ value in
      let reads : word_at bytes pos ≡ n = cc in
      let c = place_is names bytes pos limit n reads b.0.below in
      record {
        none = joined ∙ (λ i. one.none i ++ others.none i);
        stays = others.stays;
        hold = holds_more (holds_plain c tt (holds_none refl refl refl) (ap Some (sym value))) others.hold is refl;
        canonical = ((clean_by names bytes (place_at pos limit) (plain (leaf (natural n)) []) c (λ i o. inl o) tt, tt, tt), others.canonical);
        ends = others.ends;
      }

  by_control : (b : Bool) (pos : ℕ) (ps qs : List Part) → Turned ps qs → Turned (cond b (at pos number_shape ∷ ps) ps) (cond b (place_at pos limit ∷ qs) qs)
  by_control true pos ps qs rest = turned_more pos ps qs rest
  by_control false pos ps qs rest = rest

  turned_all : (target i : ℕ) (cs : List ℕ) → Turned (tagged_items target (item number_shape) i cs) (tagged_items target (place limit) i cs)
  unfolding tagged_items
  turned_all target i [] = turned_none
  turned_all target i (c ∷ cs) =
      by_control (nat_lt c 128) (target - (i + 1) * 4) (tagged_items target (item number_shape) (i + 1) cs) (tagged_items target (place limit) (i + 1) cs) (turned_all target (i + 1) cs)

  -- bytes of the one are bytes of the other
  parts_by_control : (b : Bool) (pos j : ℕ) (ps qs : List Part) → (InParts ps j → InParts qs j)
      → InParts (cond b (at pos number_shape ∷ ps) ps) j → InParts (cond b (place_at pos limit ∷ qs) qs) j
  parts_by_control true pos j ps qs rest (inl o) = inl o
  parts_by_control true pos j ps qs rest (inr o) = inr (rest o)
  parts_by_control false pos j ps qs rest o = rest o

  parts_turned : (target i j : ℕ) (cs : List ℕ) → InParts (tagged_items target (item number_shape) i cs) j → InParts (tagged_items target (place limit) i cs) j
  unfolding tagged_items
  parts_turned target i j [] o = o
  parts_turned target i j (c ∷ cs) o =
      parts_by_control (nat_lt c 128) (target - (i + 1) * 4) j (tagged_items target (item number_shape) (i + 1) cs) (tagged_items target (place limit) (i + 1) cs) (parts_turned target (i + 1) j cs) o

  -- ---- the buckets

  -- a part that is canonical is clean
  is_clean : {level : ℕ} {inside : List OpenShared} {p : Part} {v : Value} {regions : List Region} {before after : List Visit} (h : Holds names bytes level inside p v regions before after) (low : ℕ)
      → IsCanonical fit h low → IsClean names bytes p
  is_clean (holds_plain e legal all m) low c = c.0
  is_clean (holds_claimed e legal all m r) low c = c.0
  is_clean (holds_first e a b h d g) low c = c.0
  is_clean (holds_later e a b d g h) low c = c
  is_clean (holds_back e a d g h) low c = absurd c

  -- a part that claims a region ends where this does
  ends_claimed : {level : ℕ} {inside : List OpenShared} {p : Part} {v : Value} {regions : List Region} {before after : List Visit} (h : Holds names bytes level inside p v regions before after) (low : ℕ) (s : Span) (l : Label) (ps : List Part)
      → content_of names bytes p ≡ claimed s l ps → end_of h low ≡ s.start + s.size
  ends_claimed (holds_plain f legal all m) low s l ps e = absurd cc
  ends_claimed (holds_claimed {s = t} f legal all m r) low s l ps e = let same : t ≡ s = cc in ap (λ (x : Span). x.start + x.size) same
  ends_claimed (holds_first f a b h d g) low s l ps e = absurd cc
  ends_claimed (holds_later f a b d g h) low s l ps e = absurd cc
  ends_claimed (holds_back f a d g h) low s l ps e = absurd cc

  chosen : (b : Bool) (c d : Content) (s : Span) (l : Label) (ps : List Part) → choose b c illegal ≡ claimed s l ps → choose b d illegal ≡ d
  unfolding choose
  chosen true c d s l ps e = refl
  chosen false c d s l ps e = absurd cc

  group_of : (us vs : Values) → made whole us ≡ Some (group vs) → us ≡ vs
  unfolding made
  group_of us vs e = cc

  module _ (target len cap : ℕ) where
    abbrev controls : List ℕ
    controls = window bytes target (control_count cap)

    abbrev as_numbers : Content
    as_numbers = claimed (buckets_span target cap (item number_shape)) whole (tagged_items target (item number_shape) 0 (take cap controls))

    abbrev as_places : Content
    as_places = claimed (buckets_span target cap (place limit)) whole (tagged_items target (place limit) 0 (take cap controls))

    turned_content : (s : Span) (l : Label) (ps : List Part) → content_of names bytes (buckets target len cap (item number_shape)) ≡ claimed s l ps
        → (content_of names bytes (buckets target len cap (item number_shape)) ≡ as_numbers) × (content_of names bytes (buckets target len cap (place limit)) ≡ as_places)
    unfolding buckets_content
    turned_content s l ps e = (chosen _ as_numbers as_numbers s l ps e, chosen _ as_numbers as_places s l ps e)

    -- buckets of numbers below the limit, where the region begins at the first aligned position
    pub numbers_as_places :
        (level : ℕ) (inside : List OpenShared) (before after : List Visit) (vs : Values) (low high : ℕ) (s : Span) (l : Label) (ps : List Part)
        → content_of names bytes (buckets target len cap (item number_shape)) ≡ claimed s l ps
        → target - cap * 4 ≡ align_up low 4
        → AreBelow limit vs
        → CanonicalPart fit names bytes level inside before after (buckets target len cap (item number_shape)) (group vs) low high
        → CanonicalPart fit names bytes level inside before after (buckets target len cap (place limit)) (group vs) low high
    unfolding buckets_span
    numbers_as_places level inside before after vs low high s l ps legal begins below h =
        let e = turned_content s l ps legal in
        let says = by_claimed names bytes e.0 h.reads.holds in
        let same : says.vs ≡ vs = group_of says.vs vs says.is_made in
        let turned = turned_all target 0 (take cap controls) (suc level) low inside says.vs says.within before after says.all (subst (AreBelow limit) (sym same) below) in
        let clean = is_clean h.reads.holds low h.reads.canonical in
        let padding = subst (PaddingIsZero bytes (buckets target len cap (item number_shape))) e.0 clean.padding in
        let filled = subst (IsFilled bytes (buckets target len cap (item number_shape))) e.0 clean.filled in
        let region : Region = record { start = target - cap * 4; size = cap * 4 + control_count cap; align = 4; level = level } in
        let ended = ends_claimed h.reads.holds low _ _ _ e.0 in
        subst (λ a. CanonicalPart fit names bytes level inside before a (buckets target len cap (place limit)) (group vs) low high) (sym turned.stays)
        (record {
          regions = h.regions;
          reads = record {
            holds = holds_claimed e.1 tt turned.hold says.is_made (says.regions_are ∙ ap (λ rs. rs ++ region ∷ []) turned.none);
            canonical = (
              clean_by names bytes (buckets target len cap (place limit)) as_places e.1
                  (λ i o. ⊎_elim (λ f. inl f) (λ r. ⊎_elim (λ q. inr (inl (parts_turned target 0 i (take cap controls) q))) (λ z. inr (inr z)) r) (padding i o))
                  filled,
              tt,
              turned.canonical,
              begins ∙ sym (ap (λ z. align_up z 4) turned.ends),
            );
            ends = sym ended ∙ h.reads.ends;
          };
          ascends = h.ascends;
          gaps = h.gaps;
        })
