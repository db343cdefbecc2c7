-- What was visited has its value, before a part and after it.
use Rattle.std.proofs.Common.{◌≡◌, ◌∙◌, ℕ, ◌+◌, ◌-◌, ◌≤◌, List, [], ◌∷◌, ◌++◌, take, drop, refl, ap, sym, subst, le_refl, arith, take-take}
use Rattle.std.proofs.lemmas.List.{drop-take}
use Rattle.archive_shape_layout.specs.Value.{Value, Values}
use Rattle.archive_shape_layout.specs.Content.{Names, Part, Span}
use Rattle.archive_shape_layout.specs.Content.Part.{behind}
use Rattle.archive_shape_layout.specs.Holds.{Region, region_of, Visit, OpenShared, Holds, HoldAll, Ascends, end_after}
use Rattle.archive_shape_layout.specs.Holds.Holds.{holds_plain, holds_claimed, holds_first, holds_later, holds_back}
use Rattle.archive_shape_layout.specs.Holds.HoldAll.{holds_none, holds_more}
use Rattle.archive_shape_layout.specs.Laws.{AgreesOn, RegionsAgree}
use Rattle.archive_shape_layout.specs.Visited.{AllStand, ClaimedAfter, VisitsStand}
use Rattle.archive_shape_layout.specs.Visited.AllStand.{none_stand, more_stand}
use Rattle.archive_shape_layout.proofs.Ascent.{Ascends-append, end_after-grows, end_after-below}
use Rattle.archive_shape_layout.proofs.Evaluated.{ascends_below, ascends_raised}
use Rattle.archive_shape_layout.proofs.Framed.{frame, RegionsAgree-append}

-- what is claimed inside a region, before it, and that the region ends before a position
pub record ClaimedInside (names : Names) (bytes : List ℕ) (before : List Visit) (low high : ℕ) (r : Region) (within : List Region) : Type 0 where
  pub claimed : ClaimedAfter names bytes before low r.start within
  pub ends : r.start + r.size ≤ high

module _ {names : Names} {bytes : List ℕ} where
  -- below a later position too
  pub stand_raised : {low high : ℕ} {visits : List Visit} → low ≤ high → AllStand names bytes low visits → AllStand names bytes high visits
  stand_raised up (none_stand is) = none_stand is
  stand_raised {low} {high} up (more_stand {low = start} {regions = regions} stand below ascends holds others is) =
      more_stand stand (omega arith) (ascends_raised start low high regions up ascends) holds (stand_raised up others) is

  -- what begins with no visits
  pub claimed_first : {high : ℕ} {regions : List Region} → Ascends 0 high regions → ClaimedAfter names bytes [] 0 high regions
  claimed_first a = record { stand = none_stand refl; below = omega arith; ascends = a }

  pub claimed_raised : {before : List Visit} {low high top : ℕ} {regions : List Region} → high ≤ top
      → ClaimedAfter names bytes before low high regions → ClaimedAfter names bytes before low top regions
  claimed_raised {low = low} {high} {top} {regions} up c =
      let below = c.below in
      record { stand = c.stand; below = omega arith; ascends = ascends_raised low high top regions up c.ascends }

  -- of what is claimed in two, the first ends where the second begins
  pub claimed_here : {before : List Visit} {low high : ℕ} {regions here : List Region} (later : List Region) → regions ≡ here ++ later
      → ClaimedAfter names bytes before low high regions → ClaimedAfter names bytes before low (end_after low here) here
  claimed_here {low = low} {high} {here = here} later joined c =
      let both = (Ascends-append low high here later).0 (subst (Ascends low high) joined c.ascends) in
      record { stand = c.stand; below = end_after-grows low high here both.0; ascends = ascends_below low high (end_after low here) here both.0 (le_refl (end_after low here)) }

  -- and before where the second ends
  pub claimed_front : {before : List Visit} {low high : ℕ} {regions here : List Region} (later : List Region) → regions ≡ here ++ later
      → ClaimedAfter names bytes before low high regions → ClaimedAfter names bytes before low high here
  claimed_front {low = low} {high} {here = here} later joined c =
      record { stand = c.stand; below = c.below; ascends = ((Ascends-append low high here later).0 (subst (Ascends low high) joined c.ascends)).0 }

  -- what is claimed inside a region lies before it
  pub claimed_inside : {before : List Visit} {low high : ℕ} {regions within : List Region} {r : Region} → regions ≡ within ++ r ∷ []
      → ClaimedAfter names bytes before low high regions → ClaimedInside names bytes before low high r within
  unfolding Ascends
  claimed_inside {low = low} {high} {regions} {within} {r} joined c =
      let both = (Ascends-append low high within (r ∷ [])).0 (subst (Ascends low high) joined c.ascends) in
      let after = both.1.0.after in
      let grows = end_after-grows low high within both.0 in
      record {
        claimed = record { stand = c.stand; below = omega arith; ascends = ascends_below low high r.start within both.0 after };
        ends = both.1.0.inside;
      }

  -- the second begins where what was visited up to the end of the first has its value
  pub claimed_behind : {before between : List Visit} {low high : ℕ} {regions later : List Region} (here : List Region) → AllStand names bytes (end_after low here) between → regions ≡ here ++ later
      → ClaimedAfter names bytes before low high regions → ClaimedAfter names bytes between (end_after low here) high later
  claimed_behind {low = low} {high} {later = later} here stand joined c =
      let both = (Ascends-append low high here later).0 (subst (Ascends low high) joined c.ascends) in
      record { stand = stand; below = end_after-below low high here c.below both.0; ascends = both.1 }

-- ---- in other bytes

-- two buffers have the same bytes below a position
abbrev pub AgreeBelow : List ℕ → List ℕ → ℕ → Type 0
AgreeBelow bytes others high = (start size : ℕ) → start + size ≤ high → AgreesOn bytes others start size

pub take_agrees : (bytes : List ℕ) (n : ℕ) → AgreeBelow bytes (take n bytes) n
take_agrees bytes n start size fits =
    let is : n ≡ start + (n - start) = omega (arith, fits) in
    let cut : drop start (take n bytes) ≡ take (n - start) (drop start bytes) = ap (λ j. drop start (take j bytes)) is ∙ drop-take start (n - start) bytes in
    sym (ap (take size) cut ∙ take-take size (n - start) (drop start bytes) (omega (arith, fits)))

pub regions_agree : {bytes others : List ℕ} (low high : ℕ) (rs : List Region) → AgreeBelow bytes others high → Ascends low high rs → RegionsAgree bytes others rs
unfolding Ascends RegionsAgree
regions_agree low high [] same a = tt
regions_agree low high (r ∷ rs) same a = (same r.start r.size a.0.inside, regions_agree (r.start + r.size) high rs same a.1)

module _ {names : Names} {bytes others : List ℕ} where
  mutual
    -- all that was visited after a part has its value in bytes that agree on what the part claims, where all that was
    -- visited before it does
    pub part_stands_in : {level : ℕ} {inside : List OpenShared} {p : Part} {v : Value} {regions : List Region} {before after : List Visit} {low high : ℕ}
        → Holds names bytes level inside p v regions before after
        → RegionsAgree bytes others regions
        → ClaimedAfter names others before low high regions
        → AllStand names others high after
    part_stands_in (holds_plain content legal all is_made) same c = parts_stand_in all same c
    part_stands_in {low = low} {high} (holds_claimed {within = within} {s = s} content legal all is_made joined) same c =
        let i = claimed_inside joined c in
        let ends = i.ends in
        let split = RegionsAgree-append bytes others within _ (subst (RegionsAgree bytes others) joined same) in
        stand_raised (omega arith) (parts_stand_in all split.0 i.claimed)
    part_stands_in (holds_first content opened visited holds is after_is) same c =
        more_stand c.stand c.below c.ascends (frame bytes others names tt same holds) (part_stands_in holds same c) after_is
    part_stands_in {low = low} {high} (holds_later content opened visited is none after_is) same c = subst (AllStand names others high) (sym after_is) (stand_raised c.below c.stand)
    part_stands_in {low = low} {high} (holds_back content opened is none after_is) same c = subst (AllStand names others high) (sym after_is) (stand_raised c.below c.stand)

    pub parts_stand_in : {level : ℕ} {inside : List OpenShared} {ps : List Part} {vs : Values} {regions : List Region} {before after : List Visit} {low high : ℕ}
        → HoldAll names bytes level inside ps vs regions before after
        → RegionsAgree bytes others regions
        → ClaimedAfter names others before low high regions
        → AllStand names others high after
    parts_stand_in {high = high} (holds_none none empty after_is) same c = subst (AllStand names others high) (sym after_is) (stand_raised c.below c.stand)
    parts_stand_in (holds_more {here = here} {later = later} holds rest is joined) same c =
        let split = RegionsAgree-append bytes others here later (subst (RegionsAgree bytes others) joined same) in
        parts_stand_in rest split.1 (claimed_behind here (part_stands_in holds split.0 (claimed_here later joined c)) joined c)

  -- what was visited has its value in bytes that agree below a position
  pub stand_same : {high : ℕ} {visits : List Visit} → AgreeBelow bytes others high → AllStand names bytes high visits → AllStand names others high visits
  stand_same same (none_stand is) = none_stand is
  stand_same {high} same (more_stand {low = low} {regions = regions} stand below ascends holds rest is) =
      more_stand (stand_same (λ start size within. same start size (omega arith)) stand) below ascends
      (frame bytes others names tt (regions_agree low high regions same ascends) holds) (stand_same same rest) is

  pub claimed_same : {before : List Visit} {low high : ℕ} {regions : List Region} → AgreeBelow bytes others low
      → ClaimedAfter names bytes before low high regions → ClaimedAfter names others before low high regions
  claimed_same same c = record { stand = stand_same same c.stand; below = c.below; ascends = c.ascends }

-- ---- in the same bytes

module _ {names : Names} {bytes : List ℕ} where
  pub part_stands : {level : ℕ} {inside : List OpenShared} {p : Part} {v : Value} {regions : List Region} {before after : List Visit} {low high : ℕ}
      → Holds names bytes level inside p v regions before after
      → ClaimedAfter names bytes before low high regions
      → AllStand names bytes high after
  part_stands {regions = regions} {low = low} {high} holds c = part_stands_in holds (regions_agree low high regions (λ start size within. refl) c.ascends) c

  -- so what is claimed next follows what the part has visited
  pub claimed_later : {level : ℕ} {inside : List OpenShared} {p : Part} {v : Value} {regions here later : List Region} {before between : List Visit} {low high : ℕ}
      → Holds names bytes level inside p v here before between
      → regions ≡ here ++ later
      → ClaimedAfter names bytes before low high regions
      → ClaimedAfter names bytes between (end_after low here) high later
  claimed_later {here = here} {later} holds joined c = claimed_behind here (part_stands holds (claimed_here later joined c)) joined c

pub visits_stand_law : VisitsStand
visits_stand_law names bytes level inside p v regions before after low high holds claimed = part_stands holds claimed
