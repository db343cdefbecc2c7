-- What the acceptance of a part says of the parts below it, by its content.
use Rattle.std.proofs.Common.{◌≡◌, ℕ, suc, ◌+◌, List, ◌∷◌, sym, subst, arith}
use Rattle.archive_shape_layout.specs.Value.{Value, Values}
use Rattle.archive_shape_layout.specs.Content.{Names, Part, Span, Label, Content, content_of}
use Rattle.archive_shape_layout.specs.Content.Content.{plain, claimed, illegal}
use Rattle.archive_shape_layout.specs.Holds.{Region, region_of, Visit, OpenShared, Holds, HoldAll, Ascends, end_after}
use Rattle.archive_shape_layout.specs.Holds.Holds.{holds_plain, holds_claimed, holds_first, holds_later, holds_back}
use Rattle.archive_shape_layout.specs.Holds.HoldAll.{holds_more}
use Rattle.archive_shape_layout.proofs.Unique.{ClaimedHolds, by_plain, by_claimed, one_value, one_list}
use Rattle.archive_shape_layout.proofs.Ascent.{Ascends-append}
use Rattle.archive_shape.specs.Range.{Range, narrowed_to}
use Rattle.archive_shape.specs.Accepts.{Passes, PassesAll, NestsBelow, range_after}
use Rattle.archive_shape.specs.Questions.{claim, AreAnswered}
use Rattle.archive_shape.proofs.Ranges.{NestsBelow-split, LastOf, last_of}

-- some value may have it
abbrev pub IsKnown : Content → Type 0
IsKnown illegal = ⊥
IsKnown _ = Unit {0}

module _ (names : Names) (bytes : List ℕ) where
  pub held_is_known :
      {level : ℕ} {inside : List OpenShared} {p : Part} {v : Value} {rs : List Region} {before after : List Visit}
      → Holds names bytes level inside p v rs before after
      → IsKnown (content_of names bytes p)
  held_is_known (holds_plain e l a m) = subst IsKnown (sym e) tt
  held_is_known (holds_claimed e l a m r) = subst IsKnown (sym e) tt
  held_is_known (holds_first e x y h d g) = subst IsKnown (sym e) tt
  held_is_known (holds_later e x y d g h) = subst IsKnown (sym e) tt
  held_is_known (holds_back e x d g h) = subst IsKnown (sym e) tt

  module _ (inside : List OpenShared) (before : List Visit) where
    pub passing_is_known : (p : Part) (k : Range) → Passes names bytes inside before p k → IsKnown (content_of names bytes p)
    passing_is_known p k h = held_is_known h.accepts.holds

    pub known_content : (p : Part) (k : Range) (c : Content) → content_of names bytes p ≡ c → Passes names bytes inside before p k → IsKnown c
    known_content p k c e h = subst IsKnown e (passing_is_known p k h)

    -- with no region claimed around its parts, they are accepted in its range
    pub plain_parts : (p : Part) (k : Range) (l : Label) (ps : List Part) → content_of names bytes p ≡ plain l ps → Passes names bytes inside before p k → PassesAll names bytes inside before ps k
    plain_parts p k l ps e h =
        let own = by_plain names bytes e h.accepts.holds in
        record { values = own.vs; regions = h.regions; after = h.after; accepts = record { all = own.all; ascends = h.accepts.ascends; nests = h.accepts.nests } }

    -- the region that it claims is the last one
    claimed_last : (p : Part) (k : Range) (s : Span) (l : Label) (ps : List Part) (h : Passes names bytes inside before p k) (own : ClaimedHolds names bytes k.level inside s l ps h.value h.regions before h.after) → LastOf k.start k.end k.most own.within (region_of s k.level)
    claimed_last p k s l ps h own =
        last_of k.start k.end k.most own.within (region_of s k.level)
        (subst (Ascends k.start k.end) own.regions_are h.accepts.ascends)
        (subst (NestsBelow k.most) own.regions_are h.accepts.nests)

    pub claim_answered : (p : Part) (k : Range) (s : Span) (l : Label) (ps : List Part) → content_of names bytes p ≡ claimed s l ps → Passes names bytes inside before p k → AreAnswered k (claim s)
    claim_answered p k s l ps e h =
        let last = claimed_last p k s l ps h (by_claimed names bytes e h.accepts.holds) in
        let follows = last.follows in
        (record { begins = follows.after; ends = follows.inside }, (follows.aligned, (last.nests, tt)))

    -- and its parts are accepted before it
    pub claimed_parts : (p : Part) (k : Range) (s : Span) (l : Label) (ps : List Part) → content_of names bytes p ≡ claimed s l ps → Passes names bytes inside before p k → PassesAll names bytes inside before ps (narrowed_to k s.start)
    claimed_parts p k s l ps e h =
        let own = by_claimed names bytes e h.accepts.holds in
        let last = claimed_last p k s l ps h own in
        let next : suc k.level ≡ k.level + 1 = omega arith in
        record {
          values = own.vs;
          regions = own.within;
          after = h.after;
          accepts = record {
            all = subst (λ n. HoldAll names bytes n inside ps own.vs own.within before h.after) next own.all;
            ascends = last.others;
            nests = last.others_nest;
          };
        }

    -- the first of several is accepted in their range
    pub first_part : (p : Part) (ps : List Part) (k : Range) → PassesAll names bytes inside before (p ∷ ps) k → Passes names bytes inside before p k
    first_part p ps k h = go h.values h.regions h.accepts.all h.accepts.ascends h.accepts.nests
      where
        go : (vs : Values) (rs : List Region) → HoldAll names bytes k.level inside (p ∷ ps) vs rs before h.after → Ascends k.start k.end rs → NestsBelow k.most rs → Passes names bytes inside before p k
        go vs rs (holds_more {v = v} {here = here} {later = later} {between = between} x all e r) ascends nests =
            let both = (Ascends-append k.start k.end here later).0 (subst (Ascends k.start k.end) r ascends) in
            let nest = NestsBelow-split k.most here later (subst (NestsBelow k.most) r nests) in
            record { value = v; regions = here; after = between; accepts = record { holds = x; ascends = both.0; nests = nest.0 } }

    -- and the others after what it claims
    pub later_parts : (p : Part) (ps : List Part) (k : Range) (q : Passes names bytes inside before p k) → PassesAll names bytes inside before (p ∷ ps) k → PassesAll names bytes inside q.after ps (range_after k q.regions)
    later_parts p ps k q h = go h.values h.regions h.accepts.all h.accepts.ascends h.accepts.nests
      where
        go : (vs : Values) (rs : List Region) → HoldAll names bytes k.level inside (p ∷ ps) vs rs before h.after → Ascends k.start k.end rs → NestsBelow k.most rs → PassesAll names bytes inside q.after ps (range_after k q.regions)
        go vs rs (holds_more {v = v} {vs = us} {here = here} {later = later} {between = between} x all e r) ascends nests =
            let same = one_value names bytes q.value q.regions q.after x q.accepts.holds in
            let both = (Ascends-append k.start k.end here later).0 (subst (Ascends k.start k.end) r ascends) in
            let nest = NestsBelow-split k.most here later (subst (NestsBelow k.most) r nests) in
            record {
              values = us;
              regions = later;
              after = h.after;
              accepts = record {
                all = subst (λ b. HoldAll names bytes k.level inside ps us later b h.after) same.after all;
                ascends = subst (λ ys. Ascends (end_after k.start ys) k.end later) same.regions both.1;
                nests = nest.1;
              };
            }

    -- a part is accepted in one way, and so are several
    pub one_passing : (p : Part) (k : Range) (q r : Passes names bytes inside before p k) → (q.regions ≡ r.regions) × (q.after ≡ r.after)
    one_passing p k q r = let same = one_value names bytes r.value r.regions r.after q.accepts.holds r.accepts.holds in (same.regions, same.after)

    pub one_list_passing : (ps : List Part) (k : Range) (q r : PassesAll names bytes inside before ps k) → q.values ≡ r.values
    one_list_passing ps k q r = (one_list names bytes r.values r.regions r.after q.accepts.all r.accepts.all).values
