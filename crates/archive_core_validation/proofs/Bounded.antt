-- Regions that ascend nest no deeper than the number of bytes that they lie in.
use Rattle.std.proofs.Common.{◌≡◌, ℕ, zero, suc, ◌+◌, ◌-◌, ◌≤◌, List, [], ◌∷◌, ◌++◌, refl, sym, subst, arith}
use Rattle.archive_shape_layout.specs.Value.{Value, Values}
use Rattle.archive_shape_layout.specs.Content.{Names, Part, Span}
use Rattle.archive_shape_layout.specs.Content.Content.{claimed}
use Rattle.archive_shape_layout.specs.Holds.{Region, region_of, Visit, OpenShared, Holds, HoldAll, Ascends, Follows, end_after}
use Rattle.archive_shape_layout.specs.Holds.Holds.{holds_plain, holds_claimed, holds_first, holds_later, holds_back}
use Rattle.archive_shape_layout.specs.Holds.HoldAll.{holds_none, holds_more}
use Rattle.archive_shape_layout.proofs.Ascent.{Ascends-append, end_after-grows, end_after-below}
use Rattle.archive_shape.specs.Accepts.{NestsBelow}
use Rattle.archive_shape.proofs.Ranges.{NestsBelow-append, ascends_until}
use Rattle.archive_core_validation.specs.NestingLaws.{NestingIsBounded}
use Rattle.archive_core_validation.proofs.Empty.{void_claim, claim_nothing}

none_nest : (most : ℕ) (rs : List Region) → rs ≡ [] → NestsBelow most rs
unfolding NestsBelow
none_nest most rs e = subst (NestsBelow most) (sym e) tt

pub nests_below_more : (most more : ℕ) (rs : List Region) → most ≤ more → NestsBelow most rs → NestsBelow more rs
unfolding NestsBelow
nests_below_more most more [] h n = tt
nests_below_more most more (r ∷ rs) h n = let own = n.0 in (omega (arith, h, own), nests_below_more most more rs h n.1)

-- the region that is claimed last, and what lies inside
record Last (level low high : ℕ) (within : List Region) (s : Span) : Type 0 where
  inner : Ascends low s.start within
  begins : low ≤ s.start
  ends : s.start + s.size ≤ high

last_of : (level low high : ℕ) (within : List Region) (s : Span) → Ascends low high (within ++ region_of s level ∷ []) → Last level low high within s
unfolding Ascends
last_of level low high within s a =
    let both = (Ascends-append low high within (region_of s level ∷ [])).0 a in
    let follows : Follows (end_after low within) high (region_of s level) = both.1.0 in
    let after = follows.after in
    let grows = end_after-grows low high within both.0 in
    record { inner = ascends_until low high s.start within both.0 after; begins = omega (arith, after, grows); ends = follows.inside }

own_nests : (level bound : ℕ) (s : Span) → level + 1 ≤ bound → NestsBelow bound (region_of s level ∷ [])
unfolding NestsBelow
own_nests level bound s h = (omega (arith, h), tt)

-- what lies inside a region, by whether it has bytes
within_bounded : (level low high : ℕ) (within : List Region) (s : Span) (size : ℕ) → s.size ≡ size → Last level low high within s
    → (s.size ≡ 0 → within ≡ [])
    → NestsBelow (suc level + (s.start - low) + 1) within
    → NestsBelow (level + (high - low) + 1) within
within_bounded level low high within s zero size last none n = none_nest _ within (none size)
within_bounded level low high within s (suc more) size last none n =
    let begins = last.begins in
    let ends = last.ends in
    nests_below_more (suc level + (s.start - low) + 1) (level + (high - low) + 1) within (omega (arith, begins, ends, size)) n

module _ (names : Names) (bytes : List ℕ) where
  mutual
    bounded : {level : ℕ} {inside : List OpenShared} {p : Part} {v : Value} {regions : List Region} {before after : List Visit} (low high : ℕ)
        → Holds names bytes level inside p v regions before after → low ≤ high → Ascends low high regions → NestsBelow (level + (high - low) + 1) regions
    bounded low high (holds_plain e l all m) le a = all_bounded low high all le a
    bounded {level = level} {p = p} low high (holds_claimed {within = within} {s = s} e l all m r) le a =
        let last = last_of level low high within s (subst (Ascends low high) r a) in
        let begins = last.begins in
        let ends = last.ends in
        let bound = level + (high - low) + 1 in
        let inner : NestsBelow bound within = within_bounded level low high within s s.size refl last (λ none. claim_nothing names bytes all (void_claim names bytes p e none)) (all_bounded low s.start all begins last.inner) in
        subst (NestsBelow bound) (sym r) (NestsBelow-append bound within (region_of s level ∷ []) inner (own_nests level bound s (omega arith)))
    bounded low high (holds_first e x y h d g) le a = bounded low high h le a
    bounded low high (holds_later e x y d r g) le a = none_nest _ _ r
    bounded low high (holds_back e x d r g) le a = none_nest _ _ r

    all_bounded : {level : ℕ} {inside : List OpenShared} {ps : List Part} {vs : Values} {regions : List Region} {before after : List Visit} (low high : ℕ)
        → HoldAll names bytes level inside ps vs regions before after → low ≤ high → Ascends low high regions → NestsBelow (level + (high - low) + 1) regions
    all_bounded low high (holds_none none empty stays) le a = none_nest _ _ empty
    all_bounded {level = level} low high (holds_more {here = here} {later = later} x rest is joined) le a =
        let both = (Ascends-append low high here later).0 (subst (Ascends low high) joined a) in
        let grows = end_after-grows low high here both.0 in
        let below = end_after-below low high here le both.0 in
        let bound = level + (high - low) + 1 in
        let others = nests_below_more (level + (high - end_after low here) + 1) bound later (omega (arith, grows, below)) (all_bounded (end_after low here) high rest below both.1) in
        subst (NestsBelow bound) (sym joined) (NestsBelow-append bound here later (bounded low high x le both.0) others)

pub nesting_law : NestingIsBounded
nesting_law names bytes level inside p v regions before after low high h le a = bounded names bytes low high h le a
