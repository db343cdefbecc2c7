-- What a check accepts: a part that has a value, whose regions ascend within a range and nest no deeper than it allows.
use Rattle.std.specs.Prelude.{ℕ, ◌<◌, List, [], ◌∷◌, ⊤}
use Rattle.archive_shape_layout.specs.Value.{Value, Values}
use Rattle.archive_shape_layout.specs.Content.{Names, Part}
use Rattle.archive_shape_layout.specs.Holds.{Region, Visit, OpenShared, Holds, HoldAll, Ascends, end_after}
use Rattle.archive_shape.specs.Range.{Range, started_at}

-- each region lies inside fewer than n others
unfoldable pub NestsBelow : ℕ → List Region → Type 0
NestsBelow most [] = ⊤
NestsBelow most (r ∷ rs) = (r.level < most) × NestsBelow most rs

-- inside the shared positions that are open, after those that were visited
module _ (names : Names) (bytes : List ℕ) (inside : List OpenShared) (before : List Visit) where
  -- a part has a value, with the regions that it claims of a range
  pub record Accepts (p : Part) (k : Range) (v : Value) (regions : List Region) (after : List Visit) : Type 0 where
    pub holds : Holds names bytes k.level inside p v regions before after
    pub ascends : Ascends k.start k.end regions
    pub nests : NestsBelow k.most regions

  -- parts in order have values
  pub record AcceptsAll (ps : List Part) (k : Range) (vs : Values) (regions : List Region) (after : List Visit) : Type 0 where
    pub all : HoldAll names bytes k.level inside ps vs regions before after
    pub ascends : Ascends k.start k.end regions
    pub nests : NestsBelow k.most regions

  pub record Passes (p : Part) (k : Range) : Type 0 where
    pub value : Value
    pub regions : List Region
    pub after : List Visit
    pub accepts : Accepts p k value regions after

  pub record PassesAll (ps : List Part) (k : Range) : Type 0 where
    pub values : Values
    pub regions : List Region
    pub after : List Visit
    pub accepts : AcceptsAll ps k values regions after

-- the range after what was accepted
abbrev pub range_after : Range → List Region → Range
range_after k regions = started_at k (end_after k.start regions)
