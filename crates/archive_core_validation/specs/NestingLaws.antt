-- The depth of nested regions.
use Rattle.std.specs.Prelude.{ℕ, ◌+◌, ◌-◌, ◌≤◌, List}
use Rattle.archive_shape_layout.specs.Value.{Value}
use Rattle.archive_shape_layout.specs.Content.{Names, Part}
use Rattle.archive_shape_layout.specs.Holds.{Region, Visit, OpenShared, Holds, Ascends}
use Rattle.archive_shape.specs.Accepts.{NestsBelow}

-- regions that a part claims at a level, and that ascend from one position to another, nest no deeper than the number
-- of bytes between
abbrev pub NestingIsBounded : Type 0
NestingIsBounded =
    (names : Names) (bytes : List ℕ) (level : ℕ) (inside : List OpenShared) (p : Part) (v : Value) (regions : List Region) (before after : List Visit) (low high : ℕ)
    → Holds names bytes level inside p v regions before after
    → low ≤ high
    → Ascends low high regions
    → NestsBelow (level + (high - low) + 1) regions
