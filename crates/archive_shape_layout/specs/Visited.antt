-- What was visited before a part: each shared position has the value of its visit.
use Rattle.std.specs.Prelude.{◌≡◌, ℕ, ◌+◌, ◌≤◌, List, [], ◌∷◌}
use Rattle.archive_shape_layout.specs.Value.{Value}
use Rattle.archive_shape_layout.specs.Content.{Names, Part}
use Rattle.archive_shape_layout.specs.Content.Part.{behind}
use Rattle.archive_shape_layout.specs.Holds.{Region, Visit, OpenShared, Holds, Ascends}

-- all that was visited has its value below a position: each pointee has its value, and what it claims ascends from the
-- end of what was visited before it
pub data AllStand (names : Names) (bytes : List ℕ) : ℕ → List Visit → Type 0 where
  none_stand : {high : ℕ} {visits : List Visit} → visits ≡ [] → AllStand names bytes high visits
  more_stand :
      {low high level : ℕ} {inside : List OpenShared} {x : Visit} {regions : List Region} {before between visits : List Visit}
      → AllStand names bytes low before
      → low ≤ high
      → Ascends low high regions
      → Holds names bytes level inside (behind x.pos x.pointee x.len) x.value regions before between
      → AllStand names bytes high between
      → visits ≡ x ∷ between
      → AllStand names bytes high visits

-- regions that are claimed after visits ascend from one position to another, and what was visited has its value below
-- the first of these positions
pub record ClaimedAfter (names : Names) (bytes : List ℕ) (before : List Visit) (low high : ℕ) (regions : List Region) : Type 0 where
  pub stand : AllStand names bytes low before
  pub below : low ≤ high
  pub ascends : Ascends low high regions

-- where a part has a value, all that was visited when it was read has its value below the end of what it claims
abbrev pub VisitsStand : Type 0
VisitsStand =
    (names : Names) (bytes : List ℕ) (level : ℕ) (inside : List OpenShared) (p : Part) (v : Value) (regions : List Region)
    (before after : List Visit) (low high : ℕ)
    → Holds names bytes level inside p v regions before after
    → ClaimedAfter names bytes before low high regions
    → AllStand names bytes high after
