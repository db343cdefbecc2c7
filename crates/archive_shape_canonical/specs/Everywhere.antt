-- What holds of every part that a root reaches.
use Rattle.std.specs.Prelude.{◌≡◌, ℕ, Bool, List, ◌∷◌}
use Rattle.archive_shape_layout.specs.Shape.{Shape, Pointee}
use Rattle.archive_shape_layout.specs.Shape.Pointee.{sized}
use Rattle.archive_shape_layout.specs.Value.{Value, Values}
use Rattle.archive_shape_layout.specs.Content.{Names, Part, Span, Label, content_of}
use Rattle.archive_shape_layout.specs.Content.Part.{behind}
use Rattle.archive_shape_layout.specs.Content.Content.{plain, claimed, counting}
use Rattle.archive_shape_layout.specs.Holds.{Region, Visit, OpenShared, HoldAll}
use Rattle.archive_shape_canonical.specs.Clean.{IsClean}
use Rattle.archive_shape_canonical.specs.Settled.{Fit, IsSettled}
use Rattle.archive_shape_canonical.specs.Canonical.{CanonicalArchive}

mutual
  -- a part is another, or in it, through parts with no region claimed around them, claimed ones and counted pointers
  pub data Reaches (names : Names) (bytes : List ℕ) (q : Part) : Part → Type 0 where
    reaches_here : {p : Part} → p ≡ q → Reaches names bytes q p
    reaches_plain : {p : Part} {l : Label} {ps : List Part} → content_of names bytes p ≡ plain l ps → ReachesIn names bytes q ps → Reaches names bytes q p
    reaches_claimed :
        {p : Part} {s : Span} {l : Label} {ps : List Part} → content_of names bytes p ≡ claimed s l ps → ReachesIn names bytes q ps → Reaches names bytes q p
    reaches_counted :
        {p : Part} {cyclic : Bool} {t : ℕ} {pointee : Pointee} {len : ℕ} → content_of names bytes p ≡ counting cyclic t pointee len
        → Reaches names bytes q (behind t pointee len)
        → Reaches names bytes q p

  -- it is one of these parts, or in it
  pub data ReachesIn (names : Names) (bytes : List ℕ) (q : Part) : List Part → Type 0 where
    reaches_first : {p : Part} {ps : List Part} → Reaches names bytes q p → ReachesIn names bytes q (p ∷ ps)
    reaches_later : {p : Part} {ps : List Part} → ReachesIn names bytes q ps → ReachesIn names bytes q (p ∷ ps)

-- the parts of a part have values with which what is left open there is settled
pub record AreSettled (fit : Fit) (names : Names) (bytes : List ℕ) (q : Part) (ps : List Part) : Type 0 where
  pub level : ℕ
  pub inside : List OpenShared
  pub regions : List Region
  pub before : List Visit
  pub after : List Visit
  pub values : Values
  pub hold : HoldAll names bytes level inside ps values regions before after
  pub settled : IsSettled fit bytes q ps values

-- the padding and filler bytes of a part are as written, and what is left open at its parts is settled
pub record IsAsWritten (fit : Fit) (names : Names) (bytes : List ℕ) (q : Part) : Type 0 where
  pub clean : IsClean names bytes q
  pub plain_settled : (l : Label) (ps : List Part) → content_of names bytes q ≡ plain l ps → AreSettled fit names bytes q ps
  pub claimed_settled : (s : Span) (l : Label) (ps : List Part) → content_of names bytes q ≡ claimed s l ps → AreSettled fit names bytes q ps

-- so is every part that the root of a canonical archive reaches
abbrev pub WrittenEverywhere : Type 0
WrittenEverywhere =
    (fit : Fit) (names : Names) (bytes : List ℕ) (start pos : ℕ) (s : Shape) (v : Value) (regions : List Region) (visits : List Visit) (q : Part)
    → CanonicalArchive fit names bytes start pos s v regions visits
    → Reaches names bytes q (behind pos (sized s) 1)
    → IsAsWritten fit names bytes q
