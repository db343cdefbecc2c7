-- That bytes have a shape and a value at a position, with the regions that the value and its parts claim.
use Rattle.std.specs.Prelude.{◌≡◌, ℕ, suc, ◌+◌, ◌-◌, ◌≤◌, ◌%◌, ◌==◌, Bool, true, cond, List, [], ◌∷◌, ◌++◌, length, Option, Some, None, ⊤}
use Rattle.archive_shape_layout.specs.Shape.{Shape, Pointee, align_of, size_of}
use Rattle.archive_shape_layout.specs.Value.{Value, Values}
use Rattle.archive_shape_layout.specs.Value.Value.{counted, back}
use Rattle.archive_shape_layout.specs.Value.Values.{no_values, more_values}
use Rattle.archive_shape_layout.specs.Content.{Names, Part, Span, Label, content_of, made, IsLegal}
use Rattle.archive_shape_layout.specs.Content.Part.{behind}
use Rattle.archive_shape_layout.specs.Content.Content.{plain, claimed, counting}

-- bytes that are claimed, their alignment, and the number of regions that they are claimed inside
pub record Region : Type 0 where
  pub start : ℕ
  pub size : ℕ
  pub align : ℕ
  pub level : ℕ

abbrev pub region_of : Span → ℕ → Region
region_of s level = record { start = s.start; size = s.size; align = s.align; level = level }

-- a shared position that has been visited: its pointee's shape and length, and its value
pub record Visit : Type 0 where
  pub pos : ℕ
  pub pointee : Pointee
  pub len : ℕ
  pub value : Value

-- a shared position that is being visited
pub record OpenShared : Type 0 where
  pub pos : ℕ
  pub pointee : Pointee
  pub len : ℕ

abbrev pub visited : List Visit → ℕ → Option Visit
visited [] pos = None
visited (v ∷ vs) pos = cond (v.pos == pos) (Some v) (visited vs pos)

abbrev pub open_at : List OpenShared → ℕ → Option OpenShared
open_at [] pos = None
open_at (o ∷ os) pos = cond (o.pos == pos) (Some o) (open_at os pos)

mutual
  -- at a level, inside the shared positions that are open, a part has a value. It claims regions, those inside a region
  -- before it, and takes the shared positions visited so far from `before` to `after`. A shared pointee is claimed at
  -- the first visit of its position; each later visit has the same shape and length. No position lies inside itself
  -- where the pointer's flavor forbids cycles.
  pub data Holds (names : Names) (bytes : List ℕ) : ℕ → List OpenShared → Part → Value → List Region → List Visit → List Visit → Type 0 where
    holds_plain :
        {level : ℕ} {inside : List OpenShared} {p : Part} {v : Value} {regions : List Region} {before after : List Visit} {l : Label} {ps : List Part} {vs : Values}
        → content_of names bytes p ≡ plain l ps
        → IsLegal l
        → HoldAll names bytes level inside ps vs regions before after
        → made l vs ≡ Some v
        → Holds names bytes level inside p v regions before after
    holds_claimed :
        {level : ℕ} {inside : List OpenShared} {p : Part} {v : Value} {regions within : List Region} {before after : List Visit} {s : Span} {l : Label} {ps : List Part} {vs : Values}
        → content_of names bytes p ≡ claimed s l ps
        → IsLegal l
        → HoldAll names bytes (suc level) inside ps vs within before after
        → made l vs ≡ Some v
        → regions ≡ within ++ region_of s level ∷ []
        → Holds names bytes level inside p v regions before after
    holds_first :
        {level : ℕ} {inside : List OpenShared} {p : Part} {v w : Value} {regions : List Region} {before after between : List Visit} {cyclic : Bool} {t : ℕ} {q : Pointee} {len : ℕ}
        → content_of names bytes p ≡ counting cyclic t q len
        → open_at inside t ≡ None
        → visited before t ≡ None
        → Holds names bytes level (record { pos = t; pointee = q; len = len } ∷ inside) (behind t q len) w regions before between
        → v ≡ counted t w
        → after ≡ record { pos = t; pointee = q; len = len; value = w } ∷ between
        → Holds names bytes level inside p v regions before after
    holds_later :
        {level : ℕ} {inside : List OpenShared} {p : Part} {v w : Value} {regions : List Region} {before after : List Visit} {cyclic : Bool} {t : ℕ} {q : Pointee} {len : ℕ}
        → content_of names bytes p ≡ counting cyclic t q len
        → open_at inside t ≡ None
        → visited before t ≡ Some (record { pos = t; pointee = q; len = len; value = w })
        → v ≡ counted t w
        → regions ≡ []
        → after ≡ before
        → Holds names bytes level inside p v regions before after
    holds_back :
        {level : ℕ} {inside : List OpenShared} {p : Part} {v : Value} {regions : List Region} {before after : List Visit} {t : ℕ} {q : Pointee} {len : ℕ}
        → content_of names bytes p ≡ counting true t q len
        → open_at inside t ≡ Some (record { pos = t; pointee = q; len = len })
        → v ≡ back t
        → regions ≡ []
        → after ≡ before
        → Holds names bytes level inside p v regions before after

  -- parts one after the other
  pub data HoldAll (names : Names) (bytes : List ℕ) : ℕ → List OpenShared → List Part → Values → List Region → List Visit → List Visit → Type 0 where
    holds_none :
        {level : ℕ} {inside : List OpenShared} {vs : Values} {regions : List Region} {before after : List Visit}
        → vs ≡ no_values
        → regions ≡ []
        → after ≡ before
        → HoldAll names bytes level inside [] vs regions before after
    holds_more :
        {level : ℕ} {inside : List OpenShared} {p : Part} {ps : List Part} {v : Value} {ws vs : Values} {here later regions : List Region} {before between after : List Visit}
        → Holds names bytes level inside p v here before between
        → HoldAll names bytes level inside ps vs later between after
        → ws ≡ more_values v vs
        → regions ≡ here ++ later
        → HoldAll names bytes level inside (p ∷ ps) ws regions before after

-- ---- ascent

-- where the last region ends
unfoldable pub end_after : ℕ → List Region → ℕ
end_after low [] = low
end_after low (r ∷ rs) = end_after (r.start + r.size) rs

-- a region is aligned, begins no earlier than `low` and ends no later than `high`
pub record Follows (low high : ℕ) (r : Region) : Type 0 where
  pub after : low ≤ r.start
  pub aligned : r.start % r.align ≡ 0
  pub inside : r.start + r.size ≤ high

-- each region begins no earlier than the one before ends
unfoldable pub Ascends : ℕ → ℕ → List Region → Type 0
Ascends low high [] = ⊤
Ascends low high (r ∷ rs) = Follows low high r × Ascends (r.start + r.size) high rs

-- where a root lies: at the end of a buffer of that length, rounded down to its alignment; at 0 where it does not fit
unfoldable pub root_position : ℕ → Shape → ℕ
root_position len s = (len - size_of s) - (len - size_of s) % align_of s

-- a buffer has a value of the shape at a position, with regions that ascend from its first byte to its end
pub record HasRoot (names : Names) (bytes : List ℕ) (pos : ℕ) (s : Shape) (v : Value) (regions : List Region) (visits : List Visit) : Type 0 where
  pub holds : Holds names bytes 0 [] (behind pos (Pointee.sized s) 1) v regions [] visits
  pub ascends : Ascends 0 (length bytes) regions
