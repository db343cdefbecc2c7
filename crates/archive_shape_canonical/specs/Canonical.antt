-- The archive that writing a value makes: where its regions lie, and what all padding and filler bytes are.
use Rattle.std.specs.Prelude.{◌≡◌, ℕ, ◌+◌, ◌≤◌, ◌<◌, List, [], ◌∷◌, length, slice_index, ◌⊎◌, ⊤}
use Rattle.archive_shape_layout.specs.Bytes.{align_up}
use Rattle.archive_shape_layout.specs.Shape.{Shape}
use Rattle.archive_shape_layout.specs.Value.{Value, Values}
use Rattle.archive_shape_layout.specs.Content.{Names, Part}
use Rattle.archive_shape_layout.specs.Holds.{Region, Visit, OpenShared, Holds, HoldAll, HasRoot}
use Rattle.archive_shape_layout.specs.Holds.Holds.{holds_plain, holds_claimed, holds_first, holds_later, holds_back}
use Rattle.archive_shape_layout.specs.Holds.HoldAll.{holds_none, holds_more}
use Rattle.archive_shape_canonical.specs.Clean.{IsIn, IsClean}
use Rattle.archive_shape_canonical.specs.Settled.{Fit, IsSettled}
use Rattle.archive_shape_canonical.specs.Sharing.{end_of_shared, AreDistinct}

-- ---- where what is claimed ends

abbrev mutual
  -- after a part, from where what was claimed before it ends
  pub end_of : {names : Names} {bytes : List ℕ} {level : ℕ} {inside : List OpenShared} {p : Part} {v : Value} {regions : List Region} {before after : List Visit}
      → Holds names bytes level inside p v regions before after → ℕ → ℕ
  end_of (holds_plain e legal all m) low = end_of_all all low
  end_of (holds_claimed {s = s} e legal all m r) low = s.start + s.size
  end_of (holds_first {t = t} e a b h d g) low = end_of_shared t (end_of h low)
  end_of (holds_later e a b d g h) low = low
  end_of (holds_back e a d g h) low = low

  pub end_of_all : {names : Names} {bytes : List ℕ} {level : ℕ} {inside : List OpenShared} {ps : List Part} {vs : Values} {regions : List Region} {before after : List Visit}
      → HoldAll names bytes level inside ps vs regions before after → ℕ → ℕ
  end_of_all (holds_none e f g) low = low
  end_of_all (holds_more h hs e r) low = end_of_all hs (end_of h low)

module _ (fit : Fit) where
  abbrev mutual
    -- each part is clean, what the layout leaves open at it is settled, and each region begins at the first aligned
    -- position from `low` on, or from the end of the region before it; no shared position lies inside itself
    pub IsCanonical : {names : Names} {bytes : List ℕ} {level : ℕ} {inside : List OpenShared} {p : Part} {v : Value} {regions : List Region} {before after : List Visit}
        → Holds names bytes level inside p v regions before after → ℕ → Type 0
    IsCanonical {names = names} {bytes = bytes} {p = p} (holds_plain {ps = ps} {vs = vs} e legal all m) low =
        IsClean names bytes p × IsSettled fit bytes p ps vs × AreCanonical all low
    IsCanonical {names = names} {bytes = bytes} {p = p} (holds_claimed {s = s} {ps = ps} {vs = vs} e legal all m r) low =
        IsClean names bytes p × IsSettled fit bytes p ps vs × AreCanonical all low × (s.start ≡ align_up (end_of_all all low) s.align)
    IsCanonical {names = names} {bytes = bytes} {p = p} (holds_first e a b h d g) low = IsClean names bytes p × IsCanonical h low
    IsCanonical {names = names} {bytes = bytes} {p = p} (holds_later e a b d g h) low = IsClean names bytes p
    IsCanonical (holds_back e a d g h) low = ⊥

    pub AreCanonical : {names : Names} {bytes : List ℕ} {level : ℕ} {inside : List OpenShared} {ps : List Part} {vs : Values} {regions : List Region} {before after : List Visit}
        → HoldAll names bytes level inside ps vs regions before after → ℕ → Type 0
    AreCanonical (holds_none e f g) low = ⊤
    AreCanonical (holds_more h hs e r) low = IsCanonical h low × AreCanonical hs (end_of h low)

-- ---- the whole

-- a position lies in one of the regions
abbrev pub InRegions : List Region → ℕ → Type 0
InRegions [] i = ⊥
InRegions (r ∷ rs) i = IsIn r.start r.size i ⊎ InRegions rs i

-- each is below 256
abbrev pub AreBytes : List ℕ → Type 0
AreBytes bs = (i : ℕ) → slice_index bs i < 256

-- Bytes that were written from a position on, and are the archive that writing the value makes.
pub record CanonicalArchive (fit : Fit) (names : Names) (bytes : List ℕ) (start pos : ℕ) (s : Shape) (v : Value) (regions : List Region) (visits : List Visit) : Type 0 where
  pub root : HasRoot names bytes pos s v regions visits
  pub canonical : IsCanonical fit root.holds start
  -- nothing follows the root
  pub ends : end_of root.holds start ≡ length bytes
  -- what lies between regions is zero
  pub gaps : (i : ℕ) → start ≤ i → InRegions regions i ⊎ (slice_index bytes i ≡ 0)
  -- equal shared values are written once
  pub once : AreDistinct visits
  pub bytes_are : AreBytes bytes
