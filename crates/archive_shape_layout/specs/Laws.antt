-- The laws of the layout, as statements.
use Rattle.std.specs.Prelude.{◌≡◌, ℕ, ◌+◌, ◌%◌, ◌≤◌, List, [], ◌∷◌, ◌++◌, length, ◌↔◌, All, AllPairs, ⊤}
use Rattle.std.specs.Int.{IsPowerOfTwo}
use Rattle.archive_shape_layout.specs.Bytes.{window}
use Rattle.archive_shape_layout.specs.Shape.{Shape, align_of, size_of}
use Rattle.archive_shape_layout.specs.Value.{Value}
use Rattle.archive_shape_layout.specs.Content.{Names, Part}
use Rattle.archive_shape_layout.specs.Content.Part.{at, behind, node, child, entry, buckets, place_at}
use Rattle.archive_shape_layout.specs.Holds.{Region, Visit, OpenShared, Holds, Ascends, HasRoot, end_after}

-- two readings agree
pub record Agree (v w : Value) (rs qs : List Region) (a b : List Visit) : Type 0 where
  pub value : v ≡ w
  pub regions : rs ≡ qs
  pub after : a ≡ b

-- bytes have one value of a part, one list of regions, and leave one list of visits
abbrev pub OneValue : Type 0
OneValue =
    (names : Names) (bytes : List ℕ) (level : ℕ) (inside : List OpenShared) (p : Part) (before : List Visit)
    (v w : Value) (rs qs : List Region) (a b : List Visit)
    → Holds names bytes level inside p v rs before a
    → Holds names bytes level inside p w qs before b
    → Agree v w rs qs a b

-- of two lists, one after the other, the second ascends from the end of the first
abbrev pub AscentSplits : Type 0
AscentSplits = (low high : ℕ) (xs ys : List Region) → Ascends low high (xs ++ ys) ↔ (Ascends low high xs × Ascends (end_after low xs) high ys)

-- an earlier region ends before a later one begins
abbrev pub IsBefore : Region → Region → Type 0
IsBefore r s = r.start + r.size ≤ s.start

-- regions that ascend do not overlap
abbrev pub AscentIsApart : Type 0
AscentIsApart = (low high : ℕ) (xs : List Region) → Ascends low high xs → AllPairs IsBefore xs

-- ---- alignments

-- 1, 2, 4, 8, 16 or 32
pub record IsAlignment (n : ℕ) : Type 0 where
  pub power : IsPowerOfTwo n
  pub at_least : 1 ≤ n
  pub at_most : n ≤ 32

abbrev pub AlignmentsAreSmallPowers : Type 0
AlignmentsAreSmallPowers = (s : Shape) → IsAlignment (align_of s)

-- ---- the regions of a root

-- the root's own bytes
abbrev pub root_region : ℕ → Shape → Region
root_region pos s = record { start = pos; size = size_of s; align = align_of s; level = 0 }

pub record AreOfRoot (bytes : List ℕ) (pos : ℕ) (s : Shape) (regions : List Region) : Type 0 where
  pub inside : All (λ r. r.start + r.size ≤ length bytes) regions
  pub aligned : All (λ r. r.start % r.align ≡ 0) regions
  -- the root's own region is the last
  pub others : List Region
  pub last : regions ≡ others ++ root_region pos s ∷ []

-- every region of a root lies in the buffer and is aligned, and the root's own is the last of them
abbrev pub RootRegions : Type 0
RootRegions =
    (names : Names) (bytes : List ℕ) (pos : ℕ) (s : Shape) (v : Value) (regions : List Region) (visits : List Visit)
    → HasRoot names bytes pos s v regions visits
    → AreOfRoot bytes pos s regions

-- ---- the bytes that a reading depends on

-- two buffers have the same bytes in a window
abbrev pub AgreesOn : List ℕ → List ℕ → ℕ → ℕ → Type 0
AgreesOn bytes others start size = window bytes start size ≡ window others start size

-- they agree on the bytes that are a part's own; those that it claims are not among these
abbrev pub OwnAgrees : List ℕ → List ℕ → Part → Type 0
OwnAgrees bytes others (at pos s) = AgreesOn bytes others pos (size_of s)
OwnAgrees bytes others (child level most k v pos) = AgreesOn bytes others pos 4
OwnAgrees bytes others (entry k key_pos v value_pos) = AgreesOn bytes others key_pos (size_of k) × AgreesOn bytes others value_pos (size_of v)
OwnAgrees bytes others (place_at pos limit) = AgreesOn bytes others pos 4
OwnAgrees bytes others (behind pos p len) = ⊤
OwnAgrees bytes others (node level most k v pos) = ⊤
OwnAgrees bytes others (buckets target len cap it) = ⊤

unfoldable pub RegionsAgree : List ℕ → List ℕ → List Region → Type 0
RegionsAgree bytes others [] = ⊤
RegionsAgree bytes others (r ∷ rs) = AgreesOn bytes others r.start r.size × RegionsAgree bytes others rs

-- where other bytes agree on a part's own bytes and on what it claims, they have the same value, regions and visits
abbrev pub Frame : Type 0
Frame =
    (names : Names) (bytes others : List ℕ) (level : ℕ) (inside : List OpenShared) (p : Part) (v : Value) (rs : List Region) (before after : List Visit)
    → OwnAgrees bytes others p
    → RegionsAgree bytes others rs
    → Holds names bytes level inside p v rs before after
    → Holds names others level inside p v rs before after
