-- What a map lists: all regions that the root claims, each once, in ascending order.
use Rattle.std.specs.Prelude.{◌≡◌, ℕ, zero, suc, List, [], ◌∷◌, ◌++◌, length}
use Rattle.archive_shape_layout.specs.Value.{Value}
use Rattle.archive_shape_layout.specs.Holds.{Region, Visit, HasRoot, root_position}
use Rattle.cabinet_documents.specs.Audit.{root_part}
use Rattle.cabinet_documents.specs.Node.{node_shape, node_names}
use Rattle.cabinet_archives.specs.Mapping.{Name, Listed, node, region, Maps}
use Rattle.cabinet_archives.specs.declared.mapping.region.RegionKind.TheVariants.{Root}

-- the first byte of a region and its size, unless it has no bytes
unfoldable pub span_of : ℕ → ℕ → List (ℕ × ℕ)
span_of start zero = []
span_of start (suc size) = (start, suc size) ∷ []

abbrev pub spans : List Region → List (ℕ × ℕ)
spans [] = []
spans (r ∷ rs) = span_of r.start r.size ++ spans rs

abbrev pub listed_spans : List Listed → List (ℕ × ℕ)
listed_spans [] = []
listed_spans (node tag ∷ ls) = listed_spans ls
listed_spans (region start size n ∷ ls) = (start, size) ∷ listed_spans ls

-- the root, which no step leads to
abbrev pub root_name : Name
root_name = record { kind = Root; path = [] }

abbrev pub RootMaps : List ℕ → List Listed → Type 0
RootMaps bytes listed = Maps node_names bytes root_name (root_part bytes) 0 listed

-- where bytes have a root, one list is that of its map, and it has the regions that the root claims, in their order
pub record MapsRegions (bytes : List ℕ) (regions : List Region) : Type 0 where
  pub listed : List Listed
  pub maps : RootMaps bytes listed
  pub one : (other : List Listed) → RootMaps bytes other → other ≡ listed
  pub spans_are : listed_spans listed ≡ spans regions

abbrev pub MapListsRegions : Type 0
MapListsRegions =
    (bytes : List ℕ) (v : Value) (regions : List Region) (visits : List Visit)
    → HasRoot node_names bytes (root_position (length bytes) node_shape) node_shape v regions visits
    → MapsRegions bytes regions
