-- The laws of packed trees in canonical archives, as statements.
use Rattle.std.specs.Prelude.{◌≡◌, ℕ, ◌<◌, ◌≤◌, List, [], ◌∷◌, length}
use Rattle.archive_shape_layout.specs.Shape.{Shape}
use Rattle.archive_shape_layout.specs.Shape.Shape.{tree}
use Rattle.archive_shape_layout.specs.Value.{Value}
use Rattle.archive_shape_layout.specs.Content.{Names}
use Rattle.archive_shape_canonical.specs.Settled.{Fit}
use Rattle.archive_btree_layout.specs.Tree.{Tree, items, count_nodes, height}
use Rattle.archive_btree_layout.specs.Packed.{IsPacked}
use Rattle.archive_btree_layout.specs.Reading.{Place, HasNode}
use Rattle.archive_btree_layout.specs.Items.{IsTreeRead}
use Rattle.archive_forms_laws.specs.State.{initial}
use Rattle.archive_forms_laws.specs.Spelling.{Spelling}
use Rattle.archive_forms_laws.specs.Regions.{region_piece, region_fits}
use Rattle.archive_forms_laws.specs.Written.{IsWritten}
use Rattle.archive_btree_spelling.specs.Maps.{btree_spelling}
use Rattle.archive_btree_spelling.specs.Sample.{number_shape, map_shape, map_spelling}
use Rattle.archive_btree_spelling.specs.PackingMaps.{HasTree, HasWrittenMap, IsPackedMap}
use Rattle.archive_forms_laws.specs.Sample.{number_spelling}

-- the tree of a map in a canonical archive is read, also where the root reaches the map through shared values
abbrev pub WrittenIsRead : Type 0
WrittenIsRead =
    (fit : Fit) (names : Names) (bytes : List ℕ) (most : ℕ) (k v : Shape) (pos : ℕ)
    → HasWrittenMap fit names bytes most k v pos
    → (value : Value) × IsTreeRead names bytes most k v pos value

-- the tree is packed
abbrev pub WrittenIsPacked : Type 0
WrittenIsPacked =
    (fit : Fit) (names : Names) (bytes : List ℕ) (most : ℕ) (k v : Shape) (pos : ℕ) (t : Tree Place) → 0 < most
    → HasWrittenMap fit names bytes most k v pos
    → HasTree bytes most k v pos t
    → IsPacked most t

-- no tree with the same number of items, in any bytes, has fewer nodes or less height
abbrev pub WrittenIsLeast : Type 0
WrittenIsLeast =
    (fit : Fit) (names : Names) (bytes others : List ℕ) (most : ℕ) (k v l w : Shape) (pos from : ℕ) (t u : Tree Place) → 0 < most
    → HasWrittenMap fit names bytes most k v pos
    → HasTree bytes most k v pos t
    → HasNode others most l w 1 from u
    → length (items t) ≡ length (items u)
    → (count_nodes t ≤ count_nodes u) × (height t ≤ height u)

-- what is written of pairs, by spellings of their keys and values, has a packed tree of the pairs
abbrev pub MapIsPacked : {A B R Q : Type 0} → ℕ → Shape → Shape → Spelling A R → Spelling B Q → Type 0
MapIsPacked {A = A} {B = B} most k v keys vals =
    (fit : Fit) (names : Names) (pairs : List (A × B)) (bytes : List ℕ) → 0 < most → 0 < length pairs
    → IsWritten (tree most k v) (btree_spelling most k v keys vals) pairs fit names bytes
    → IsPackedMap most k v keys vals names pairs bytes

-- what is written for a map of numbers has a packed tree of its pairs
abbrev pub MapsArePacked : Type 0
MapsArePacked =
    (names : Names) (xs : List (ℕ × ℕ)) (bytes : List ℕ) → 0 < length xs
    → region_fits map_spelling map_shape (xs ∷ []) initial
    → bytes ≡ region_piece map_spelling map_shape (xs ∷ []) initial
    → IsPackedMap 5 number_shape number_shape number_spelling number_spelling names xs bytes
