-- What a path takes: the keys that its look-ups compare in search trees, and the strides of sixteen controls that they
-- search in tables.
use Rattle.std.specs.Prelude.{◌≡◌, ℕ, ◌+◌, ◌-◌, ◌^◌, ◌<◌, ◌≤◌, min, not, List, [], ◌∷◌, ◌++◌, length, slice_index, Option, Some, None}
use Rattle.std.specs.List.{prefix_len}
use Rattle.std.specs.Ordering.{nat_cmp}
use Rattle.std.specs.Cmp.Lexicographic.{slice_cmp}
use Rattle.std.specs.declared.cmp.Ordering.{Ordering}
use Rattle.archive_shape_layout.specs.Shape.Shape.{text}
use Rattle.archive_shape_layout.specs.Value.{Value}
use Rattle.archive_shape.specs.Key.{HeldAt}
use Rattle.archive_forms_laws.specs.Text.{IsText}
use Rattle.archive_shape_canonical.specs.Hash.{text_hash}
use Rattle.archive_shape_canonical.specs.Reach.{searched}
use Rattle.archive_shape_canonical.specs.Strides.{sixteens, strides}
use Rattle.archive_hash_probing.specs.Search.{shows}
use Rattle.archive_btree_layout.specs.Descent.{met}
use Rattle.archive_btree_layout.specs.Reading.{Place}
use Rattle.archive_btree_layout.specs.Tree.{Tree}
use Rattle.archive_btree_maps.specs.Maps.{IsMapAt}
use Rattle.cabinet_text_grammar.specs.Path.{Step, key}
use Rattle.cabinet_documents.specs.Node.{node_shape}
use Rattle.cabinet_documents.specs.Table.{Table, found, hashed_at, kept_at, table_of}
use Rattle.cabinet_archives.specs.Found.{Reaches, ReachesNone}
use Rattle.cabinet_archives.specs.Hashed.{table_shape}
use Rattle.cabinet_archives.specs.Kept.{index_shape}
use Rattle.cabinet_archives.specs.Keyed.{knows_pairs}

-- the search for a key in the search tree of the ordered map at `pos` compares n keys, at most five in each of 32 levels
pub record Compares (bytes : List ℕ) (pos : ℕ) (query : List ℕ) (n : ℕ) : Type 0 where
  pub search_tree : Tree Place
  pub order : Place → Ordering
  pub map : IsMapAt bytes 5 text node_shape pos search_tree
  pub orders : (p : Place) (k : List ℕ) → IsText bytes p.key k → order p ≡ slice_cmp nat_cmp query k
  pub count : n ≡ met order search_tree
  pub few : n ≤ 160

-- strides up to the first that shows a place, or all of them where nothing is found
abbrev pub strides_to : ℕ → Option ℕ → List ℕ → ℕ
strides_to cap None stops = length stops
strides_to cap (Some place) stops = prefix_len (λ p. not (shows cap place p)) stops + 1

-- the look-up of a key in a table searches n strides, at most one for sixteen places
abbrev pub Searches : Table → List ℕ → ℕ → Type 0
Searches t k n = (n ≡ strides_to t.capacity (found t k) (searched t.controls (strides (text_hash k) t.capacity))) × (n ≤ sixteens t.capacity)

-- a step looks up a key in a map, whose tag is 6, 7 or 8
abbrev pub IsLookUp : List ℕ → ℕ → Step → Type 0
IsLookUp bytes from s = (k : List ℕ) × (s ≡ key k) × (5 < slice_index bytes from) × (slice_index bytes from < 9)

-- what a step from the node at `from` takes, by the kind of the map
pub data StepTakes (bytes : List ℕ) (from : ℕ) (s : Step) (comparisons searches : ℕ) : Type 0 where
  in_ordered : {k : List ℕ} → s ≡ key k → slice_index bytes from ≡ 6 → Compares bytes (from + 4) k comparisons → searches ≡ 0 → StepTakes bytes from s comparisons searches
  in_hashed :
      {k : List ℕ} {v : Value}
      → s ≡ key k
      → slice_index bytes from ≡ 7
      → HeldAt table_shape knows_pairs bytes (from + 4) v
      → Searches (table_of hashed_at bytes (from + 4) v) k searches
      → comparisons ≡ 0
      → StepTakes bytes from s comparisons searches
  in_kept :
      {k : List ℕ} {v : Value}
      → s ≡ key k
      → slice_index bytes from ≡ 8
      → HeldAt index_shape knows_pairs bytes (from + 4) v
      → Searches (table_of kept_at bytes (from + 4) v) k searches
      → comparisons ≡ 0
      → StepTakes bytes from s comparisons searches
  no_look_up : (IsLookUp bytes from s → ⊥) → comparisons ≡ 0 → searches ≡ 0 → StepTakes bytes from s comparisons searches

-- what a path from the node at `root` takes: what its steps take, up to the first that leads nowhere
pub data PathTakes (bytes : List ℕ) (root : ℕ) : List Step → (comparisons searches : ℕ) → Type 0 where
  takes_none : {path : List Step} {c d : ℕ} → path ≡ [] → c ≡ 0 → d ≡ 0 → PathTakes bytes root path c d
  takes_step :
      {path before : List Step} {s : Step} {from a b c d e f : ℕ}
      → path ≡ before ++ (s ∷ [])
      → PathTakes bytes root before a b
      → Reaches bytes root before from
      → StepTakes bytes from s e f
      → c ≡ a + e
      → d ≡ b + f
      → PathTakes bytes root path c d
  takes_no_more : {path before : List Step} {c d : ℕ} (after : List Step) → path ≡ before ++ after → PathTakes bytes root before c d → ReachesNone bytes root before → PathTakes bytes root path c d

-- the same, where counts stop at the greatest `usize`
pub record CountsPath (bytes : List ℕ) (root : ℕ) (path : List Step) (comparisons searches : ℕ) : Type 0 where
  pub met : ℕ
  pub stops : ℕ
  pub takes : PathTakes bytes root path met stops
  pub comparisons_are : comparisons ≡ min met (2 ^ 64 - 1)
  pub searches_are : searches ≡ min stops (2 ^ 64 - 1)
