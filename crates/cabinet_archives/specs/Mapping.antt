-- What the map of an archive lists: the nodes that a part leads to and the regions that it claims, as they are met from
-- the first byte to the last.
use Rattle.std.specs.Prelude.{◌≡◌, ℕ, zero, suc, ◌+◌, ◌<◌, ◌≤◌, List, [], ◌∷◌, ◌++◌, Bool, Option, Some, None, slice_index}
use Rattle.archive_shape_layout.specs.Bytes.{window}
use Rattle.archive_shape_layout.specs.Shape.Shape.{tuple, option, choice, vector, shared, tree, table, index_map, named}
use Rattle.archive_shape_layout.specs.Shape.{Pointee}
use Rattle.archive_shape_layout.specs.Shape.Pointee.{str}
use Rattle.archive_shape_layout.specs.Content.{Names, Part, Span, Label, Content, content_of, text_content}
use Rattle.archive_shape_layout.specs.Content.Part.{at, behind, entry}
use Rattle.archive_shape_layout.specs.Content.Label.{written}
use Rattle.archive_shape_layout.specs.Content.Content.{plain, claimed, counting}
use Rattle.cabinet_text_grammar.specs.Path.{Step, key, place, inside}
use Rattle.cabinet_archives.specs.declared.mapping.region.RegionKind.{RegionKind}
use Rattle.cabinet_archives.specs.declared.mapping.region.RegionKind.TheVariants as kind

-- what a region is, and the path to the node that leads to it
pub record Name : Type 0 where
  pub kind : RegionKind
  pub path : List Step

-- what a map lists: a node, by its tag, or a region, by its first byte, its size and its name
pub data Listed : Type 0 where
  node : ℕ → Listed
  region : (start size : ℕ) → Name → Listed

-- a region of no bytes is not listed
unfoldable pub listed_region : ℕ → ℕ → Name → List Listed
listed_region start zero n = []
listed_region start (suc size) n = region start (suc size) n ∷ []

-- where the last of the regions ends
unfoldable pub end_after : ℕ → List Listed → ℕ
end_after low [] = low
end_after low (node tag ∷ ls) = end_after low ls
end_after low (region start size n ∷ ls) = end_after (start + size) ls

-- ---- names

-- the bytes of the text at a position
abbrev pub bytes_in : List ℕ → Content → List ℕ
bytes_in bytes (plain (written t) ps) = t
bytes_in bytes (plain l (behind start p len ∷ ps)) = window bytes start len
bytes_in bytes c = []

abbrev pub text_in : List ℕ → ℕ → List ℕ
text_in bytes pos = bytes_in bytes (text_content pos (window bytes pos 8))

-- what a region is called that part i of a part leads to: a node's payload leads to a text, unless it is another kind of
-- pointer; a pair or an entry leads to a key
abbrev pub kind_in : Part → ℕ → RegionKind → RegionKind
kind_in (at pos (choice ss)) i k = kind.Text
kind_in (at pos (option s)) i k = kind.Node
kind_in (at pos (vector s)) i k = kind.Elements
kind_in (at pos (shared cyclic str)) i k = kind.Shared
kind_in (at pos (shared cyclic p)) i k = kind.Whole
kind_in (at pos (tree most s t)) i k = kind.Tree
kind_in (at pos (table s)) i k = kind.Table
kind_in (at pos (index_map s t)) zero k = kind.Table
kind_in (at pos (index_map s t)) (suc i) k = kind.Entries
kind_in (at pos (tuple ss)) i k = kind.Key
kind_in (entry s key_pos t value_pos) i k = kind.Key
kind_in p i k = k

-- the path goes on into an option or a whole, to a place in a list, and by the key of a pair or an entry
abbrev pub path_in : List ℕ → Part → ℕ → RegionKind → List Step → List Step
path_in bytes (behind pos p len) i kind.Node path = path ++ inside ∷ []
path_in bytes (behind pos p len) i kind.Whole path = path ++ inside ∷ []
path_in bytes (behind pos p len) i kind.Elements path = path ++ place i ∷ []
path_in bytes (at pos (tuple ss)) i k path = path ++ key (text_in bytes pos) ∷ []
path_in bytes (entry s key_pos t value_pos) i k path = path ++ key (text_in bytes key_pos) ∷ []
path_in bytes p i k path = path

abbrev pub name_in : List ℕ → Part → ℕ → Name → Name
name_in bytes p i n = record { kind = kind_in p i n.kind; path = path_in bytes p i n.kind n.path }

-- ---- the walk

-- of a node its tag, which is its first byte
abbrev pub node_tag : List ℕ → Part → Option ℕ
node_tag bytes (at pos (named name size align)) = Some (slice_index bytes pos)
node_tag bytes p = None

unfoldable pub listed_tag : Option ℕ → List Listed
listed_tag None = []
listed_tag (Some tag) = node tag ∷ []

mutual
  -- A part whose regions have a name, after regions that end at `low`. What a shared position leads to is listed at the
  -- first visit: later it lies before the end of a region.
  pub data Maps (names : Names) (bytes : List ℕ) : Name → Part → ℕ → List Listed → Type 0 where
    maps_plain :
        {n : Name} {p : Part} {low : ℕ} {listed inner : List Listed} {l : Label} {ps : List Part}
        → content_of names bytes p ≡ plain l ps
        → MapsAll names bytes n p 0 ps low inner
        → listed ≡ listed_tag (node_tag bytes p) ++ inner
        → Maps names bytes n p low listed
    maps_claimed :
        {n : Name} {p : Part} {low : ℕ} {listed inner : List Listed} {s : Span} {l : Label} {ps : List Part}
        → content_of names bytes p ≡ claimed s l ps
        → MapsAll names bytes n p 0 ps low inner
        → listed ≡ inner ++ listed_region s.start s.size n
        → Maps names bytes n p low listed
    maps_first :
        {n : Name} {p : Part} {low : ℕ} {listed : List Listed} {cyclic : Bool} {t len : ℕ} {pointee : Pointee}
        → content_of names bytes p ≡ counting cyclic t pointee len
        → low ≤ t
        → Maps names bytes (name_in bytes p 0 n) (behind t pointee len) low listed
        → Maps names bytes n p low listed
    maps_later :
        {n : Name} {p : Part} {low : ℕ} {listed : List Listed} {cyclic : Bool} {t len : ℕ} {pointee : Pointee}
        → content_of names bytes p ≡ counting cyclic t pointee len
        → t < low
        → listed ≡ []
        → Maps names bytes n p low listed

  -- the parts of a part from part i on, in order
  pub data MapsAll (names : Names) (bytes : List ℕ) : Name → Part → ℕ → List Part → ℕ → List Listed → Type 0 where
    maps_none :
        {n : Name} {p : Part} {i low : ℕ} {listed : List Listed}
        → listed ≡ []
        → MapsAll names bytes n p i [] low listed
    maps_more :
        {n : Name} {p q : Part} {i low : ℕ} {ps : List Part} {listed here later : List Listed}
        → Maps names bytes (name_in bytes p i n) q low here
        → MapsAll names bytes n p (suc i) ps (end_after low here) later
        → listed ≡ here ++ later
        → MapsAll names bytes n p i (q ∷ ps) low listed
