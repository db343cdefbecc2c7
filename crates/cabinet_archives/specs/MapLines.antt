-- The lines of a map, of what it lists.
use Rattle.std.specs.Prelude.{ℕ, zero, suc, ◌+◌, ◌-◌, ◌^◌, min, Bool, true, cond, nat_lt, nat_le, List, [], ◌∷◌, ◌++◌, length, codes, set, get_or, replicate, Option, Some, None}
use Rattle.std.specs.Fmt.{decimal}
use Rattle.cabinet_text_grammar.specs.Line.{spelled_path}
use Rattle.cabinet_text_grammar.specs.Path.{Step}
use Rattle.cabinet_archives.specs.Mapping.{Name, Listed, node, region}
use Rattle.cabinet_archives.specs.declared.mapping.region.RegionKind.{RegionKind}
use Rattle.cabinet_archives.specs.declared.mapping.region.RegionKind.TheVariants as kind
use Rattle.cabinet_archives.specs.declared.mapping.tally.Tally.{Tally}

-- ---- words

abbrev pub word_of : RegionKind → List ℕ
word_of kind.Root = codes "root"
word_of kind.Node = codes "node"
word_of kind.Whole = codes "whole"
word_of kind.Elements = codes "elements"
word_of kind.Tree = codes "tree"
word_of kind.Table = codes "table"
word_of kind.Entries = codes "entries"
word_of kind.Text = codes "text"
word_of kind.Key = codes "key"
word_of kind.Shared = codes "shared"

-- the place of the number of bytes of regions
abbrev pub place_of : RegionKind → ℕ
place_of kind.Root = 0
place_of kind.Node = 1
place_of kind.Whole = 2
place_of kind.Elements = 3
place_of kind.Tree = 4
place_of kind.Table = 5
place_of kind.Entries = 6
place_of kind.Text = 7
place_of kind.Key = 8
place_of kind.Shared = 9

-- ---- a line

-- a text at the right of a column
abbrev pub right : ℕ → List ℕ → List ℕ
right width t = replicate (width - length t) 32 ++ t

-- a byte begins a character of a text unless it is one of 80 to bf
abbrev pub begins : ℕ → Bool
begins b = cond (nat_lt b 128) true (nat_le 192 b)

-- the first characters of a text; two dots follow where it has more
unfoldable pub cut : ℕ → List ℕ → List ℕ
cut left [] = []
cut zero (b ∷ t) = cond (begins b) (codes "..") (b ∷ cut zero t)
cut (suc left) (b ∷ t) = b ∷ cond (begins b) (cut left t) (cut (suc left) t)

-- how many characters more there may be after a text, unless it has more
unfoldable pub left_after : ℕ → List ℕ → Option ℕ
left_after left [] = Some left
left_after zero (b ∷ t) = cond (begins b) None (left_after zero t)
left_after (suc left) (b ∷ t) = cond (begins b) (left_after left t) (left_after (suc left) t)

-- the steps of a path, each after a space, of which the first is not counted
abbrev pub spelled_steps : Option ℕ → List Step → List ℕ
spelled_steps None path = spelled_path path
spelled_steps (Some most) path = cut (min (most + 1) (2 ^ 64 - 1)) (spelled_path path)

-- a word, and in a column after it the path, if that has steps
abbrev pub spelled_column : Option ℕ → List ℕ → List Step → List ℕ
spelled_column most word [] = []
spelled_column most word (step ∷ path) = replicate (8 - length word) 32 ++ spelled_steps most (step ∷ path)

abbrev pub spelled_row : Option ℕ → ℕ → ℕ → List ℕ → List Step → List ℕ
spelled_row most start size word path =
    right 10 (decimal start) ++ (codes " " ++ (right 10 (decimal size) ++ (codes " " ++ (word ++ (spelled_column most word path ++ codes "\n")))))

-- ---- what is counted

-- a sum stops at the greatest number of 64 bits
abbrev pub plus : ℕ → ℕ → ℕ
plus m n = min (m + n) (2 ^ 64 - 1)

abbrev pub raised : List ℕ → ℕ → ℕ → List ℕ
raised counts i n = set counts i (plus (get_or counts i 0) n)

abbrev pub with_node : Tally → ℕ → Tally
with_node t tag = record { lines = t.lines; characters = t.characters; end = t.end; rows = t.rows; nodes = raised t.nodes tag 1; bytes = t.bytes }

-- a line of `size` bytes that end at `end`
abbrev pub with_row : Tally → ℕ → ℕ → ℕ → Tally
with_row t end i size =
    record { lines = t.lines; characters = t.characters; end = end; rows = plus t.rows 1; nodes = t.nodes; bytes = raised t.bytes i size }

-- ---- the lines

abbrev pub has_room : Option ℕ → ℕ → Bool
has_room None rows = true
has_room (Some most) rows = nat_lt rows most

-- a line, if there is room for it
abbrev pub shown : Tally → ℕ → ℕ → List ℕ → List Step → List ℕ
shown t start size word path = cond (has_room t.lines t.rows) (spelled_row t.characters start size word path) []

-- the bytes up to a position that no region claims
abbrev pub written_gap : Tally → ℕ → List ℕ
written_gap t start = cond (nat_lt t.end start) (shown t t.end (start - t.end) (codes "unused") []) []

abbrev pub past_gap : Tally → ℕ → Tally
past_gap t start = cond (nat_lt t.end start) (with_row t start 10 (start - t.end)) t

abbrev pub written_region : Tally → ℕ → ℕ → Name → List ℕ
written_region t start size n = written_gap t start ++ shown (past_gap t start) start size (word_of n.kind) n.path

abbrev pub past_region : Tally → ℕ → ℕ → Name → Tally
past_region t start size n = with_row (past_gap t start) (start + size) (place_of n.kind) size

unfoldable pub tallied : Tally → List Listed → Tally
tallied t [] = t
tallied t (node tag ∷ ls) = tallied (with_node t tag) ls
tallied t (region start size n ∷ ls) = tallied (past_region t start size n) ls

unfoldable pub written : Tally → List Listed → List ℕ
written t [] = []
written t (node tag ∷ ls) = written (with_node t tag) ls
written t (region start size n ∷ ls) = written_region t start size n ++ written (past_region t start size n) ls

-- ---- the end

-- the number of lines that had no room
abbrev pub spelled_more : Option ℕ → ℕ → List ℕ
spelled_more None rows = []
spelled_more (Some most) rows = cond (nat_lt most rows) (codes ".. and " ++ (decimal (rows - most) ++ codes " more\n")) []

-- the line of a number, unless it is 0
abbrev pub spelled_count : ℕ → List ℕ → List ℕ
spelled_count zero word = []
spelled_count (suc n) word = right 21 (decimal (suc n)) ++ (codes " " ++ (word ++ codes "\n"))

-- the lines of the numbers from place i on, by their words, and that of the sum of all
unfoldable pub spelled_counts : List ℕ → ℕ → ℕ → List (List ℕ) → List ℕ
spelled_counts counts i sum [] = spelled_count sum (codes "in all")
spelled_counts counts i sum (word ∷ words) = spelled_count (get_or counts i 0) word ++ spelled_counts counts (i + 1) (plus sum (get_or counts i 0)) words

abbrev pub node_words : List (List ℕ)
node_words =
    codes "bool" ∷ codes "int" ∷ codes "text" ∷ codes "shared" ∷ codes "option" ∷ codes "list" ∷ codes "ordered" ∷ codes "hashed" ∷ codes "kept" ∷ codes "whole" ∷ []

abbrev pub byte_words : List (List ℕ)
byte_words =
    codes "root" ∷ codes "nodes" ∷ codes "wholes" ∷ codes "elements" ∷ codes "trees" ∷ codes "tables" ∷ codes "entries" ∷ codes "texts" ∷ codes "keys" ∷ codes "shared texts" ∷ codes "unused" ∷ []

abbrev pub spelled_summary : Tally → List ℕ
spelled_summary t = (codes "nodes\n" ++ spelled_counts t.nodes 0 0 node_words) ++ (codes "bytes\n" ++ spelled_counts t.bytes 0 0 byte_words)

-- after the last region of an archive of `len` bytes
abbrev pub spelled_end : Tally → ℕ → List ℕ
spelled_end t len =
    let u = past_gap t len in
    written_gap t len ++ (spelled_more u.lines u.rows ++ (codes "\n" ++ spelled_summary u))

-- before the first
abbrev pub no_tally : Option ℕ → Option ℕ → Tally
no_tally lines characters = record { lines = lines; characters = characters; end = 0; rows = 0; nodes = replicate 10 0; bytes = replicate 11 0 }

-- the map of an archive of `len` bytes that lists these
abbrev pub spelled_map : ℕ → Option ℕ → Option ℕ → List Listed → List ℕ
spelled_map len lines characters listed =
    let t = no_tally lines characters in written t listed ++ spelled_end (tallied t listed) len
