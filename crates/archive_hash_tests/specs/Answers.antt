-- What look-ups in archived index maps return, by the pairs that these were written of.
use Rattle.std.specs.Prelude.{◌≡◌, ℕ, List, [], Option, String}
use Rattle.std.specs.Cmp.Lexicographic.{slice_cmp}
use Rattle.std.specs.Global.{Global}
use Rattle.std.specs.List.{find, position}
use Rattle.std.specs.Option.{option_and_then, option_map}
use Rattle.std.specs.Ordering.{is_eq, nat_cmp}
use Rattle.std.specs.String.{string_bytes}
use Rattle.std.specs.declared.default.Default.{Ghosts as Default}
use Rattle.std.specs.declared.hash.Hasher.{Ghosts as Hasher}
use Rattle.archive_shape_layout.specs.Shape.{Shape}
use Rattle.archive_shape.specs.declared.types.portable.Portable.{Ghosts as Portable}
use Rattle.archive_forms_laws.specs.Spelling.{Spelling}
use Rattle.archive_forms_laws.specs.State.{Keys}
use Rattle.archive_forms_laws.specs.WrittenAt.{IsReadableAt}
use Rattle.archive_forms_writing.specs.declared.archive.Archive.{Ghosts as Archive}
use Rattle.archive_hash_maps.specs.Calls.Keys.{Hashes}
use Rattle.archive_shape.specs.Key.{KeyMembers}
use Rattle.archive_hash.specs.Calls.Members.{HashMembers}
use Rattle.archive_index.specs.Answering.{AnswersInOrder}
use Rattle.archive_index.specs.declared.owned.OwnedIndexMap.{OwnedIndexMap}

-- the number of the first pair with a text
abbrev pub number_with : (text : List ℕ) → List (String Global × ℕ) → Option ℕ
number_with text es = position (λ e. is_eq (slice_cmp nat_cmp (string_bytes e.0) text)) es

-- and its value
abbrev pub value_with : (text : List ℕ) → List (String Global × ℕ) → Option ℕ
value_with text es = option_map (λ e. e.1) (find (λ e. is_eq (slice_cmp nat_cmp (string_bytes e.0) text)) es)

-- a look-up in the map at a position returns the number of the first entry with a key, where the map answers for entries
abbrev pub ReturnsNumber : {A B R P Q H C : Type 0} → KeyMembers Q → (A → Q) → Portable C → Spelling A R → Spelling B P → HashMembers Q → Default H → Hasher H
    → (bytes : List ℕ) (pos : ℕ) (query : Q) (result : Option ℕ) → Type 0
ReturnsNumber {A = A} {B = B} k key v keys vals queries default hasher bytes pos query result =
    (es : List (A × B))
    → AnswersInOrder k.shape v.shape k.knows v.knows keys vals bytes key k.order (λ q. Hashes default hasher (queries.hash_input q)) k.key_of pos es
    → result ≡ position (λ e. is_eq (k.order (key e.0) query)) es

-- a look-up in a map of texts returns the value of the first pair with a text, where the map was written and can be read
abbrev pub ReturnsValue : {D T : Type 0} → Shape → Archive (OwnedIndexMap (String Global) ℕ) D T → (bytes : List ℕ) (pos : ℕ) (text : List ℕ) (result : Option ℕ) → Type 0
ReturnsValue s archived bytes pos text result =
    (given : Keys) (map : OwnedIndexMap (String Global) ℕ)
    → IsReadableAt [] given s archived.spelling bytes pos map
    → result ≡ value_with text map.pairs.items

-- ---- maps of such maps

abbrev pub Nested : Type 0
Nested = OwnedIndexMap (String Global) (OwnedIndexMap (String Global) ℕ)

-- the value of the first pair with a text, in the map of the first pair with another
abbrev pub value_among : (outer inner : List ℕ) → Nested → Option ℕ
value_among outer inner maps =
    option_and_then (λ e. value_with inner e.1.pairs.items) (find (λ e. is_eq (slice_cmp nat_cmp (string_bytes e.0) outer)) maps.pairs.items)

-- look-ups return it where the maps were written and can be read
abbrev pub ReturnsAmong : {D T : Type 0} → Shape → Archive Nested D T → (bytes : List ℕ) (pos : ℕ) (outer inner : List ℕ) (result : Option ℕ) → Type 0
ReturnsAmong s archived bytes pos outer inner result =
    (given : Keys) (maps : Nested) → IsReadableAt [] given s archived.spelling bytes pos maps → result ≡ value_among outer inner maps
