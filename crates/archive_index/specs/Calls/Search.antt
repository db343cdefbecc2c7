-- Searches for the numbers of entries, in the map that bytes have at a position.
use denote.Ref.{Bor}
use Rattle.std.specs.Prelude.{◌≡◌, ℕ, ◌+◌, ◌*◌, ◌^◌, ◌<◌, Bool, List, Option, IfSome}
use Rattle.std.specs.declared.default.Default.{Ghosts as Default}
use Rattle.std.specs.declared.hash.Hasher.{Ghosts as Hasher}
use Rattle.archive_shape_layout.specs.Bytes.{word_at}
use Rattle.archive_shape_layout.specs.Shape.{Shape, size_of}
use Rattle.archive_shape.specs.declared.references.refs.Ref.{Ref}
use Rattle.archive_forms_values.specs.Tuples.{tuple2}
use Rattle.archive_hash_maps.specs.Maps.{KeySays, key_at}
use Rattle.archive_hash_maps.specs.Calls.Keys.{Hashes}
use Rattle.archive_shape.specs.Key.{KeyMembers}
use Rattle.archive_hash.specs.Calls.Members.{HashMembers}
use Rattle.archive_index.specs.Maps.{IndexMap, IsMapAt, count_of, entry_position}
use Rattle.archive_index.specs.Lookups.{AnswersEntry, LooksUpEntry}

-- ---- positions of entries

-- that of the entry whose number is the item at a position of the table, where the entries begin at `start`
abbrev pub named_position : Shape → Shape → List ℕ → (start at : ℕ) → ℕ
named_position k v bytes start at = start + word_at bytes at * size_of (tuple2 k v)

-- that entry ends before position 2^64
abbrev pub FitsNamed : Shape → Shape → List ℕ → (start at : ℕ) → Type 0
FitsNamed k v bytes start at = named_position k v bytes start at + size_of (tuple2 k v) < 2 ^ 64

-- the position is that of the entry with a number
abbrev pub IsPositionOf : Shape → Shape → List ℕ → ℕ → (index found : ℕ) → Type 0
IsPositionOf k v bytes pos index found = (m : IndexMap) → IsMapAt bytes k v pos m → found ≡ entry_position k v m index

-- a call may be made with the position of each entry
abbrev pub MayCallAtEntries : Shape → Shape → (ℕ → Type 0) → List ℕ → ℕ → Type 0
MayCallAtEntries k v pre bytes pos = (m : IndexMap) → IsMapAt bytes k v pos m → (i : ℕ) → i < count_of m → pre (entry_position k v m i)

-- ---- numbers that are found

-- the number is that of an entry
abbrev pub IsNumberIn : Shape → Shape → List ℕ → ℕ → Option ℕ → Type 0
IsNumberIn k v bytes pos found = (m : IndexMap) → IsMapAt bytes k v pos m → IfSome found (λ i. i < count_of m)

-- the entry of a hash that a comparison accepts is searched for; the result has also how many strides were searched
abbrev pub FindsEntry : Shape → Shape → (ℕ → Bool → Type 0) → List ℕ → ℕ → (hash : ℕ) → (result : Option ℕ × ℕ) → Type 0
FindsEntry k v says bytes pos hash result =
    (m : IndexMap) → IsMapAt bytes k v pos m → AnswersEntry bytes k v m says (λ i. i) hash result.0 result.1

-- the entry of a query is looked up, where `says` of a position is what a comparison says of the entry there: `entry` is
-- what is found of the entry with a number
abbrev pub LooksUpQuery : {H Q A : Type 0} → Default H → Hasher H → HashMembers Q → Shape → Shape → (ℕ → Bool → Type 0) → (IndexMap → ℕ → A) → List ℕ → ℕ → Q → Option A → Type 0
LooksUpQuery default hasher hash k v says entry bytes pos query found =
    (m : IndexMap) → IsMapAt bytes k v pos m
    → LooksUpEntry bytes k v m (Hashes default hasher (hash.hash_input query)) says (entry m) found

-- its number is found, by the equality of the keys
abbrev pub SearchesKey : {H Q : Type 0} → KeyMembers Q → Shape → Default H → Hasher H → HashMembers Q → Q → List ℕ → ℕ → Option ℕ → Type 0
SearchesKey k v default hasher hash query bytes pos found =
    LooksUpQuery default hasher hash k.shape v (KeySays k.key_of k.order bytes query) (λ m i. i) bytes pos query found

-- by the caller's comparison, which sees the keys in the bytes
abbrev pub SearchesBy : {H K Q : Type 0} → Shape → Shape → Default H → Hasher H → HashMembers Q → (says : Bor Q → Ref K → Bool → Type 0) → Bor Q → Bor (List ℕ) → ℕ → Option ℕ → Type 0
SearchesBy k v default hasher hash says query bytes pos found =
    LooksUpQuery default hasher hash k v (λ at x. says query (key_at bytes at) x) (λ m i. i) bytes.now pos query.now found
