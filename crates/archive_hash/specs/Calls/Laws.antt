-- What the laws of all parts state.
use Rattle.std.specs.Prelude.{◌≡◌, ℕ, Bool, List, length, Option, Some, None, ⊤}
use Rattle.std.specs.HashMap.{HashMap, IsUnique, IsReordered, get}
use Rattle.std.specs.HashSet as bag
use Rattle.std.specs.HashSet.{HashSet, contains}
use Rattle.std.specs.List.{AllZip, find}
use Rattle.std.specs.List.Sorted.{IsPermutation}
use Rattle.std.specs.Ordering.{is_eq}
use Rattle.std.specs.declared.default.Default.{Ghosts as Default}
use Rattle.std.specs.declared.hash.Hasher.{Ghosts as Hasher}
use Rattle.archive_shape_layout.specs.Content.{Names}
use Rattle.archive_shape_layout.specs.Holds.{root_position}
use Rattle.archive_shape_layout.specs.Shape.Shape.{table, tuple}
use Rattle.archive_shape_layout.specs.Shape.Shapes.{no_shapes}
use Rattle.archive_shape_canonical.specs.Canonical.{AreBytes}
use Rattle.archive_shape_canonical.specs.Settled.{free}
use Rattle.archive_shape.specs.declared.references.refs.Ref.{Ref}
use Rattle.archive_shape.specs.declared.types.portable.Portable.{Ghosts as Portable}
use Rattle.archive_forms_laws.specs.Fields.{unit_spelling}
use Rattle.archive_forms_laws.specs.Spelling.{Spelling}
use Rattle.archive_forms_laws.specs.State.{Keys}
use Rattle.archive_forms_laws.specs.WrittenAt.{IsReadableAt}
use Rattle.archive_forms_values.specs.Parts.{both}
use Rattle.archive_forms_values.specs.Tuples.{tuple2}
use Rattle.archive_forms_writing.specs.Readable.{FindsReadable}
use Rattle.archive_forms_writing.specs.declared.archive.Archive.{Ghosts as Archive}
use Rattle.archive_forms.specs.Alike.{AreAlike, AlikeAreOne, AreAlikeEntries}
use Rattle.archive_forms.specs.Calls.Forms.{ReadMembers}
use Rattle.archive_hash_maps.specs.Calls.Keys.{Hashes, GetsValue}
use Rattle.archive_hash_maps.specs.Sets.{set_knows}
use Rattle.archive_hash.specs.Answering.{IsWrittenMap, AnswersKeys}
use Rattle.archive_shape.specs.Key.{KeyMembers}
use Rattle.archive_hash.specs.Calls.Members.{HashMembers}
use Rattle.archive_hash.specs.Owned.{key_entries}
use Rattle.archive_hash.specs.declared.map.OwnedHashMap.{OwnedHashMap}
use Rattle.archive_hash.specs.declared.set.OwnedHashSet.{OwnedHashSet}

-- the archive of a map answers for the entries that it was written of, whose keys are seen as queries
abbrev pub WrittenMapAnswers : {A B R P Q H C : Type 0} → KeyMembers Q → (A → Q) → Portable C → Spelling A R → Spelling B P → HashMembers A → HashMembers Q → Default H → Hasher H → Type 0
WrittenMapAnswers {A} {B} k key v keys vals hash queries default hasher =
    (bytes : List ℕ) (es : List (A × B))
    → IsWrittenMap k.shape v.shape k.knows v.knows keys vals bytes hash.hash_input es
    → AnswersKeys k.shape v.shape k.knows v.knows keys vals bytes key k.order (λ query. Hashes default hasher (queries.hash_input query)) k.key_of
    (root_position (length bytes) (table (tuple2 k.shape v.shape))) es

-- ---- maps and sets that were written anywhere

-- Where they suit the fit that binds nothing and can be read.
module _ {A R Q H : Type 0} (k : KeyMembers Q) (key : A → Q) (keys : Spelling A R) (queries : HashMembers Q) (default : Default H) (hasher : Hasher H) where
  -- a map answers for its entries
  abbrev pub MapWrittenAtAnswers : {B C D P T : Type 0} → Portable C → Spelling B P → Archive (OwnedHashMap A B) D T → Type 0
  MapWrittenAtAnswers {B} v vals archived =
      (names : Names) (given : Keys) (bytes : List ℕ) (pos : ℕ) (map : OwnedHashMap A B)
      → both k.knows v.knows names
      → AreBytes bytes
      → archived.spelling.suits free given map
      → IsReadableAt names given (table (tuple2 k.shape v.shape)) archived.spelling bytes pos map
      → AnswersKeys k.shape v.shape k.knows v.knows keys vals bytes key k.order (λ query. Hashes default hasher (queries.hash_input query)) k.key_of
      pos map.map.entries

  -- a set answers for its keys, as a map of them to `()`
  abbrev pub SetWrittenAtAnswers : {D T : Type 0} → Archive (OwnedHashSet A) D T → Type 0
  SetWrittenAtAnswers archived =
      (names : Names) (given : Keys) (bytes : List ℕ) (pos : ℕ) (set : OwnedHashSet A)
      → set_knows k.knows names
      → AreBytes bytes
      → archived.spelling.suits free given set
      → IsReadableAt names given (table (tuple2 k.shape (tuple no_shapes))) archived.spelling bytes pos set
      → AnswersKeys k.shape (tuple no_shapes) k.knows (λ _. ⊤) keys unit_spelling bytes key k.order (λ query. Hashes default hasher (queries.hash_input query)) k.key_of
      pos (key_entries set.set.keys)

  -- a look-up in a map returns the value of the first entry with the key, which can be read, and nothing if there is none
  abbrev pub ValuesAreReadable : {B C D P T : Type 0} → Portable C → Spelling B P → Archive (OwnedHashMap A B) D T → Type 0
  ValuesAreReadable {B = B} {C = C} {D = D} v vals archived =
      (names : Names) (given : Keys) (map : OwnedHashMap A B) (this : Ref D) (query : Q) (found : Option (Ref C))
      → both k.knows v.knows names
      → AreBytes this.bytes.now
      → archived.spelling.suits free given map
      → IsReadableAt names given (table (tuple2 k.shape v.shape)) archived.spelling this.bytes.now this.pos map
      → GetsValue default hasher queries.hash_input k.key_of k.order k.shape v.shape this query found
      → FindsReadable free names given v.shape vals (find (λ e. is_eq (k.order (key e.0) query)) map.map.entries) found

-- ---- what is read back of the values of maps and sets

-- two look-ups find nothing, or values that are archived alike
abbrev pub AnswerAlike : {B Q : Type 0} → Spelling B Q → Option B → Option B → Type 0
AnswerAlike vals None None = ⊤
AnswerAlike vals (Some x) (Some y) = AreAlike vals x y
AnswerAlike vals _ _ = ⊥

-- the second map has the entries of the first one in some order: each has a key and a value that are archived as those of
-- the one in its place; look-ups of a key answer alike. Where values that are archived alike are one, the entries are
-- those of the first map.
pub record HasEntriesOf {A B S R Q : Type 0} (eq : A → A → Bool) (keys : Spelling A R) (vals : Spelling B Q) (m read : HashMap A B S) : Type 0 where
  pub moved : List (A × B)
  pub permuted : IsPermutation m.entries moved
  pub alike : AllZip (AreAlikeEntries keys vals) moved read.entries
  pub answers : (q : A) → AnswerAlike vals (get eq m q) (get eq read q)
  pub one : AlikeAreOne keys → AlikeAreOne vals → IsReordered eq m read

-- likewise the second set
pub record HasElementsOf {A S R : Type 0} (eq : A → A → Bool) (keys : Spelling A R) (s read : HashSet A S) : Type 0 where
  pub moved : List A
  pub permuted : IsPermutation s.keys moved
  pub alike : AllZip (AreAlike keys) moved read.keys
  pub answers : (q : A) → contains eq read q ≡ contains eq s q
  pub one : AlikeAreOne keys → bag.IsReordered eq s read

-- what a map whose keys differ is archived as is read back as maps that have its entries
abbrev pub MapsAreReadBack : {A B S M D R P Q : Type 0} → Archive M D P → ReadMembers M → (M → HashMap A B S) → (A → A → Bool) → Spelling A R → Spelling B Q → Type 0
MapsAreReadBack {M = M} archived form map_of eq keys vals =
    (m read : M)
    → IsUnique eq (map_of m)
    → form.reads (archived.spelling.plain m) read
    → HasEntriesOf eq keys vals (map_of m) (map_of read)

-- likewise of a set
abbrev pub SetsAreReadBack : {A S M D R P : Type 0} → Archive M D P → ReadMembers M → (M → HashSet A S) → (A → A → Bool) → Spelling A R → Type 0
SetsAreReadBack {M = M} archived form set_of eq keys =
    (s read : M)
    → bag.IsUnique eq (set_of s)
    → form.reads (archived.spelling.plain s) read
    → HasElementsOf eq keys (set_of s) (set_of read)
