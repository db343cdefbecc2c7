-- What the laws of all parts state.
use Rattle.std.specs.Prelude.{true, ◌≡◌, ℕ, List, Vec, length, Option, ⊤}
use Rattle.std.specs.Global.{Global}
use Rattle.std.specs.List.{find}
use Rattle.std.specs.Ordering.{is_eq}
use Rattle.std.specs.declared.default.Default.{Ghosts as Default}
use Rattle.std.specs.declared.hash.Hasher.{Ghosts as Hasher}
use Rattle.archive_shape_layout.specs.Holds.{root_position}
use Rattle.archive_shape_layout.specs.Shape.{Shape}
use Rattle.archive_shape_layout.specs.Shape.Shape.{index_map}
use Rattle.archive_shape_layout.specs.Content.{Names}
use Rattle.archive_shape_canonical.specs.Canonical.{AreBytes}
use Rattle.archive_shape_canonical.specs.Settled.{Fit}
use Rattle.archive_shape.specs.declared.references.refs.Ref.{Ref}
use Rattle.archive_shape.specs.declared.types.portable.Portable.{Ghosts as Portable}
use Rattle.archive_forms_values.specs.Parts.{both}
use Rattle.archive_forms_laws.specs.Fields.{tuple2_spelling, unit_spelling}
use Rattle.archive_forms_laws.specs.Forms.{seen_as}
use Rattle.archive_forms_laws.specs.Regions.{all_suit}
use Rattle.archive_forms_laws.specs.Spelling.{Spelling}
use Rattle.archive_forms_laws.specs.State.{AreOneToOne, Keys}
use Rattle.archive_forms_laws.specs.WrittenAt.{IsReadableAt}
use Rattle.archive_forms_writing.specs.Readable.{FindsReadable}
use Rattle.archive_forms_writing.specs.declared.archive.Archive.{Ghosts as Archive}
use Rattle.archive_forms.specs.Alike.{AreElementsOf, AreEntriesOf}
use Rattle.archive_forms.specs.Calls.Forms.{ReadMembers}
use Rattle.archive_forms.specs.Faithful.{IsFaithful}
use Rattle.archive_hash_maps.specs.Calls.Keys.{Hashes}
use Rattle.archive_hash_maps.specs.Sets.{set_knows}
use Rattle.archive_hash_probing.specs.Inputs.{input_hash}
use Rattle.archive_hash_writing.specs.IndexResolvers.{pairs_spelling}
use Rattle.archive_shape.specs.Key.{KeyMembers}
use Rattle.archive_hash.specs.Calls.Members.{HashMembers}
use Rattle.archive_hash.specs.Owned.{key_entries}
use Rattle.archive_index.specs.Calls.Keys.{GetsValue}
use Rattle.archive_index.specs.Answering.{IsWrittenMap, AnswersInOrder}
use Rattle.archive_index.specs.Owned.{IsWrittenOf}
use Rattle.archive_index.specs.Sets.{unit_shape}
use Rattle.archive_index.specs.declared.owned.OwnedIndexMap.{OwnedIndexMap}
use Rattle.archive_index.specs.declared.owned_set.OwnedIndexSet.{OwnedIndexSet}

-- the archive of an index map answers for the entries that it was written of, in their order
abbrev pub WrittenMapAnswers : {A B R P Q H C : Type 0} → KeyMembers Q → (A → Q) → Portable C → Spelling A R → Spelling B P → HashMembers A → HashMembers Q → Default H → Hasher H → Type 0
WrittenMapAnswers {A} {B} k key v keys vals hash queries default hasher =
    (bytes : List ℕ) (es : List (A × B))
    → IsWrittenMap k.shape v.shape k.knows v.knows keys vals bytes hash.hash_input es
    → AnswersInOrder k.shape v.shape k.knows v.knows keys vals bytes key k.order (λ query. Hashes default hasher (queries.hash_input query)) k.key_of
    (root_position (length bytes) (index_map k.shape v.shape)) es

-- ---- maps and sets that were written anywhere

-- Where they suit some fit, as that which binds nothing, and can be read.
module _ {A R Q H : Type 0} (k : KeyMembers Q) (key : A → Q) (keys : Spelling A R) (queries : HashMembers Q) (default : Default H) (hasher : Hasher H) where
  -- a map answers for its entries, in their order
  abbrev pub MapWrittenAtAnswers : {B C D P T : Type 0} → Portable C → Spelling B P → Archive (OwnedIndexMap A B) D T → Type 0
  MapWrittenAtAnswers {B = B} v vals archived =
      (names : Names) (given : Keys) (fit : Fit) (bytes : List ℕ) (pos : ℕ) (map : OwnedIndexMap A B)
      → both k.knows v.knows names
      → AreBytes bytes
      → archived.spelling.suits fit given map
      → IsReadableAt names given (index_map k.shape v.shape) archived.spelling bytes pos map
      → AnswersInOrder k.shape v.shape k.knows v.knows keys vals bytes key k.order (λ query. Hashes default hasher (queries.hash_input query)) k.key_of
      pos map.pairs.items

  -- a set answers for its keys, as a map of them to `()`
  abbrev pub SetWrittenAtAnswers : {D T : Type 0} → Archive (OwnedIndexSet A) D T → Type 0
  SetWrittenAtAnswers archived =
      (names : Names) (given : Keys) (fit : Fit) (bytes : List ℕ) (pos : ℕ) (set : OwnedIndexSet A)
      → set_knows k.knows names
      → AreBytes bytes
      → archived.spelling.suits fit given set
      → IsReadableAt names given (index_map k.shape unit_shape) archived.spelling bytes pos set
      → AnswersInOrder k.shape unit_shape k.knows (λ _. ⊤) keys unit_spelling bytes key k.order (λ query. Hashes default hasher (queries.hash_input query)) k.key_of
      pos (key_entries set.keys.items)

  -- a look-up in a map returns the value of the first entry with the key, which can be read, and nothing if there is none
  abbrev pub ValuesAreReadable : {B C D P T : Type 0} → Portable C → Spelling B P → Archive (OwnedIndexMap A B) D T → Type 0
  ValuesAreReadable {B = B} {C = C} {D = D} v vals archived =
      (names : Names) (given : Keys) (fit : Fit) (map : OwnedIndexMap A B) (this : Ref D) (query : Q) (found : Option (Ref C))
      → both k.knows v.knows names
      → AreBytes this.bytes.now
      → archived.spelling.suits fit given map
      → IsReadableAt names given (index_map k.shape v.shape) archived.spelling this.bytes.now this.pos map
      → GetsValue k v.shape default hasher queries query this found
      → FindsReadable fit names given v.shape vals (find (λ e. is_eq (k.order (key e.0) query)) map.pairs.items) found

-- ---- whole archives

-- What is written of a value as a whole archive is the archive of an index map of its entries: those of owned pairs are the
-- pairs, and those of owned keys are the keys, each with `()`.
module _ {A B R P K V : Type 0} (k : Portable K) (v : Portable V) (keys : Spelling A R) (vals : Spelling B P) (hash : HashMembers A) where
  -- under a fit that binds and suits it, and names and keys of shared values
  abbrev pub OwnedIsWritten : {M D T : Type 0} → Archive M D T → (M → List (A × B)) → Type 0
  OwnedIsWritten {M = M} archived entries =
      (x : M) (bytes : List ℕ) (fit : Fit) (names : Names) (given : Keys)
      → fit.binds ≡ true
      → archived.spelling.suits fit given x
      → both k.knows v.knows names
      → AreOneToOne given
      → IsWrittenOf (index_map k.shape v.shape) archived.spelling x bytes
      → IsWrittenMap k.shape v.shape k.knows v.knows keys vals bytes hash.hash_input (entries x)

  -- under one of its own, where each fit suits all keys and values, as where these have no tables
  abbrev pub PlainIsWritten : {M D T : Type 0} → Archive M D T → (M → List (A × B)) → Type 0
  PlainIsWritten {M = M} archived entries =
      (x : M) (bytes : List ℕ) (names : Names) (given : Keys)
      → ((fit : Fit) → all_suit (tuple2_spelling k.shape keys v.shape vals) fit given (entries x))
      → both k.knows v.knows names
      → AreOneToOne given
      → IsWrittenOf (index_map k.shape v.shape) archived.spelling x bytes
      → IsWrittenMap k.shape v.shape k.knows v.knows keys vals bytes hash.hash_input (entries x)

-- a map is read back as a list of pairs that is archived as what was read
abbrev pub MapsAreFaithful : {A B R Q : Type 0} → HashMembers A → Shape → Shape → Spelling A R → Spelling B Q → ReadMembers (Vec (A × B) Global) → Type 0
MapsAreFaithful hash k v keys vals form =
    IsFaithful (seen_as (λ xs. xs.items) (pairs_spelling (λ x. input_hash (hash.hash_input x)) k v keys vals)) form.reads

-- a set is read back as a list of keys that is archived as what was read
abbrev pub SetsAreFaithful : {A R : Type 0} → HashMembers A → Shape → Spelling A R → ReadMembers (Vec A Global) → Type 0
SetsAreFaithful hash k keys form =
    IsFaithful (seen_as (λ xs. key_entries xs.items) (pairs_spelling (λ x. input_hash (hash.hash_input x)) k unit_shape keys unit_spelling)) form.reads

-- what pairs are archived as is read back as lists that have the pairs, in order
abbrev pub MapsAreReadBack : {A B R Q : Type 0} → HashMembers A → Shape → Shape → Spelling A R → Spelling B Q → ReadMembers (Vec (A × B) Global) → Type 0
MapsAreReadBack {A = A} {B = B} hash k v keys vals form =
    (es : List (A × B)) (read : Vec (A × B) Global)
    → form.reads ((pairs_spelling (λ x. input_hash (hash.hash_input x)) k v keys vals).plain es) read
    → AreEntriesOf keys vals es read.items

-- what keys are archived as is read back as lists that have the keys, in order
abbrev pub SetsAreReadBack : {A R : Type 0} → HashMembers A → Shape → Spelling A R → ReadMembers (Vec A Global) → Type 0
SetsAreReadBack {A = A} hash k keys form =
    (ks : List A) (read : Vec A Global)
    → form.reads ((pairs_spelling (λ x. input_hash (hash.hash_input x)) k unit_shape keys unit_spelling).plain (key_entries ks)) read
    → AreElementsOf keys ks read.items

-- the same of owned pairs and keys: what they are archived as is read back as those that have the same, in order
abbrev pub OwnedMapsAreReadBack : {A B D R Q P : Type 0} → Archive (OwnedIndexMap A B) D P → ReadMembers (OwnedIndexMap A B) → Spelling A R → Spelling B Q → Type 0
OwnedMapsAreReadBack {A = A} {B = B} archived form keys vals =
    (map read : OwnedIndexMap A B)
    → form.reads (archived.spelling.plain map) read
    → AreEntriesOf keys vals map.pairs.items read.pairs.items

abbrev pub OwnedSetsAreReadBack : {A D R P : Type 0} → Archive (OwnedIndexSet A) D P → ReadMembers (OwnedIndexSet A) → Spelling A R → Type 0
OwnedSetsAreReadBack {A = A} archived form keys =
    (set read : OwnedIndexSet A)
    → form.reads (archived.spelling.plain set) read
    → AreElementsOf keys set.keys.items read.keys.items
