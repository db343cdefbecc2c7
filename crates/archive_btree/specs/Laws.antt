-- What look-ups return of written maps, and what is read back of the values of maps and sets, as statements.
use Rattle.std.specs.Prelude.{◌≡◌, ℕ, ◌<◌, false, List, Option}
use Rattle.std.specs.List.{AllZip, find}
use Rattle.std.specs.List.Sorted.{IsStrictlySortedBy}
use Rattle.std.specs.Map.{keys_of}
use Rattle.std.specs.Ordering.{is_eq}
use Rattle.std.specs.declared.cmp.Ordering.{Ordering}
use Rattle.std.specs.declared.ops.RangeBounds as bounds
use Rattle.archive_shape_layout.specs.Content.{Names}
use Rattle.archive_shape_layout.specs.Shape.Shape.{tree}
use Rattle.archive_shape_layout.specs.Visited.{AllStand}
use Rattle.archive_shape_canonical.specs.Canonical.{AreBytes}
use Rattle.archive_shape_canonical.specs.Settled.{Fit}
use Rattle.archive_shape.specs.declared.references.refs.Ref.{Ref}
use Rattle.archive_shape.specs.declared.types.portable.Portable.{Ghosts as Portable}
use Rattle.archive_forms_laws.specs.State.{Keys, visits_of}
use Rattle.archive_forms_laws.specs.Spelling.{Spelling}
use Rattle.archive_forms_laws.specs.Unshared.{holds_shared}
use Rattle.archive_forms_laws.specs.WrittenAt.{IsWrittenAt, IsReadableAt}
use Rattle.archive_forms_values.specs.Parts.{both}
use Rattle.archive_forms_writing.specs.Readable.{FindsReadable}
use Rattle.archive_forms_writing.specs.declared.archive.Archive.{Ghosts}
use Rattle.archive_forms.specs.Alike.{AreElementsOf, AreEntriesOf}
use Rattle.archive_forms.specs.Calls.Forms.{ReadMembers}
use Rattle.archive_btree_maps.specs.Calls.Lookups.{LooksUpValue}
use Rattle.archive_btree_maps.specs.Calls.Ranges.{RangesOver}
use Rattle.archive_btree.specs.Answering.{AnswersKeys}
use Rattle.archive_shape.specs.Key.{KeyMembers}
use Rattle.archive_btree.specs.Ranges.{entries_in, IsOfEntry}

-- ---- look-ups

module _ {A B C D M P Q R T : Type 0} (most : ℕ) (k : KeyMembers Q) (key : A → Q) (keys : Spelling A R) (v : Portable C) (vals : Spelling B P) (archived : Ghosts M D T) (entries : M → List (A × B)) (m : M) where
  -- where a value was written that is archived as entries and suits some fit, and the shared values that were written
  -- before it have their values, the map there answers the entries' keys
  abbrev pub AnswersWhereWritten : Type 0
  AnswersWhereWritten =
      (bytes : List ℕ) (pos : ℕ) (names : Names) (given : Keys) (fit : Fit)
      → 0 < most
      → AreBytes bytes
      → both k.knows v.knows names
      → archived.spelling.suits fit given m
      → (written : IsWrittenAt given archived.spelling bytes pos m)
      → AllStand names bytes written.state.pos (visits_of written.state.met)
      → AnswersKeys most k.shape v.shape k.knows v.knows keys vals bytes key k.order k.key_of pos (entries m)

  -- so it does where no key and no value holds a shared pointer
  abbrev pub AnswersUnshared : Type 0
  AnswersUnshared =
      (bytes : List ℕ) (pos : ℕ) (names : Names) (given : Keys)
      → 0 < most
      → AreBytes bytes
      → both k.knows v.knows names
      → holds_shared (tree most k.shape v.shape) ≡ false
      → IsWrittenAt given archived.spelling bytes pos m
      → AnswersKeys most k.shape v.shape k.knows v.knows keys vals bytes key k.order k.key_of pos (entries m)

-- a look-up in a written map, which suits some fit and can be read, returns the value of the entry with the key, which can
-- be read, and nothing if there is none
abbrev pub ValuesAreReadable : {A B C D M P Q T : Type 0} (most : ℕ) → KeyMembers Q → (A → Q) → Portable C → Spelling B P → Ghosts M D T → (M → List (A × B)) → M → Type 0
ValuesAreReadable {C = C} {D = D} {Q = Q} most k key v vals archived entries map =
    (names : Names) (given : Keys) (fit : Fit) (this : Ref D) (query : Q) (found : Option (Ref C))
    → 0 < most
    → both k.knows v.knows names
    → AreBytes this.bytes.now
    → archived.spelling.suits fit given map
    → IsReadableAt names given (tree most k.shape v.shape) archived.spelling this.bytes.now this.pos map
    → LooksUpValue most k.shape v.shape k.key_of k.order this query found
    → FindsReadable fit names given v.shape vals (find (λ e. is_eq (k.order (key e.0) query)) (entries map)) found

-- of entries whose keys ascend, and at whose keys the map at a position answers, a range returns those whose keys lie
-- between its bounds, in order
abbrev pub RangesAreOfEntries : {A B C D H P Q R S : Type 0} (most : ℕ) → Portable H → KeyMembers Q → (A → Q) → Spelling A R → Portable C → Spelling B P → bounds.Ghosts S Q → Ref D → Type 0
RangesAreOfEntries {A = A} {B = B} {C = C} {H = H} {S = S} most p k key keys v vals r this =
    (range : S) (es : List (A × B)) (result : List (Ref H × Ref C))
    → AreBytes this.bytes.now
    → r.has_bounds range
    → AnswersKeys most p.shape v.shape p.knows v.knows keys vals this.bytes.now key k.order k.key_of this.pos es
    → RangesOver most p.shape v.shape k.key_of k.order r this range result
    → AllZip (IsOfEntry most p.shape v.shape p.knows v.knows keys vals this) result (entries_in r range key k.order es)

-- ---- what is read back

-- what a map whose keys ascend is archived as is read back as maps that have its entries, in order
abbrev pub MapsAreReadBack : {A B M D R P Q : Type 0} → Ghosts M D P → ReadMembers M → (M → List (A × B)) → (A → A → Ordering) → Spelling A R → Spelling B Q → Type 0
MapsAreReadBack {M = M} archived form entries cmp keys vals =
    (m read : M)
    → IsStrictlySortedBy cmp (keys_of (entries m))
    → form.reads (archived.spelling.plain m) read
    → AreEntriesOf keys vals (entries m) (entries read)

-- likewise of a set and its elements
abbrev pub SetsAreReadBack : {A M D R P : Type 0} → Ghosts M D P → ReadMembers M → (M → List A) → (A → A → Ordering) → Spelling A R → Type 0
SetsAreReadBack {M = M} archived form elements cmp keys =
    (s read : M)
    → IsStrictlySortedBy cmp (elements s)
    → form.reads (archived.spelling.plain s) read
    → AreElementsOf keys (elements s) (elements read)
