-- Laws of the archives of documents, as statements.
use Rattle.std.specs.Prelude.{◌≡◌, ◌≢◌, ℕ, ◌<◌, ◌^◌, false, pos, List, [], ◌∷◌, ◌++◌, length, Some, ⊤}
use Rattle.archive_shape_layout.specs.Value.{Value}
use Rattle.archive_shape_layout.specs.Content.{Names, Part}
use Rattle.archive_shape_layout.specs.Shape.{Shape}
use Rattle.archive_shape_layout.specs.Shape.Pointee.{sized}
use Rattle.archive_shape_layout.specs.Value.{Values}
use Rattle.archive_shape_layout.specs.Content.Part.{behind}
use Rattle.archive_shape_layout.specs.Holds.{Region, Visit, OpenShared, Holds, HoldAll, HasRoot, root_position}
use Rattle.archive_shape_layout.specs.Holds.Holds.{holds_plain, holds_claimed, holds_first, holds_later, holds_back}
use Rattle.archive_shape_layout.specs.Holds.HoldAll.{holds_none, holds_more}
use Rattle.archive_shape_layout.specs.Edit.{Apart}
use Rattle.archive_shape_canonical.specs.Canonical.{AreBytes}
use Rattle.archive_shape.specs.Bytes.{overwrite}
use Rattle.cabinet_text_grammar.specs.Tree.{Leaf, truth, number, text, IsLeaf}
use Rattle.cabinet_text_grammar.specs.Path.{Step}
use Rattle.cabinet_documents.specs.Node.{node_names, node_shape, own_bytes}
use Rattle.cabinet_text_grammar.specs.Tree.{Tree, leaf}
use Rattle.cabinet_text_grammar.specs.Wholes.{IsDocument}
use Rattle.cabinet_text_grammar.specs.Path.{node_at, enters}
use Rattle.cabinet_text_grammar.specs.Answering.{change}
use Rattle.cabinet_documents.specs.Done.{IsDone}
use Rattle.cabinet_documents.specs.Walk.{Stop, Walks}
use Rattle.cabinet_documents.specs.Audit.{Unsound, AuditFault, faults, first_of, root_part}
use Rattle.cabinet_documents.specs.Accepted.{Accepted}
use Rattle.cabinet_documents.specs.OwnBytes.{OwnBytes, LeadsTo}
use Rattle.cabinet_documents.specs.Denotes.{Denotes}
use Rattle.archive_shape_layout.specs.Path.{put_at}
use Rattle.archive_shape_layout.specs.Value.Value.{boolean, integer, string}
use Rattle.cabinet_documents.specs.Image.{Image}

-- two walks of a part have the same value and the same stops
pub record AgreeOnWalk (v w : Value) (xs ys : List Stop) : Type 0 where
  pub value : v ≡ w
  pub walk : xs ≡ ys

-- a part has at most one value and one walk
abbrev pub OneWalk : Type 0
OneWalk =
    (names : Names) (bytes : List ℕ) (depth : ℕ) (p : Part) (v w : Value) (xs ys : List Stop)
    → Walks names bytes depth p v xs
    → Walks names bytes depth p w ys
    → AgreeOnWalk v w xs ys

-- a part has a walk
pub record HasWalk (names : Names) (bytes : List ℕ) (depth : ℕ) (p : Part) (v : Value) : Type 0 where
  pub walk : List Stop
  pub walked : Walks names bytes depth p v walk

abbrev mutual
  -- no shared position lies inside itself
  pub IsAcyclic : {names : Names} {bytes : List ℕ} {level : ℕ} {inside : List OpenShared} {p : Part} {v : Value} {regions : List Region} {before after : List Visit}
      → Holds names bytes level inside p v regions before after → Type 0
  IsAcyclic (holds_plain e legal all m) = AreAcyclic all
  IsAcyclic (holds_claimed e legal all m r) = AreAcyclic all
  IsAcyclic (holds_first e a b h d g) = IsAcyclic h
  IsAcyclic (holds_later e a b d g h) = ⊤
  IsAcyclic (holds_back e a d g h) = ⊥

  pub AreAcyclic : {names : Names} {bytes : List ℕ} {level : ℕ} {inside : List OpenShared} {ps : List Part} {vs : Values} {regions : List Region} {before after : List Visit}
      → HoldAll names bytes level inside ps vs regions before after → Type 0
  AreAcyclic (holds_none e f g) = ⊤
  AreAcyclic (holds_more h hs e r) = IsAcyclic h × AreAcyclic hs

-- the value at a root has a walk, inside any number of containers, where no shared position lies inside itself
abbrev pub WalkStands : Type 0
WalkStands =
    (names : Names) (bytes : List ℕ) (depth pos : ℕ) (s : Shape) (v : Value) (regions : List Region) (visits : List Visit)
    → (h : HasRoot names bytes pos s v regions visits)
    → IsAcyclic h.holds
    → HasWalk names bytes depth (behind pos (sized s) 1) v

-- accepted bytes denote one document
abbrev pub OneDocument : Type 0
OneDocument = (bytes : List ℕ) (s t : Tree) → Accepted bytes s → Accepted bytes t → s ≡ t

-- bytes have at most one first fault of the audit
abbrev pub OneAuditFault : Type 0
OneAuditFault = (bytes : List ℕ) (u w : Unsound) → AuditFault bytes u → AuditFault bytes w → u ≡ w

-- bytes with a fault of the audit are accepted as no document
abbrev pub RefusedIsNotAccepted : Type 0
RefusedIsNotAccepted = (bytes : List ℕ) (u : Unsound) (t : Tree) → AuditFault bytes u → Accepted bytes t → ⊥

-- the bytes are accepted as some document
pub record IsAccepted (bytes : List ℕ) : Type 0 where
  pub tree : Tree
  pub accepted : Accepted bytes tree

-- bytes that are counted in 64 bits, at whose root a node holds, with a walk in which the audit finds no fault, are the
-- archive of a document
abbrev pub AcceptedStands : Type 0
AcceptedStands =
    (bytes : List ℕ) (v : Value) (regions : List Region) (visits : List Visit) (walk : List Stop)
    → AreBytes bytes
    → length bytes < 2 ^ 64
    → HasRoot node_names bytes (root_position (length bytes) node_shape) node_shape v regions visits
    → Walks node_names bytes 0 (root_part bytes) v walk
    → faults bytes walk ≡ []
    → IsAccepted bytes

-- the walk of a root's value, and what it decides: without a fault the bytes are accepted as a document, and otherwise
-- its first fault is theirs
pub record AuditDecided (bytes : List ℕ) (v : Value) : Type 0 where
  pub walk : List Stop
  pub walked : Walks node_names bytes 0 (root_part bytes) v walk
  pub accepted : faults bytes walk ≡ [] → IsAccepted bytes
  pub refused : (u : Unsound) → first_of (faults bytes walk) ≡ Some u → AuditFault bytes u

abbrev pub AuditDecides : Type 0
AuditDecides =
    (bytes : List ℕ) (v : Value) (regions : List Region) (visits : List Visit)
    → AreBytes bytes
    → length bytes < 2 ^ 64
    → HasRoot node_names bytes (root_position (length bytes) node_shape) node_shape v regions visits
    → AuditDecided bytes v

-- ---- edits

abbrev pub payload_of : Leaf → Value
payload_of (truth b) = boolean b
payload_of (number n) = integer n
payload_of (text s) = string s

-- a leaf put in a node's value, at a path through options, lists and maps, is that leaf put in the document
abbrev pub LeafPut : Type 0
LeafPut =
    (v w : Value) (t : Tree) (path : List Step) (inner : List ℕ) (new : Leaf)
    → LeadsTo v path inner w
    → IsDocument t
    → Denotes v t
    → IsDone t path new
    → Denotes (put_at (inner ++ 0 ∷ []) (payload_of new) v) (change t path new)

-- the leaf at a path that leads into no whole has own bytes
pub record OwnBytesStand (bytes : List ℕ) (root : Value) (path : List Step) (size : ℕ) : Type 0 where
  pub start : ℕ
  pub own : OwnBytes bytes root path start size

abbrev pub LeavesStand : Type 0
LeavesStand =
    (bytes : List ℕ) (t : Tree) (path : List Step) (l : Leaf)
    → (a : Accepted bytes t)
    → node_at t path ≡ Some (leaf l)
    → enters t path ≡ false
    → OwnBytesStand bytes a.value path (length (own_bytes l))

-- where an edit may be done, writing its leaf over the own bytes of the old one leaves an archive of the document with
-- the edit
abbrev pub EditKeepsAccepted : Type 0
EditKeepsAccepted =
    (bytes : List ℕ) (t : Tree) (path : List Step) (new : Leaf) (start : ℕ)
    → (a : Accepted bytes t)
    → IsLeaf new
    → IsDone t path new
    → OwnBytes bytes a.value path start (length (own_bytes new))
    → Accepted (overwrite bytes start (own_bytes new)) (change t path new)

-- if the bytes were an image, the result is the image of the document with the edit
abbrev pub EditKeepsImage : Type 0
EditKeepsImage =
    (bytes : List ℕ) (t : Tree) (path : List Step) (new : Leaf) (start : ℕ)
    → (i : Image t bytes)
    → IsLeaf new
    → IsDone t path new
    → OwnBytes bytes i.accepted.value path start (length (own_bytes new))
    → Image (change t path new) (overwrite bytes start (own_bytes new))

-- the own bytes of two leaves at different paths do not overlap
abbrev pub OwnBytesApart : Type 0
OwnBytesApart =
    (bytes : List ℕ) (t : Tree) (path other : List Step) (start size from len : ℕ)
    → (a : Accepted bytes t)
    → OwnBytes bytes a.value path start size
    → OwnBytes bytes a.value other from len
    → path ≢ other
    → Apart start size from len

-- two edits at different paths may be done in either order
pub record EitherOrder (bytes : List ℕ) (t : Tree) (path other : List Step) (l m : Leaf) (start from : ℕ) : Type 0 where
  pub same_bytes :
      overwrite (overwrite bytes start (own_bytes l)) from (own_bytes m) ≡ overwrite (overwrite bytes from (own_bytes m)) start (own_bytes l)
  pub same_document : change (change t path l) other m ≡ change (change t other m) path l
  -- each edit is also done after the other
  pub first : IsDone (change t other m) path l
  pub second : IsDone (change t path l) other m

abbrev pub EditsInEitherOrder : Type 0
EditsInEitherOrder =
    (bytes : List ℕ) (t : Tree) (path other : List Step) (l m : Leaf) (start from : ℕ)
    → (a : Accepted bytes t)
    → IsLeaf l
    → IsLeaf m
    → IsDone t path l
    → IsDone t other m
    → OwnBytes bytes a.value path start (length (own_bytes l))
    → OwnBytes bytes a.value other from (length (own_bytes m))
    → path ≢ other
    → EitherOrder bytes t path other l m start from

-- ---- an example

abbrev pub bytes_five : List ℕ
bytes_five = 1 ∷ 0 ∷ 0 ∷ 0 ∷ 0 ∷ 0 ∷ 0 ∷ 0 ∷ 5 ∷ 0 ∷ 0 ∷ 0 ∷ 0 ∷ 0 ∷ 0 ∷ 0 ∷ 0 ∷ 0 ∷ 0 ∷ 0 ∷ 0 ∷ 0 ∷ 0 ∷ 0 ∷ []

-- these bytes are the archive of the number five
abbrev pub FiveIsAccepted : Type 0
FiveIsAccepted = Accepted bytes_five (leaf (number (pos 5)))
