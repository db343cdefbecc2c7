-- The kind of a node, and the position of its payload.
use Rattle.std.specs.Prelude.{◌≡◌, ℕ, ◌+◌, true, false, List, ⊤}
use Rattle.std.specs.Int.{w64}
use Rattle.std.specs.Borrow.{Bor}
use Rattle.archive_shape_layout.specs.Shape.{Shape}
use Rattle.archive_shape_layout.specs.Shape.Shape.{number, truth, text, shared, option, box, vector, tree, table, index_map}
use Rattle.archive_shape_layout.specs.Shape.Pointee.{sized, str}
use Rattle.archive_shape_layout.specs.Value.{Value}
use Rattle.archive_shape_layout.specs.Content.{Names}
use Rattle.archive_shape.specs.Key.{HeldAt}
use Rattle.archive_forms_values.specs.Parts.{HasValue, HasPayload, both}
use Rattle.cabinet_documents.specs.Node.{node_shape, pair_shape, whole_shape, KnowsNode}
use Rattle.cabinet_archived.specs.declared.kind.ArchivedKind.{ArchivedKind}
use Rattle.cabinet_archived.specs.declared.kind.ArchivedKind.TheVariants as kind

-- the node at `pos` has the tag `tag`, and its payload, of the shape `s`, is at `to`
pub record IsTagged (bytes : List ℕ) (pos tag : ℕ) (s : Shape) (knows : Names → Type 0) (to : ℕ) : Type 0 where
  pub there : HasValue s knows bytes to
  pub payload : (v : Value) → HeldAt node_shape KnowsNode bytes pos v → HasPayload tag s knows bytes to v

-- by the kind: the reference is to the same bytes, at the payload's position
abbrev pub IsKindAt : Bor (List ℕ) → ℕ → ArchivedKind → Type 0
IsKindAt bytes pos (kind.Bool r) = (r.bytes ≡ bytes) × (r.pos ≡ pos + 1) × IsTagged bytes.now pos 0 truth (λ _. ⊤) r.pos
IsKindAt bytes pos (kind.Int r) = (r.bytes ≡ bytes) × (r.pos ≡ pos + 8) × IsTagged bytes.now pos 1 (number w64 true) (λ _. ⊤) r.pos
IsKindAt bytes pos (kind.Text r) = (r.bytes ≡ bytes) × (r.pos ≡ pos + 4) × IsTagged bytes.now pos 2 text (λ _. ⊤) r.pos
IsKindAt bytes pos (kind.Shared r) = (r.bytes ≡ bytes) × (r.pos ≡ pos + 4) × IsTagged bytes.now pos 3 (shared false str) (λ _. ⊤) r.pos
IsKindAt bytes pos (kind.Maybe r) = (r.bytes ≡ bytes) × (r.pos ≡ pos + 4) × IsTagged bytes.now pos 4 (option (box (sized node_shape))) KnowsNode r.pos
IsKindAt bytes pos (kind.List r) = (r.bytes ≡ bytes) × (r.pos ≡ pos + 4) × IsTagged bytes.now pos 5 (vector node_shape) KnowsNode r.pos
IsKindAt bytes pos (kind.Ordered r) = (r.bytes ≡ bytes) × (r.pos ≡ pos + 4) × IsTagged bytes.now pos 6 (tree 5 text node_shape) (both (λ _. ⊤) KnowsNode) r.pos
IsKindAt bytes pos (kind.Hashed r) = (r.bytes ≡ bytes) × (r.pos ≡ pos + 4) × IsTagged bytes.now pos 7 (table pair_shape) (both (λ _. ⊤) KnowsNode) r.pos
IsKindAt bytes pos (kind.Kept r) = (r.bytes ≡ bytes) × (r.pos ≡ pos + 4) × IsTagged bytes.now pos 8 (index_map text node_shape) (both (λ _. ⊤) KnowsNode) r.pos
IsKindAt bytes pos (kind.Whole r) = (r.bytes ≡ bytes) × (r.pos ≡ pos + 4) × IsTagged bytes.now pos 9 whole_shape KnowsNode r.pos
