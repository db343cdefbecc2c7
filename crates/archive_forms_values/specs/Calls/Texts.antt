-- What calls that read texts ensure, and calls that write a text of as many bytes over one; `this` is the text.
use Rattle.std.specs.Prelude.{◌≡◌, ℕ, ◌↔◌, Bool, List, length, slice_index, IsTrue, Result, MatchResult}
use Rattle.archive_shape_layout.specs.Bytes.{window}
use Rattle.archive_shape_layout.specs.Content.{IsInline}
use Rattle.archive_shape.specs.Bytes.{overwrite}
use Rattle.archive_shape.specs.declared.references.refs.Ref.{Ref}
use Rattle.archive_shape.specs.declared.references.seal.Seal.{Seal}
use Rattle.archive_shape.specs.declared.references.own_seal.OwnSeal.{OwnSeal}
use Rattle.archive_shape_layout.specs.declared.error.Error.{Error}
use Rattle.archive_shape_layout.specs.declared.error.Error.TheVariants.{InvalidSubtreePointer}
use Rattle.archive_forms_laws.specs.Text.{IsText}
use Rattle.archive_forms_values.specs.Boxes.{IsBoxedStrAt}

-- the box of a text leads to this text
abbrev pub ReadsBoxedStr : {T : Type 0} → Ref T → List ℕ → Type 0
ReadsBoxedStr this t = (to len : ℕ) × IsBoxedStrAt this.bytes.now this.pos to len × (t ≡ window this.bytes.now to len)

-- whether the text has no bytes
abbrev pub TellsEmptyText : {T : Type 0} → Ref T → Bool → Type 0
TellsEmptyText this result = (t : List ℕ) × IsText this.bytes.now this.pos t × (IsTrue result ↔ (length t ≡ 0))

-- a text is written where the present one has its bytes, as `leads` says
abbrev pub WritesText : {T : Type 0} → (List ℕ → ℕ → (start len : ℕ) → Type 0) → Seal T → List ℕ → List ℕ → Type 0
WritesText leads this t new = (start : ℕ) × leads this.bytes.now this.pos start (length t) × (new ≡ overwrite this.bytes.now start t)

-- a text is written over one that is inline; the bytes of one out of line are not accessible, and nothing is written
abbrev pub PutsText : {T : Type 0} → OwnSeal T → List ℕ → Result (Unit {0}) Error → OwnSeal T → Type 0
PutsText old t result new =
    MatchResult result
    (λ _. IsInline (slice_index old.own.now 0) × (new.own.now ≡ overwrite old.own.now 0 t))
    (λ e. (e ≡ InvalidSubtreePointer (length t)) × ((IsInline (slice_index old.own.now 0) → ⊥) × (new.own.now ≡ old.own.now)))
