-- How the own bytes of a field of a tuple or struct are written.
use Rattle.std.specs.Prelude.{◌≡◌, ℕ, ◌+◌, List, Result, MatchResult}
use Rattle.archive_shape_layout.specs.Bytes.{align_up}
use Rattle.archive_shape_layout.specs.Shape.{Shape, size_of, align_of}
use Rattle.archive_shape_layout.specs.Edit.{Spares}
use Rattle.archive_shape.specs.Bytes.{overwrite}
use Rattle.archive_shape_layout.specs.declared.error.Error.{Error}
use Rattle.archive_forms_laws.specs.Spelling.{Spelling}
use Rattle.archive_forms_laws.specs.Serializing.{CanResolve}

-- the offset of a field in its struct, if what is before it ends at an offset
abbrev pub field_at : Shape → ℕ → ℕ
field_at s offset = align_up offset (align_of s)

-- what a call that writes the own bytes of a field requires: room for them at its position
abbrev pub CanResolveField : {A R : Type 0} → Spelling A R → Shape → A → R → (pos start offset : ℕ) → List ℕ → Type 0
CanResolveField w s x r pos start offset old = CanResolve w s x r old (start + field_at s offset) (pos + field_at s offset)

-- the contract of a call that writes the own bytes of a field: the bytes at its position become the field's, and the
-- result is the offset at which it ends; no others change, also where it is refused
abbrev pub ResolvesField : {A R : Type 0} → Spelling A R → Shape → A → R → (pos start offset : ℕ) → List ℕ → List ℕ → Result ℕ Error → Type 0
ResolvesField w s x r pos start offset old new result =
    let from = field_at s offset in
    MatchResult result
    (λ end. (end ≡ from + size_of s) × w.own_fits x r (pos + from) × (new ≡ overwrite old (start + from) (w.own x r (pos + from))))
    (λ e. w.own_refused x r (pos + from) e × Spares old new (start + from) (size_of s))
