-- The keys and values at places of a buffer.
use denote.Ref.{Bor}
use Rattle.std.specs.Prelude.{ℕ, List}
use Rattle.archive_shape.specs.declared.references.refs.Ref.{Ref}
use Rattle.archive_shape_layout.specs.Shape.{Shape}
use Rattle.archive_shape_layout.specs.Content.{Names}
use Rattle.archive_btree_layout.specs.Reading.{Place}
use Rattle.archive_forms_values.specs.Parts.{HasValue}

module _ (bytes : Bor (List ℕ)) where
  -- the value at a position of a buffer
  abbrev pub ref_at : {T : Type 0} → ℕ → Ref T
  ref_at p = record { bytes = bytes; pos = p; of = record {} }

  -- the key of an entry
  abbrev pub key_at : {K : Type 0} → Place → Ref K
  key_at e = ref_at e.key

  -- its value
  abbrev pub value_at : {V : Type 0} → Place → Ref V
  value_at e = ref_at e.value

  -- both
  abbrev pub entry_at : {K V : Type 0} → Place → Ref K × Ref V
  entry_at e = (key_at e, value_at e)

-- values lie at the positions of the two references of an entry
abbrev pub IsThere : {K V : Type 0} → Shape → Shape → (Names → Type 0) → (Names → Type 0) → Ref K × Ref V → Type 0
IsThere k v knows others entry = HasValue k knows entry.0.bytes.now entry.0.pos × HasValue v others entry.1.bytes.now entry.1.pos
