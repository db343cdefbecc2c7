-- The entries of maps, by the positions of their keys and their values.
use denote.Ref.{Bor}
use Rattle.std.specs.Prelude.{ℕ, List}
use Rattle.archive_shape.specs.declared.references.refs.Ref.{Ref}

-- the key and the value at two positions of a buffer
abbrev pub entry_from : {K V : Type 0} → Bor (List ℕ) → ℕ × ℕ → Ref K × Ref V
entry_from bytes at = (record { bytes = bytes; pos = at.0; of = record {} }, record { bytes = bytes; pos = at.1; of = record {} })
