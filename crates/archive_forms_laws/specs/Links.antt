-- How a pointer that may lead to nothing is archived.
use Rattle.std.specs.Prelude.{◌≡◌, ℕ, List, Option, Some, None, ⊤}
use Rattle.std.specs.Int.{w32, to_le_bytes}
use Rattle.archive_shape_layout.specs.declared.error.Error.{Error}
use Rattle.archive_shape_layout.specs.declared.error.Error.TheVariants.{IsizeOverflow}
use Rattle.archive_shape.specs.Offsets.{FitsOffset, offset_bytes}

-- a pointer to a position; the offset 1 leads to nothing
abbrev pub link_bytes : Option ℕ → ℕ → List ℕ
link_bytes None pos = to_le_bytes w32 1
link_bytes (Some to) pos = offset_bytes pos to

abbrev pub LinkFits : Option ℕ → ℕ → Type 0
LinkFits None pos = ⊤
LinkFits (Some to) pos = FitsOffset pos to

abbrev pub LinkRefused : Option ℕ → ℕ → Error → Type 0
LinkRefused None pos e = ⊥
LinkRefused (Some to) pos e = (FitsOffset pos to → ⊥) × (e ≡ IsizeOverflow)
