-- A pointer that may lead to nothing has four bytes, and is refused only where it does not fit.
use Rattle.std.proofs.Common.{◌≡◌, ℕ, length, Option, Some, None, refl}
use Rattle.std.specs.Int.{w32, cast_unsigned}
use Rattle.archive_shape_canonical.specs.Canonical.{AreBytes}
use Rattle.archive_shape_layout.specs.declared.error.Error.{Error}
use Rattle.archive_shape.specs.Offsets.{difference}
use Rattle.archive_forms_laws.specs.Links.{link_bytes, LinkFits, LinkRefused}
use Rattle.archive_forms_laws.proofs.Gaps.{bytes_word}

pub link_small : (o : Option ℕ) (pos : ℕ) → AreBytes (link_bytes o pos)
link_small None pos = bytes_word 1
link_small (Some to) pos = bytes_word (cast_unsigned w32 (difference pos to))

pub link_exact : (o : Option ℕ) (pos : ℕ) (e : Error) → LinkFits o pos → LinkRefused o pos e → ⊥
link_exact None pos e f r = r
link_exact (Some to) pos e f r = r.0 f

pub length-link : (o : Option ℕ) (pos : ℕ) → length (link_bytes o pos) ≡ 4
length-link None pos = refl
length-link (Some to) pos = refl
