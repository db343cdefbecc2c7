-- The greatest length of an archived text.
use Rattle.std.proofs.Common.{◌-◌, ◌^◌, refl, arith, lit<}
use Rattle.archive_shape_layout.specs.Content.{text_length}
use Rattle.archive_forms_values.specs.Repr.{IsGreatestLength}

-- all thirty bits of a length are set
pub greatest_length : IsGreatestLength (2 ^ 30 - 1)
unfolding text_length
greatest_length = record { bound = λ word small. omega arith; reached = (0xffff_ffbf, lit< tt, refl) }
