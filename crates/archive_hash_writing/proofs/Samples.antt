-- The samples are spelled as their bytes.
use Rattle.std.proofs.Common.{refl}
use Rattle.archive_shape_layout.specs.Bytes.{align_up}
use Rattle.archive_shape_canonical.specs.FirstFit.{hash_tag, written_controls}
use Rattle.archive_shape_canonical.specs.Strides.{least_power, stop, strides_from, strides, places_for}
use Rattle.archive_hash_writing.specs.Laws.{SamplesAreSpelled}

pub samples_are_spelled_law : SamplesAreSpelled
unfolding align_up places_for strides stop least_power hash_tag written_controls strides_from
samples_are_spelled_law = (refl, refl, refl)
