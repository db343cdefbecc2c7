-- The progress that the state of a shared value reports.
use Rattle.std.specs.Prelude.{ℕ}
use Rattle.archive_shape_layout.specs.Progress.{Progress}
use Rattle.archive_shape_layout.specs.Progress.Progress.{unmet, begun, ended}
use Rattle.archive_shape.specs.declared.sharing.SharingState.{SharingState}
use Rattle.archive_shape.specs.declared.sharing.SharingState.TheVariants.{Started, Pending, Finished}

abbrev pub progress_of : SharingState → Progress ℕ
progress_of Started = unmet
progress_of Pending = begun
progress_of (Finished pos) = ended pos
