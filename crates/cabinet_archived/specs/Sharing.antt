-- The progress that is kept of shared texts and of wholes.
use Rattle.std.specs.Prelude.{ℕ, ◌/◌, ◌%◌, ◌==◌, cond, Option, Some, None}
use Rattle.archive_shape_layout.specs.Progress.{Progress}
use Rattle.archive_shape_layout.specs.Progress.Progress.{unmet, ended}

-- by the position at which the text was written, if it was; no text is only begun
abbrev pub progress_at : Option ℕ → Progress ℕ
progress_at None = unmet
progress_at (Some pos) = ended pos

-- an even key is that of a text, and an odd one that of a whole
abbrev pub of_both : (ℕ → Progress ℕ) → (ℕ → Progress ℕ) → ℕ → Progress ℕ
of_both texts wholes key = cond (key % 2 == 0) (texts (key / 2)) (wholes (key / 2))
