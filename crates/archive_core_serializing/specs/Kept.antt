-- What a map keeps of the progress of each number: nothing before it begins, and its outcome once it has ended.
use Rattle.std.specs.Prelude.{◌≡◌, ℕ, Option, Some, None}
use Rattle.archive_shape_layout.specs.Progress.{Progress}
use Rattle.archive_shape_layout.specs.Progress.Progress.{unmet, begun, ended}

module _ {A : Type 0} where
  abbrev pub progress_kept : Option (Option A) → Progress A
  progress_kept None = unmet
  progress_kept (Some None) = begun
  progress_kept (Some (Some outcome)) = ended outcome

  -- no number has begun
  abbrev pub IsNoneMet : (ℕ → Progress A) → Type 0
  IsNoneMet known = (n : ℕ) → known n ≡ unmet
