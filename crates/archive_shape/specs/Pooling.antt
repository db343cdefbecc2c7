-- What the calls of a pool do to the progress of a position.
use Rattle.std.specs.Prelude.{◌≡◌, ℕ, Bool, true, false, Result, Ok}
use Rattle.archive_shape_layout.specs.Progress.{Progress, Starts, Finishes}
use Rattle.archive_shape_layout.specs.Progress.Progress.{unmet, begun, ended}
use Rattle.archive_shape_layout.specs.declared.error.Error.{Error}
use Rattle.archive_shape.specs.declared.pooling.PoolingState.{PoolingState}
use Rattle.archive_shape.specs.declared.pooling.PoolingState.TheVariants.{Started, Pending, Finished}

abbrev pub progress_of : {T : Type 0} → PoolingState T → Progress T
progress_of Started = unmet
progress_of Pending = begun
progress_of (Finished value) = ended value

module _ {T : Type 0} (old new : ℕ → Progress T) (pos : ℕ) where
  -- where progress is kept, starting returns that of the position; else the position is begun anew
  abbrev pub StartsPooling : Bool → PoolingState T → Type 0
  StartsPooling true state = Starts old new pos (progress_of state)
  StartsPooling false state = state ≡ Started

  -- where it is kept, finishing ends what has begun, and refuses all else, where nothing changes; else it does nothing
  abbrev pub FinishesPooling : Bool → T → Result (Unit {0}) Error → Type 0
  FinishesPooling true value result = Finishes old new pos value result (old pos)
  FinishesPooling false value result = result ≡ Ok tt
