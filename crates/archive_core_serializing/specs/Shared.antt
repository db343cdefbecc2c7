-- The result of a call that reads each shared value once.
use Rattle.std.specs.Prelude.{◌≡◌, ◌≢◌, ℕ, Bool, true, false, Result, Ok, Err, MatchResult}
use denote.Ref.{MutBor}
use denote.Param.Members.{Once}
use Rattle.archive_shape_layout.specs.Progress.{Progress, IsSame, IsSet}
use Rattle.archive_shape_layout.specs.Progress.Progress.{unmet, begun, ended}
use Rattle.archive_shape_layout.specs.declared.error.Error.{Error}
use Rattle.archive_shape_layout.specs.declared.error.Error.TheVariants.{AlreadyFinished, CyclicSharedPointer, NotStarted, OutOfMemory}
use Rattle.archive_shape.specs.declared.pooling.PoolingState.TheVariants.{Started}
use Rattle.archive_shape.specs.Pooling.{StartsPooling}

-- of a pool that keeps progress or not, of which this is known; the step makes the value at a position
module _ {F P T : Type 0} (call : Once F (MutBor P × (ℕ × Unit {0})) (Result T Error × (MutBor P × Unit {0})))
    (known : P → ℕ → Progress T) (keeps : Bool) (step : F) (old : P) (pos : ℕ) where
  -- the step may be called where the position was not known before and has begun
  abbrev pub TakesBegun : Type 0
  TakesBegun = (inner : MutBor P) → StartsPooling (known old) (known inner.now) pos keeps Started → call.pre step (inner, (pos, tt))

  -- it was called there, and this is what it made or refused, and left
  pub record Makes (made : Result T Error) (left : P) : Type 0 where
    pub inner : MutBor P
    pub outer : MutBor P
    pub starts : StartsPooling (known old) (known inner.now) pos keeps Started
    pub called : call.post step (inner, (pos, tt)) (made, (outer, tt))
    pub leaves : outer.now ≡ left

  module _ (new : P) (result : Result T Error) where
    -- a value that was made is kept where the position has begun, by what the step left of that; otherwise it is refused,
    -- and nothing changes. A pool that keeps no progress only returns it
    abbrev pub KeepsMade : P → T → Bool → Progress T → Type 0
    KeepsMade left x true begun = (result ≡ Ok x) × IsSet (known left) (known new) pos (ended x)
    KeepsMade left x true unmet = (result ≡ Err NotStarted) × IsSame (known left) (known new)
    KeepsMade left x true (ended y) = (result ≡ Err AlreadyFinished) × IsSame (known left) (known new)
    KeepsMade left x false progress = result ≡ Ok x

    -- what the step refuses is refused
    abbrev pub EndsMade : P → Result T Error → Type 0
    EndsMade left (Ok x) = KeepsMade left x keeps (known left pos)
    EndsMade left (Err e) = (result ≡ Err e) × (new ≡ left)

    -- the value is made again
    abbrev pub ReadsAnew : Type 0
    ReadsAnew = (made : Result T Error) × (left : P) × Makes made left × EndsMade left made

    -- where progress is kept, a value that has ended is returned as it was made, and one that has begun is refused
    abbrev pub ReadsOnce : Bool → Progress T → Type 0
    ReadsOnce true unmet = ReadsAnew
    ReadsOnce true begun = (result ≡ Err CyclicSharedPointer) × IsSame (known old) (known new)
    ReadsOnce true (ended x) = (result ≡ Ok x) × IsSame (known old) (known new)
    ReadsOnce false progress = ReadsAnew

  -- by what is known of the position, except for `OutOfMemory`
  abbrev pub ReadsShared : Result T Error → P → Type 0
  ReadsShared result new =
      MatchResult result
      (λ x. ReadsOnce new (Ok x) keeps (known old pos))
      (λ e. e ≢ OutOfMemory → ReadsOnce new (Err e) keeps (known old pos))
