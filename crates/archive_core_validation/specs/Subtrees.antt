-- A call for the duration of which a region is claimed.
use Rattle.std.specs.Prelude.{◌≡◌, ◌≢◌, ◌⊎◌, ◌+◌, Result, Ok, Err, MatchResult}
use denote.Ref.{MutBor}
use denote.Param.Members.{Once}
use Rattle.archive_shape_layout.specs.Content.{Span}
use Rattle.archive_shape.specs.Kept.{Kept, range_of, pushed, popped}
use Rattle.archive_shape.specs.Questions.{AreAnswered, FirstUnanswered, claim}
use Rattle.archive_shape.specs.declared.checking.context.PushedRange.{PushedRange}
use Rattle.archive_shape_layout.specs.declared.error.Error.{Error}
use Rattle.archive_shape_layout.specs.declared.error.Error.TheVariants.{OutOfMemory}

-- the push of a region
abbrev pub push_of : Kept → Span → PushedRange
push_of k s = record { pos = s.start; end = s.start + s.size; outer = k.end }

-- a region is claimed, and the range is the part before it
pub record IsClaimed (k : Kept) (s : Span) (inner : Kept) : Type 0 where
  pub answered : AreAnswered (range_of k) (claim s)
  pub narrowed : inner ≡ pushed k (push_of k s)

module _ {F C R : Type 0} (call : Once F (MutBor C × Unit {0}) (Result R Error × (MutBor C × Unit {0}))) (kept : C → Kept) (f : F) (k : Kept) (s : Span) where
  -- it may be called where the region is claimed
  abbrev pub TakesClaimed : Type 0
  TakesClaimed = (inner : MutBor C) → IsClaimed k s (kept inner.now) → call.pre f (inner, tt)

  -- and unless it returns an error, the open pushes are then the same
  abbrev pub KeepsPushes : Type 0
  KeepsPushes =
      (inner left : MutBor C) (value : R) → IsClaimed k s (kept inner.now) → call.post f (inner, tt) (Ok value, (left, tt))
      → (kept left.now).pushes ≡ (kept inner.now).pushes

  -- it was called where the region is claimed, with this result, and left this state
  pub record Answers (result : Result R Error) (left : Kept) : Type 0 where
    pub inner : MutBor C
    pub outer : MutBor C
    pub claimed : IsClaimed k s (kept inner.now)
    pub called : call.post f (inner, tt) (result, (outer, tt))
    pub leaves : kept outer.now ≡ left

  -- Ok where the region is claimed and the call returns Ok; it is then popped. Otherwise, except for `OutOfMemory`, the
  -- error is that of the claim or of the call
  abbrev pub InSubtree : Result R Error → Kept → Type 0
  InSubtree result new =
      MatchResult result
      (λ value. (left : Kept) × Answers (Ok value) left × (new ≡ popped left (push_of k s) k.pushes))
      (λ e. e ≢ OutOfMemory → FirstUnanswered (range_of k) e (claim s) ⊎ ((left : Kept) × Answers (Err e) left))
