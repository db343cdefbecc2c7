-- What a step that checks an element must ensure, where a form calls it for its elements.
use Rattle.std.specs.Prelude.{ℕ, ◌+◌, ◌≤◌, List, length, Result}
use denote.Ref.{MutBor}
use denote.Param.Members.{Shared}
use Rattle.archive_shape_layout.specs.Shape.{Shape, size_of}
use Rattle.archive_shape_layout.specs.Content.{Names}
use Rattle.archive_shape_layout.specs.Content.Part.{at}
use Rattle.archive_shape.specs.Kept.{Kept, IsWithin}
use Rattle.archive_shape.specs.Checks.{Checks, Moves}
use Rattle.archive_shape_layout.specs.declared.error.Error.{Error}

-- a range that an element is checked in, where the form claims at least `claimed` bytes
pub record Narrower (outer inner : Kept) (claimed : ℕ) : Type 0 where
  pub begins : outer.start ≤ inner.start
  pub ends : inner.end + claimed ≤ outer.end
  pub ordered : inner.start ≤ inner.end

module _ {F C : Type 0} (call : Shared F (MutBor C × (ℕ × Unit {0})) (Result (Unit {0}) Error × (MutBor C × Unit {0})))
    (kept : C → Kept) (bytes : List ℕ) (shape : Shape) (step : F) where
  -- it may be called wherever a value of the shape fits, in each narrower range
  abbrev pub StepTakes : Kept → ℕ → Type 0
  StepTakes outer claimed = (context : MutBor C) (pos : ℕ) → Narrower outer (kept context.now) claimed → pos + size_of shape ≤ length bytes → call.pre step (context, (pos, tt))

  -- each call is a check of the shape
  abbrev pub StepChecks : (Names → Type 0) → Type 0
  StepChecks knows =
      (old new : MutBor C) (pos : ℕ) (result : Result (Unit {0}) Error)
      → IsWithin (kept old.now) (length bytes)
      → pos + size_of shape ≤ length bytes
      → call.post step (old, (pos, tt)) (result, (new, tt))
      → Moves (kept old.now) result (kept new.now)
      × ((names : Names) → knows names → Checks names bytes (at pos shape) (kept old.now) result (kept new.now))
