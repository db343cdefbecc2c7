-- What the checks of counted and weak pointers ensure, of the members of what they lead to, of their flavor, and of what a
-- context keeps.
use Rattle.std.specs.Prelude.{◌≢◌, ℕ, Bool, List, Result, MatchResult}
use Rattle.archive_shape_layout.specs.Shape.{Pointee}
use Rattle.archive_shape_layout.specs.Shape.Shape.{shared, weak}
use Rattle.archive_shape_layout.specs.Shape.Pointee.{sized, slice, str}
use Rattle.archive_shape_layout.specs.Content.{Names}
use Rattle.archive_shape_layout.specs.Content.Part.{at}
use Rattle.archive_shape_layout.specs.declared.error.Error.{Error}
use Rattle.archive_shape_layout.specs.declared.error.Error.TheVariants.{OutOfMemory}
use Rattle.archive_shape.specs.Kept.{Kept}
use Rattle.archive_shape.specs.Checks.{Checks, ChecksAt}
use Rattle.archive_shape.specs.declared.types.portable.Portable.{Ghosts}
use Rattle.archive_forms_rc.specs.Visits.{Visits, ClashesAt}
use Rattle.archive_forms_rc.specs.declared.flavor.Flavor.{Ghosts as FlavorGhosts}

-- the start of the check of what a pointer leads to; the result tells whether this is its first visit
abbrev pub StartsVisit : {C : Type 0} → (cyclic : Bool) → (C → Kept) → (target : ℕ) → Pointee → (len : ℕ)
    → C → Result Bool Error → C → Type 0
StartsVisit cyclic kept target p len old result new =
    MatchResult result
    (Visits cyclic (kept old) target p len (kept new))
    (λ e. e ≢ OutOfMemory → ClashesAt cyclic (kept old) target p len e)

module _ {C T L : Type 0} (kept : C → Kept) (portable : Ghosts T) (flavor : FlavorGhosts L) (bytes : List ℕ) (pos : ℕ) where
  -- the check of a counted pointer to a value
  abbrev pub ChecksRc : C → Result (Unit {0}) Error → C → Type 0
  ChecksRc old result new = ChecksAt kept portable.knows bytes pos (shared flavor.ALLOW_CYCLES (sized portable.shape)) old result new

  -- to elements
  abbrev pub ChecksRcSlice : C → Result (Unit {0}) Error → C → Type 0
  ChecksRcSlice old result new = ChecksAt kept portable.knows bytes pos (shared flavor.ALLOW_CYCLES (slice portable.shape)) old result new

  -- the check of a weak pointer to a value
  abbrev pub ChecksWeak : C → Result (Unit {0}) Error → C → Type 0
  ChecksWeak old result new = ChecksAt kept portable.knows bytes pos (weak flavor.ALLOW_CYCLES (sized portable.shape)) old result new

  -- to elements
  abbrev pub ChecksWeakSlice : C → Result (Unit {0}) Error → C → Type 0
  ChecksWeakSlice old result new = ChecksAt kept portable.knows bytes pos (weak flavor.ALLOW_CYCLES (slice portable.shape)) old result new

module _ {C L : Type 0} (kept : C → Kept) (flavor : FlavorGhosts L) (bytes : List ℕ) (pos : ℕ) where
  -- the check of a counted pointer to a text, which is the same under all names
  abbrev pub ChecksRcStr : C → Result (Unit {0}) Error → C → Type 0
  ChecksRcStr old result new =
      (names : Names) → Checks names bytes (at pos (shared flavor.ALLOW_CYCLES str)) (kept old) result (kept new)

  -- of a weak pointer to a text
  abbrev pub ChecksWeakStr : C → Result (Unit {0}) Error → C → Type 0
  ChecksWeakStr old result new =
      (names : Names) → Checks names bytes (at pos (weak flavor.ALLOW_CYCLES str)) (kept old) result (kept new)
