-- What a buffer has at a position: a value whose regions ascend over the whole buffer, its own the last.
use Rattle.std.specs.Prelude.{◌≢◌, ℕ, List, [], length, Result, Ok, Err, MatchResult}
use Rattle.archive_shape_layout.specs.Shape.{Shape}
use Rattle.archive_shape_layout.specs.Shape.Pointee.{sized}
use Rattle.archive_shape_layout.specs.Content.{Names, Part}
use Rattle.archive_shape_layout.specs.Content.Part.{behind}
use Rattle.archive_shape.specs.Range.{Range}
use Rattle.archive_shape.specs.Accepts.{Passes}
use Rattle.archive_shape.specs.PartFault.{PartFault}
use Rattle.archive_shape_layout.specs.declared.error.Error.{Error}
use Rattle.archive_shape_layout.specs.declared.error.Error.TheVariants.{OutOfMemory}

-- a value of a shape at a position, with its own bytes claimed
abbrev pub root_at : ℕ → Shape → Part
root_at pos s = behind pos (sized s) 1

-- n bytes from the first to the last, of which nothing is claimed yet
abbrev pub whole_range : (len most : ℕ) → Range
whole_range len most = record { start = 0; end = len; most = most; level = 0 }

-- the result of a check after which a value is returned
abbrev pub check_of : {A : Type 0} → Result A Error → Result (Unit {0}) Error
check_of (Ok x) = Ok tt
check_of (Err e) = Err e

module _ (names : Names) (bytes : List ℕ) (s : Shape) (pos most : ℕ) where
  -- the buffer has a value at the position, with regions over all of it that nest no deeper than `most`
  abbrev pub IsAccepted : Type 0
  IsAccepted = Passes names bytes [] [] (root_at pos s) (whole_range (length bytes) most)

  -- it has none, and this names the first fault
  abbrev pub IsRefused : Error → Type 0
  IsRefused = PartFault names bytes [] [] (root_at pos s) (whole_range (length bytes) most)

  -- Ok where it is accepted; otherwise, except for `OutOfMemory`, the error is that of the first fault
  abbrev pub Decides : {A : Type 0} → Result A Error → Type 0
  Decides result = MatchResult result (λ _. IsAccepted) (λ e. e ≢ OutOfMemory → IsRefused e)
