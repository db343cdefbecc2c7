-- Laws of access, as statements.
use Rattle.std.specs.Prelude.{ℕ, ◌<◌, ◌^◌, List, length}
use Rattle.archive_shape_layout.specs.Shape.{Shape}
use Rattle.archive_shape_layout.specs.Value.{Value}
use Rattle.archive_shape_layout.specs.Content.{Names}
use Rattle.archive_shape_layout.specs.Holds.{Region, Visit, HasRoot}
use Rattle.archive_core_validation.specs.Depth.{unlimited}
use Rattle.archive_core_validation.specs.Access.{IsAccepted}

-- a buffer that has a value at a position, with regions that ascend over the whole buffer, is accepted without a limit
-- of depth
abbrev pub UnlimitedIsNoLimit : Type 0
UnlimitedIsNoLimit =
    (names : Names) (bytes : List ℕ) (s : Shape) (pos : ℕ) (v : Value) (regions : List Region) (visits : List Visit)
    → length bytes < 2 ^ 64
    → HasRoot names bytes pos s v regions visits
    → IsAccepted names bytes s pos unlimited
