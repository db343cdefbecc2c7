use Rattle.std.proofs.Common.{◌≡◌, ℕ, Vec, false, length, IfOk, Result, Ok, Err, refl}
use Rattle.std.specs.Global.{Global}
use Rattle.std.specs.Int.{w32}
use Rattle.archive_shape_layout.specs.Shape.{Shape}
use Rattle.archive_shape_layout.specs.Shape.Shape.{vector, table, text, number}
use Rattle.archive_shape_layout.specs.Content.{Names}
use Rattle.archive_shape_layout.specs.Holds.{root_position}
use Rattle.archive_shape_layout.specs.declared.error.Error.{Error}
use Rattle.archive_forms_laws.specs.Unshared.{holds_shared}
use Rattle.archive_forms_values.specs.Tuples.{tuple2}
use Rattle.archive_core_validation.specs.Depth.{unlimited}
use Rattle.archive_core_validation.specs.Access.{IsAccepted}
use Rattle.archive_core.specs.Written.{IsAcceptedUnshared}
use Rattle.archive_hash_tests.proofs.several.archived.Goals as goal

-- what is accepted where all names are known
told : (s : Shape) (knows : Names → Type 0) → holds_shared s ≡ false → ((names : Names) → knows names) → (r : Result (Vec ℕ Global) Error)
    → IfOk r (λ bytes. IsAcceptedUnshared s knows bytes.items)
    → IfOk r (λ bytes. (names : Names) → IsAccepted names bytes.items s (root_position (length bytes.items) s) unlimited)
told s knows none known (Ok bytes) h = λ names. h none names (known names)
told s knows none known (Err e) h = tt

pub returns : goal.returns
returns c = record { accepted = told (vector (table (tuple2 text (number w32 false)))) _ refl (λ names. (tt, tt)) c.to_bytes.result c.to_bytes.ensures.accepted }
