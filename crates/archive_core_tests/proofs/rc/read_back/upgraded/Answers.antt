use Rattle.std.proofs.Common.{ℕ, ◌+◌, List, [], false, refl}
use Rattle.archive_shape_layout.specs.Shape.{Shape}
use Rattle.archive_shape_layout.specs.Shape.Shape.{weak}
use Rattle.archive_shape_layout.specs.Shape.Pointee.{sized}
use Rattle.archive_shape_layout.specs.Content.{Names}
use Rattle.archive_forms_values.specs.Parts.{HasValue}
use Rattle.archive_forms_rc.specs.Pointers.{IsRcAt}
use Rattle.archive_forms_rc.specs.WeakPointers.{IsPointerAt}
use Rattle.archive_forms_rc.proofs.Reached.{counted_there}
use Rattle.archive_forms_rc.proofs.Tags.{pointer_has}
use Rattle.archive_core_tests.proofs.rc.read_back.upgraded.Goals as goal

-- there is a value where a weak pointer leads to
weak_has : (s : Shape) (knows : Names → Type 0) (bytes : List ℕ) (pos to : ℕ) → IsPointerAt false (sized s) knows bytes pos → IsRcAt false s knows bytes (pos + 4) to
    → HasValue (weak false (sized s)) knows bytes pos → HasValue s knows bytes to
weak_has s knows bytes pos to is there has =
    let led = pointer_has false (sized s) knows bytes pos is has in
    record { value = _; held = counted_there false refl led.value (there.value led.value led.held) }

pub upgrade-requires : goal.upgrade-requires
upgrade-requires c = let root = c.in_ok-root.ensures in rw (root.bytes, root.position) (root.value [] tt)

pub native_of-requires : goal.native_of-requires
native_of-requires c =
    let root = c.in_ok-root.ensures in
    let there = c.in-Some.ensures in
    rw there.0 (weak_has _ _ _ _ _ there.1 there.2 (rw (root.bytes, root.position) (root.value [] tt)))
