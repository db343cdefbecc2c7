use Rattle.std.proofs.Common.{ℕ, List, [], false, refl}
use Rattle.archive_shape_layout.specs.Shape.{Shape}
use Rattle.archive_shape_layout.specs.Shape.Shape.{shared}
use Rattle.archive_shape_layout.specs.Shape.Pointee.{sized}
use Rattle.archive_shape_layout.specs.Content.{Names}
use Rattle.archive_forms_values.specs.Parts.{HasValue}
use Rattle.archive_forms_rc.specs.Pointers.{IsRcAt}
use Rattle.archive_forms_rc.proofs.Reached.{counted_there, text_counts}
use Rattle.archive_core_tests.proofs.rc.read_back.a_counted_pointer_leads_to_its_value.Goals as goal

-- there is a value where a counted pointer leads to
rc_has : (s : Shape) (knows : Names → Type 0) (bytes : List ℕ) (pos to : ℕ) → IsRcAt false s knows bytes pos to → HasValue (shared false (sized s)) knows bytes pos → HasValue s knows bytes to
rc_has s knows bytes pos to there has = record { value = _; held = counted_there false refl has.value (there.value has.value has.held) }

pub get-requires : goal.get-requires
get-requires g c = let root = c.in_ok-pointer.ensures in rw (root.bytes, root.position) (root.value [] tt)

pub native_of-requires : goal.native_of-requires
native_of-requires g c =
    let root = c.in_ok-pointer.ensures in
    rw c.get.ensures.bytes (rc_has _ _ _ _ _ c.get.ensures.value (rw (root.bytes, root.position) (root.value [] tt)))

pub get-requires-2 : goal.get-requires-2
get-requires-2 g c = let root = c.in_ok-pointer-2.ensures in text_counts false refl _ _ _ (rw (root.bytes, root.position) (root.value [] tt))
