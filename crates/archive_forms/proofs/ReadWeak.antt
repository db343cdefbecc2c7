-- What is read back of weak pointers, which lead to nothing or where the counted pointers after their tags do.
use Rattle.std.proofs.Common.{ℕ, ◌+◌, false, List, Some, None, sym, ap}
use Rattle.archive_shape_layout.specs.Shape.{Pointee}
use Rattle.archive_shape_layout.specs.Shape.Shape.{shared, weak}
use Rattle.archive_shape_layout.specs.Value.{Value}
use Rattle.archive_shape_layout.specs.Content.{Names}
use Rattle.archive_shape_canonical.specs.Sharing.{erased}
use Rattle.archive_forms_rc.specs.WeakPointers.{IsNothingAt, IsPointerAt}
use Rattle.archive_forms_rc.specs.declared.sharing.keyed.Shared.{Shared}
use Rattle.archive_forms.specs.Deserializing.{IsReadAt}
use Rattle.archive_forms.specs.Weak.{reads_weak}

module _ {P : Type 0} (q : Pointee) (knows : Names → Type 0) (bytes : List ℕ) (pos : ℕ) (reads : Value → Shared P → Type 0) where
  pub nothing_read : IsNothingAt false q knows bytes pos → IsReadAt (reads_weak reads) (weak false q) knows bytes pos (record { shared = None })
  nothing_read nothing v h = sym (ap erased (nothing v h))

  pub pointer_read : IsPointerAt false q knows bytes pos → (x : Shared P) → IsReadAt reads (shared false q) knows bytes (pos + 4) x
      → IsReadAt (reads_weak reads) (weak false q) knows bytes pos (record { shared = Some x })
  pointer_read there x read v h = let led = there v h in (erased led.pointer, sym (ap erased led.is), read led.pointer led.held)
