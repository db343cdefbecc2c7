-- What is known of the pointers that a deserializer keeps.
use Rattle.std.proofs.Common.{◌≡◌, Option, Some, None, refl}
use Rattle.archive_forms.specs.Keeping.{IsCloneOf}

-- a pointer that is returned is a clone of the one that is kept
pub kept_of : {P : Type 0} (is_clone : P → P → Type 0) (kept : Option P) (copy : P) → IsCloneOf is_clone kept (Some copy) → (pointer : P) × (kept ≡ Some pointer) × is_clone pointer copy
kept_of is_clone None copy h = absurd (cc)
kept_of is_clone (Some pointer) copy h = (pointer, refl, h)
