-- Checks of index maps and sets, under all names that the types of their parts know; `kept` is what a context keeps.
use Rattle.std.specs.Prelude.{◌≡◌, ℕ, List, Result}
use Rattle.archive_shape_layout.specs.Shape.{Shape}
use Rattle.archive_shape_layout.specs.Shape.Shape.{index_map}
use Rattle.archive_shape_layout.specs.Content.{Names}
use Rattle.archive_shape_layout.specs.Content.Part.{at}
use Rattle.archive_shape_layout.specs.declared.error.Error.{Error}
use Rattle.archive_shape.specs.Checks.{Checks, ChecksAt}
use Rattle.archive_shape.specs.Kept.{Kept}
use Rattle.archive_shape.specs.declared.references.refs.Ref.{Ref}
use Rattle.archive_shape.specs.declared.types.portable.Portable.{Ghosts as Portable}
use Rattle.archive_forms_values.specs.Tuples.{tuple2}
use Rattle.archive_index.specs.Sets.{set_shape}

module _ {C : Type 0} (kept : C → Kept) where
  -- the map of entries of a shape, of keys and of values, is checked
  abbrev pub ChecksEntries : (Names → Type 0) → Shape → List ℕ → ℕ → C → Result (Unit {0}) Error → C → Type 0
  ChecksEntries knows s bytes pos old result new =
      (names : Names) (key value : Shape) → knows names → s ≡ tuple2 key value
      → Checks names bytes (at pos (index_map key value)) (kept old) result (kept new)

  -- the map that a reference leads to is checked
  abbrev pub ChecksMap : {K V M : Type 0} → Portable K → Portable V → Ref M → C → Result (Unit {0}) Error → C → Type 0
  ChecksMap k v this old result new =
      (names : Names) → k.knows names → v.knows names
      → Checks names this.bytes.now (at this.pos (index_map k.shape v.shape)) (kept old) result (kept new)

  -- the set that a reference leads to is checked
  abbrev pub ChecksSet : {K S : Type 0} → Portable K → Ref S → C → Result (Unit {0}) Error → C → Type 0
  ChecksSet k this old result new = ChecksAt kept k.knows this.bytes.now this.pos (set_shape k.shape) old result new
