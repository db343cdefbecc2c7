-- What calls ensure that return what counted and weak pointers lead to; `this` refers to the pointer.
use Rattle.std.specs.Prelude.{◌≡◌, ℕ, ◌+◌, Bool, List, Option, MatchOption, ⊤}
use denote.Bor.{Bor}
use Rattle.archive_shape_layout.specs.Bytes.{window}
use Rattle.archive_shape_layout.specs.Shape.{Shape}
use Rattle.archive_shape_layout.specs.Shape.Shape.{shared}
use Rattle.archive_shape_layout.specs.Shape.Pointee.{sized, slice, str}
use Rattle.archive_shape_layout.specs.Value.{Value}
use Rattle.archive_shape_layout.specs.Content.{Names}
use Rattle.archive_shape.specs.Key.{HeldAt}
use Rattle.archive_shape.specs.declared.references.refs.Ref.{Ref}
use Rattle.archive_forms_laws.specs.Views.{text_of}
use Rattle.archive_forms_values.specs.Parts.{AreElements}
use Rattle.archive_forms_values.specs.declared.reading.slice.SliceRef.{SliceRef}
use Rattle.archive_forms_comparing.specs.Compared.{HasPart, OfValue}
use Rattle.archive_forms_rc.specs.Compared.{counted_of}
use Rattle.archive_forms_rc.specs.Pointers.{IsRcAt, IsRcSliceAt, IsRcStrAt}
use Rattle.archive_forms_rc.specs.WeakPointers.{IsNothingAt, IsPointerAt}

-- a text is the one that the pointer at a position leads to
abbrev pub LeadsToStr : (cyclic : Bool) → List ℕ → (pos : ℕ) → List ℕ → Type 0
LeadsToStr cyclic bytes pos text = (to len : ℕ) × IsRcStrAt cyclic bytes pos to len × (text ≡ window bytes to len)

-- and one that a weak pointer leads to, if it leads to one
abbrev pub UpgradesStr : {T : Type 0} → (cyclic : Bool) → Ref T → Option (Bor (List ℕ)) → Type 0
UpgradesStr cyclic this result =
    MatchOption result
    (IsNothingAt cyclic str (λ _. ⊤) this.bytes.now this.pos)
    (λ text. IsPointerAt cyclic str (λ _. ⊤) this.bytes.now this.pos × LeadsToStr cyclic this.bytes.now (this.pos + 4) text.now)

-- the text that is compared for a counted pointer
abbrev pub CountsStr : {T : Type 0} → (cyclic : Bool) → Ref T → List ℕ → Type 0
CountsStr cyclic this text =
    OfValue (shared cyclic str) (λ _. ⊤) this.bytes.now this.pos (λ v. text_of (counted_of v)) text

module _ {T U : Type 0} (cyclic : Bool) (s : Shape) (knows : Names → Type 0) (this : Ref T) where
  -- elements are those that the pointer leads to
  abbrev pub LeadsToSlice : SliceRef U → Type 0
  LeadsToSlice found = IsRcSliceAt cyclic s knows this.bytes.now this.pos found.pos found.len

  -- the value that a weak pointer leads to, if it leads to one
  abbrev pub Upgrades : Option (Ref U) → Type 0
  Upgrades result =
      MatchOption result
      (IsNothingAt cyclic (sized s) knows this.bytes.now this.pos)
      (λ r. (r.bytes ≡ this.bytes)
      × IsPointerAt cyclic (sized s) knows this.bytes.now this.pos
      × IsRcAt cyclic s knows this.bytes.now (this.pos + 4) r.pos)

  -- the elements that it leads to, if it leads to any
  abbrev pub UpgradesSlice : Option (SliceRef U) → Type 0
  UpgradesSlice result =
      MatchOption result
      (IsNothingAt cyclic (slice s) knows this.bytes.now this.pos)
      (λ r. (r.bytes ≡ this.bytes)
      × IsPointerAt cyclic (slice s) knows this.bytes.now this.pos
      × IsRcSliceAt cyclic s knows this.bytes.now (this.pos + 4) r.pos r.len)

  -- the value that is compared for a counted pointer
  abbrev pub CountsValue : Ref U → Type 0
  CountsValue found =
      HasPart (λ v x. counted_of v ≡ x) (shared cyclic (sized s)) knows this.bytes.now this.pos s knows found.bytes.now found.pos

  -- the elements that are compared for one
  abbrev pub CountsSlice : SliceRef U → Type 0
  CountsSlice found =
      (v : Value) → HeldAt (shared cyclic (slice s)) knows this.bytes.now this.pos v
      → AreElements s knows found.bytes.now found.pos found.len (counted_of v)
