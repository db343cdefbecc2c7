-- Calls that read counted and weak pointers back.
use Rattle.std.specs.Prelude.{◌+◌, false, length, Result, ⊤}
use Rattle.std.specs.Rc.{rc_slice_items, rc_str_bytes}
use Rattle.std.specs.Global.{Global}
use Rattle.std.specs.declared.rc.Rc.{Rc}
use Rattle.std.specs.declared.rc.RcSlice.{RcSlice}
use Rattle.std.specs.declared.rc.RcStr.{RcStr}
use Rattle.archive_shape_layout.specs.Shape.Shape.{shared, weak}
use Rattle.archive_shape_layout.specs.Shape.Pointee.{sized, slice, str}
use Rattle.archive_shape_layout.specs.declared.error.Error.{Error}
use Rattle.archive_shape.specs.declared.references.refs.Ref.{Ref}
use Rattle.archive_forms_rc.specs.Counted.{shared_str_rc_spelling}
use Rattle.archive_forms_rc.specs.Pointers.{IsRcAt, IsRcSliceAt, IsRcStrAt}
use Rattle.archive_forms_rc.specs.declared.sharing.keyed.Shared.{Shared}
use Rattle.archive_forms_rc.specs.declared.sharing.weak.SharedWeak.{SharedWeak}
use Rattle.archive_forms.specs.Reading.{reads_as, reads_rc, reads_rc_slice}
use Rattle.archive_forms.specs.Weak.{reads_weak, IsKeyedAt}
use Rattle.archive_forms.specs.Calls.Forms.{ReadMembers, DeserializesForm}

-- ---- what they are read back as

module _ {M T : Type 0} (a : ReadMembers T) (this : Ref M) where
  -- a counted pointer to a value
  abbrev pub DeserializesRc : Result (Shared (Rc T Global)) Error → Type 0
  DeserializesRc result = DeserializesForm (reads_rc a.reads) (shared false (sized a.shape)) a.knows this result

  -- one to a slice
  abbrev pub DeserializesRcSlice : Result (Shared (RcSlice T Global)) Error → Type 0
  DeserializesRcSlice result = DeserializesForm (reads_rc_slice a.reads) (shared false (slice a.shape)) a.knows this result

  -- a weak pointer to a value
  abbrev pub DeserializesRcWeak : Result (SharedWeak (Rc T Global)) Error → Type 0
  DeserializesRcWeak result = DeserializesForm (reads_weak (reads_rc a.reads)) (weak false (sized a.shape)) a.knows this result

  -- one to a slice
  abbrev pub DeserializesRcWeakSlice : Result (SharedWeak (RcSlice T Global)) Error → Type 0
  DeserializesRcWeakSlice result = DeserializesForm (reads_weak (reads_rc_slice a.reads)) (weak false (slice a.shape)) a.knows this result

module _ {M : Type 0} (this : Ref M) where
  -- a counted pointer to a text
  abbrev pub DeserializesRcStr : Result (Shared (RcStr Global)) Error → Type 0
  DeserializesRcStr result = DeserializesForm (reads_as shared_str_rc_spelling) (shared false str) (λ _. ⊤) this result

  -- a weak pointer to a text
  abbrev pub DeserializesRcWeakStr : Result (SharedWeak (RcStr Global)) Error → Type 0
  DeserializesRcWeakStr result = DeserializesForm (reads_weak (reads_as shared_str_rc_spelling)) (weak false str) (λ _. ⊤) this result

-- ---- their keys

module _ {M T : Type 0} (a : ReadMembers T) (this : Ref M) where
  -- the key of a counted pointer is the position of the value that it leads to
  abbrev pub HasRcKey : Shared (Rc T Global) → Type 0
  HasRcKey x = IsRcAt false a.shape a.knows this.bytes.now this.pos x.key

  -- of the elements that it leads to, of which there are as many
  abbrev pub HasRcSliceKey : Shared (RcSlice T Global) → Type 0
  HasRcSliceKey x = IsRcSliceAt false a.shape a.knows this.bytes.now this.pos x.key (length (rc_slice_items x.value))

  -- the key of a weak pointer is that of the counted pointer after the tag
  abbrev pub HasRcWeakKey : SharedWeak (Rc T Global) → Type 0
  HasRcWeakKey x =
      IsKeyedAt (sized a.shape) a.knows this.bytes.now this.pos (λ led. IsRcAt false a.shape a.knows this.bytes.now (this.pos + 4) led.key) x

  -- the same of a weak pointer to a slice
  abbrev pub HasRcWeakSliceKey : SharedWeak (RcSlice T Global) → Type 0
  HasRcWeakSliceKey x =
      IsKeyedAt (slice a.shape) a.knows this.bytes.now this.pos
      (λ led. IsRcSliceAt false a.shape a.knows this.bytes.now (this.pos + 4) led.key (length (rc_slice_items led.value))) x

module _ {M : Type 0} (this : Ref M) where
  -- the key of a counted pointer to a text is the position of the text, which is as long
  abbrev pub HasRcStrKey : Shared (RcStr Global) → Type 0
  HasRcStrKey x = IsRcStrAt false this.bytes.now this.pos x.key (length (rc_str_bytes x.value))

  -- the same of a weak pointer to a text
  abbrev pub HasRcWeakStrKey : SharedWeak (RcStr Global) → Type 0
  HasRcWeakStrKey x =
      IsKeyedAt str (λ _. ⊤) this.bytes.now this.pos (λ led. IsRcStrAt false this.bytes.now (this.pos + 4) led.key (length (rc_str_bytes led.value))) x
