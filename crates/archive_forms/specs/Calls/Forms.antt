-- Calls that read a form back: the result is what the form is read back as, and the only error is `OutOfMemory`.
use Rattle.std.specs.Prelude.{ℕ, List, Option, Result, Box, Vec}
use Rattle.std.specs.Box.{boxed_slice_items}
use Rattle.std.specs.Global.{Global}
use Rattle.std.specs.declared.boxed.BoxedSlice.{BoxedSlice}
use Rattle.archive_shape_layout.specs.Shape.{Shape}
use Rattle.archive_shape_layout.specs.Shape.Shape.{array, option, result as result_shape, box, vector}
use Rattle.archive_shape_layout.specs.Shape.Pointee.{sized, slice}
use Rattle.archive_shape_layout.specs.Value.{Value}
use Rattle.archive_shape_layout.specs.Content.{Names}
use Rattle.archive_shape_layout.specs.declared.error.Error.{Error}
use Rattle.archive_shape.specs.declared.references.refs.Ref.{Ref}
use Rattle.archive_forms_values.specs.Fields.{all_three, all_four}
use Rattle.archive_forms_values.specs.Parts.{HasValue, both}
use Rattle.archive_forms_values.specs.Tuples.{tuple1, tuple2, tuple3, tuple4}
use Rattle.archive_forms_values.specs.declared.reading.slice.SliceRef.{SliceRef}
use Rattle.archive_forms.specs.Deserializing.{Deserializes, DeserializesBy, DeserializesAll}
use Rattle.archive_forms.specs.Reading.{reads_in, reads_option, reads_result, reads_all, reads_tuple1, reads_tuple2, reads_tuple3, reads_tuple4}

-- the members of a type that is read back
abbrev pub ReadMembers : Type 0 → Type 1
ReadMembers T = record { SIZE : ℕ; ALIGN : ℕ; shape : Shape; knows : Names → Type 0; named : Names; reads : Value → T → Type 0 }

-- ---- what is at the reference

-- a result
abbrev pub HasResult : {M T E : Type 0} → ReadMembers T → ReadMembers E → Ref M → Type 0
HasResult a b this = HasValue (result_shape a.shape b.shape) (both a.knows b.knows) this.bytes.now this.pos

-- a tuple of three fields
abbrev pub HasTuple3 : {M T U V : Type 0} → ReadMembers T → ReadMembers U → ReadMembers V → Ref M → Type 0
HasTuple3 a b c this = HasValue (tuple3 a.shape b.shape c.shape) (all_three a.knows b.knows c.knows) this.bytes.now this.pos

-- a tuple of four fields
abbrev pub HasTuple4 : {M T U V W : Type 0} → ReadMembers T → ReadMembers U → ReadMembers V → ReadMembers W → Ref M → Type 0
HasTuple4 a b c d this =
    HasValue (tuple4 a.shape b.shape c.shape d.shape) (all_four a.knows b.knows c.knows d.knows) this.bytes.now this.pos

-- ---- what it is read back as, by the forms

-- a form of a shape
abbrev pub DeserializesForm : {M A : Type 0} → (Value → A → Type 0) → Shape → (Names → Type 0) → Ref M → Result A Error → Type 0
DeserializesForm reads s knows this result = Deserializes reads s knows this.bytes.now this.pos result

-- a value of a type
abbrev pub DeserializesAt : {M T : Type 0} → ReadMembers T → Ref M → Result T Error → Type 0
DeserializesAt a this result = DeserializesForm a.reads a.shape a.knows this result

-- one that the result keeps
abbrev pub DeserializesValue : {M T Q : Type 0} → (Q → T) → ReadMembers T → Ref M → Result Q Error → Type 0
DeserializesValue kept a this result = DeserializesBy a.reads a.shape a.knows this.bytes.now this.pos kept result

-- the elements of a slice, which the result keeps
abbrev pub DeserializesElements : {M T Q : Type 0} → (Q → List T) → ReadMembers T → SliceRef M → Result Q Error → Type 0
DeserializesElements kept a items result = DeserializesAll a.reads a.shape a.knows items.bytes.now items.pos items.len kept result

module _ {M T : Type 0} where
  -- an array of n elements
  abbrev pub DeserializesArray : ℕ → ReadMembers T → Ref M → Result (List T) Error → Type 0
  DeserializesArray n a this result = DeserializesForm (reads_all a.reads) (array n a.shape) a.knows this result

  -- an option
  abbrev pub DeserializesOption : ReadMembers T → Ref M → Result (Option T) Error → Type 0
  DeserializesOption a this result = DeserializesForm (reads_option a.reads) (option a.shape) a.knows this result

  -- a box
  abbrev pub DeserializesBox : ReadMembers T → Ref M → Result (Box T Global) Error → Type 0
  DeserializesBox a this result = DeserializesForm (reads_in (λ b. b.value) a.reads) (box (sized a.shape)) a.knows this result

  -- a vector
  abbrev pub DeserializesVec : ReadMembers T → Ref M → Result (Vec T Global) Error → Type 0
  DeserializesVec a this result = DeserializesForm (reads_in (λ xs. xs.items) (reads_all a.reads)) (vector a.shape) a.knows this result

  -- the box of a slice
  abbrev pub DeserializesBoxedSlice : ReadMembers T → Ref M → Result (BoxedSlice T Global) Error → Type 0
  DeserializesBoxedSlice a this result =
      DeserializesForm (reads_in boxed_slice_items (reads_all a.reads)) (box (slice a.shape)) a.knows this result

-- a result
abbrev pub DeserializesResult : {M T E : Type 0} → ReadMembers T → ReadMembers E → Ref M → Result (Result T E) Error → Type 0
DeserializesResult a b this result =
    DeserializesForm (reads_result a.reads b.reads) (result_shape a.shape b.shape) (both a.knows b.knows) this result

-- a tuple of one field
abbrev pub DeserializesTuple1 : {M T : Type 0} → ReadMembers T → Ref M → Result (record { 0 : T }) Error → Type 0
DeserializesTuple1 a this result = DeserializesForm (reads_tuple1 a.reads) (tuple1 a.shape) a.knows this result

-- of two fields
abbrev pub DeserializesTuple2 : {M T U : Type 0} → ReadMembers T → ReadMembers U → Ref M → Result (T × U) Error → Type 0
DeserializesTuple2 a b this result =
    DeserializesForm (reads_tuple2 a.reads b.reads) (tuple2 a.shape b.shape) (both a.knows b.knows) this result

-- of three
abbrev pub DeserializesTuple3 : {M T U V : Type 0} → ReadMembers T → ReadMembers U → ReadMembers V → Ref M → Result (T × U × V) Error → Type 0
DeserializesTuple3 a b c this result =
    DeserializesForm (reads_tuple3 a.reads b.reads c.reads) (tuple3 a.shape b.shape c.shape) (all_three a.knows b.knows c.knows) this result

-- of four
abbrev pub DeserializesTuple4 : {M T U V W : Type 0} → ReadMembers T → ReadMembers U → ReadMembers V → ReadMembers W
    → Ref M → Result (T × U × V × W) Error → Type 0
DeserializesTuple4 a b c d this result =
    DeserializesForm (reads_tuple4 a.reads b.reads c.reads d.reads) (tuple4 a.shape b.shape c.shape d.shape)
    (all_four a.knows b.knows c.knows d.knows) this result
