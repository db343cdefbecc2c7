-- What calls that read a field of a tuple need and ensure; `this` refers to the tuple.
use Rattle.std.specs.Prelude.{[], ◌∷◌}
use Rattle.archive_shape_layout.specs.Shape.{Shape}
use Rattle.archive_shape_layout.specs.Content.{Names}
use Rattle.archive_shape.specs.declared.references.refs.Ref.{Ref}
use Rattle.archive_forms_values.specs.Tuples.{tuple2, tuple3, tuple4}
use Rattle.archive_forms_values.specs.Parts.{HasValue, both}
use Rattle.archive_forms_values.specs.Fields.{field, AreFieldsAt, all_three, all_four}

module _ {T : Type 0} (s t : Shape) (knows others : Names → Type 0) (this : Ref T) where
  -- a tuple of two fields has some value
  abbrev pub HasTuple2 : Type 0
  HasTuple2 = HasValue (tuple2 s t) (both knows others) this.bytes.now this.pos

  -- each value that it has is that of its fields
  abbrev pub AreFields2 : Type 0
  AreFields2 = AreFieldsAt (field s knows ∷ field t others ∷ []) (both knows others) this.bytes.now this.pos

module _ {T : Type 0} (s t u : Shape) (knows others further : Names → Type 0) (this : Ref T) where
  -- a tuple of three fields has some value
  abbrev pub HasTuple3 : Type 0
  HasTuple3 = HasValue (tuple3 s t u) (all_three knows others further) this.bytes.now this.pos

  -- each value that it has is that of its fields
  abbrev pub AreFields3 : Type 0
  AreFields3 =
      AreFieldsAt (field s knows ∷ field t others ∷ field u further ∷ []) (all_three knows others further) this.bytes.now this.pos

module _ {T : Type 0} (s t u v : Shape) (knows others further last : Names → Type 0) (this : Ref T) where
  -- a tuple of four fields has some value
  abbrev pub HasTuple4 : Type 0
  HasTuple4 = HasValue (tuple4 s t u v) (all_four knows others further last) this.bytes.now this.pos

  -- each value that it has is that of its fields
  abbrev pub AreFields4 : Type 0
  AreFields4 =
      AreFieldsAt (field s knows ∷ field t others ∷ field u further ∷ field v last ∷ [])
      (all_four knows others further last) this.bytes.now this.pos
