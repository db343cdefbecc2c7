-- What calls that take archived values apart ensure, for comparisons: each value that `this` has, has a part, and
-- `part` refers to the part.
use Rattle.std.specs.Prelude.{◌≡◌, Option, Some, None, Result, Ok, Err, MatchOption, MatchResult}
use Rattle.archive_shape_layout.specs.Shape.{Shape}
use Rattle.archive_shape_layout.specs.Shape.Shape.{option, result as result_shape, box}
use Rattle.archive_shape_layout.specs.Shape.Pointee.{sized}
use Rattle.archive_shape_layout.specs.Value.{Value}
use Rattle.archive_shape_layout.specs.Content.{Names}
use Rattle.archive_shape.specs.Key.{HeldAt}
use Rattle.archive_shape.specs.declared.references.refs.Ref.{Ref}
use Rattle.archive_forms_laws.specs.Views.{option_of, result_of, elements_of, head_of, rest_of}
use Rattle.archive_forms_values.specs.Tuples.{tuple1, tuple2, tuple3, tuple4}
use Rattle.archive_forms_values.specs.Parts.{both}
use Rattle.archive_forms_values.specs.Fields.{all_three, all_four}
use Rattle.archive_forms_comparing.specs.Compared.{HasPart}

-- ---- options, results, boxes and entries

-- the value of an option, if there is one
abbrev pub GivesOption : {T P : Type 0} → Shape → (Names → Type 0) → (this : Ref T) → Option (Ref P) → Type 0
GivesOption s knows this found =
    MatchOption found
    ((v : Value) → HeldAt (option s) knows this.bytes.now this.pos v → option_of v ≡ None)
    (λ part. HasPart (λ v x. option_of v ≡ Some x) (option s) knows this.bytes.now this.pos s knows part.bytes.now part.pos)

-- the value or the error of a result
abbrev pub GivesOutcome : {T P Q : Type 0} → (s t : Shape) → (knows others : Names → Type 0) → (this : Ref T)
    → Result (Ref P) (Ref Q) → Type 0
GivesOutcome s t knows others this found =
    MatchResult found
    (λ part. HasPart (λ v x. result_of v ≡ Ok x) (result_shape s t) (both knows others) this.bytes.now this.pos s knows part.bytes.now part.pos)
    (λ part. HasPart (λ v x. result_of v ≡ Err x) (result_shape s t) (both knows others) this.bytes.now this.pos t others part.bytes.now part.pos)

-- the value of a box
abbrev pub GivesBoxed : {T P : Type 0} → Shape → (Names → Type 0) → (this : Ref T) → (part : Ref P) → Type 0
GivesBoxed s knows this part =
    HasPart (λ v x. v ≡ x) (box (sized s)) knows this.bytes.now this.pos s knows part.bytes.now part.pos

-- an entry as the tuple of its key and its value
abbrev pub GivesTuple : {T P : Type 0} → (k v : Shape) → (knows others : Names → Type 0) → (this : Ref T) → (part : Ref P) → Type 0
GivesTuple k v knows others this part =
    HasPart (λ w x. w ≡ x) (tuple2 k v) (both knows others) this.bytes.now this.pos (tuple2 k v) (both knows others) part.bytes.now part.pos

-- ---- fields of tuples, by the number of their fields

module _ {T P : Type 0} (s : Shape) (knows : Names → Type 0) (this : Ref T) (part : Ref P) where
  -- the only field
  abbrev pub FirstOfOne : Type 0
  FirstOfOne =
      HasPart (λ v x. head_of (elements_of v) ≡ x) (tuple1 s) knows this.bytes.now this.pos s knows part.bytes.now part.pos

module _ {T P : Type 0} (s t : Shape) (knows others : Names → Type 0) (this : Ref T) (part : Ref P) where
  -- the first of two
  abbrev pub FirstOfTwo : Type 0
  FirstOfTwo =
      HasPart (λ v x. head_of (elements_of v) ≡ x) (tuple2 s t) (both knows others) this.bytes.now this.pos
      s knows part.bytes.now part.pos

  -- the second of two
  abbrev pub SecondOfTwo : Type 0
  SecondOfTwo =
      HasPart (λ v x. head_of (rest_of (elements_of v)) ≡ x) (tuple2 s t) (both knows others) this.bytes.now this.pos
      t others part.bytes.now part.pos

module _ {T P : Type 0} (s t u : Shape) (knows others further : Names → Type 0) (this : Ref T) (part : Ref P) where
  -- the first of three
  abbrev pub FirstOfThree : Type 0
  FirstOfThree =
      HasPart (λ v x. head_of (elements_of v) ≡ x) (tuple3 s t u) (all_three knows others further) this.bytes.now this.pos
      s knows part.bytes.now part.pos

  -- the second of three
  abbrev pub SecondOfThree : Type 0
  SecondOfThree =
      HasPart (λ v x. head_of (rest_of (elements_of v)) ≡ x) (tuple3 s t u) (all_three knows others further) this.bytes.now this.pos
      t others part.bytes.now part.pos

  -- the third of three
  abbrev pub ThirdOfThree : Type 0
  ThirdOfThree =
      HasPart (λ v x. head_of (rest_of (rest_of (elements_of v))) ≡ x) (tuple3 s t u) (all_three knows others further) this.bytes.now this.pos
      u further part.bytes.now part.pos

module _ {T P : Type 0} (s t u v : Shape) (knows others further last : Names → Type 0) (this : Ref T) (part : Ref P) where
  -- the first of four
  abbrev pub FirstOfFour : Type 0
  FirstOfFour =
      HasPart (λ w x. head_of (elements_of w) ≡ x) (tuple4 s t u v) (all_four knows others further last) this.bytes.now this.pos
      s knows part.bytes.now part.pos

  -- the second of four
  abbrev pub SecondOfFour : Type 0
  SecondOfFour =
      HasPart (λ w x. head_of (rest_of (elements_of w)) ≡ x) (tuple4 s t u v) (all_four knows others further last) this.bytes.now this.pos
      t others part.bytes.now part.pos

  -- the third of four
  abbrev pub ThirdOfFour : Type 0
  ThirdOfFour =
      HasPart (λ w x. head_of (rest_of (rest_of (elements_of w))) ≡ x) (tuple4 s t u v) (all_four knows others further last)
      this.bytes.now this.pos u further part.bytes.now part.pos

  -- the fourth of four
  abbrev pub FourthOfFour : Type 0
  FourthOfFour =
      HasPart (λ w x. head_of (rest_of (rest_of (rest_of (elements_of w)))) ≡ x) (tuple4 s t u v) (all_four knows others further last)
      this.bytes.now this.pos v last part.bytes.now part.pos
