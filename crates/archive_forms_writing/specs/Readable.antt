-- Where the parts of a written value lie in the bytes, as statements.
use Rattle.std.specs.Prelude.{◌≡◌, ℕ, ◌+◌, ◌*◌, List, slice_get, Option, Some, None, MatchOption, Ok, Err, Box, Vec}
use Rattle.std.specs.Global.{Global}
use Rattle.std.specs.Option.{IsSomeAnd}
use Rattle.archive_shape_layout.specs.Shape.{Shape, size_of}
use Rattle.archive_shape_layout.specs.Shape.Shape.{option, result, box, vector}
use Rattle.archive_shape_layout.specs.Shape.Pointee.{sized}
use Rattle.archive_shape_layout.specs.Content.{Names}
use Rattle.archive_shape_canonical.specs.Settled.{Fit}
use Rattle.archive_shape_canonical.specs.Sharing.{erased}
use Rattle.archive_shape.specs.declared.references.refs.Ref.{Ref}
use Rattle.archive_shape.specs.Key.{HeldAt}
use Rattle.archive_forms_laws.specs.State.{Keys}
use Rattle.archive_forms_laws.specs.Spelling.{Spelling}
use Rattle.archive_forms_laws.specs.Forms.{seen_as, kept_as}
use Rattle.archive_forms_laws.specs.Fields.{tuple2_spelling, tuple3_spelling, tuple4_spelling}
use Rattle.archive_forms_laws.specs.Options.{option_spelling}
use Rattle.archive_forms_laws.specs.Results.{result_spelling}
use Rattle.archive_forms_laws.specs.WrittenAt.{IsWrittenAt, IsReadableAt}
use Rattle.archive_forms_values.specs.Fields.{all_three, all_four, second_position, third_position, fourth_position}
use Rattle.archive_forms_values.specs.Parts.{both, some_position, outcome_position, PointsTo}
use Rattle.archive_forms_values.specs.Tuples.{tuple2, tuple3, tuple4}
use Rattle.archive_forms_writing.specs.Owned.{boxed_spelling, vec_spelling}

-- ---- values

-- where a written value can be read, the layout has it, and without the positions of shared values it is `plain`
abbrev pub PartIsHeld : {A R : Type 0} → Shape → (Names → Type 0) → Spelling A R → Type 0
PartIsHeld {A = A} s knows w =
    (x : A) (bytes : List ℕ) (pos : ℕ) (fit : Fit) (names : Names) (keys : Keys)
    → knows names
    → w.suits fit keys x
    → (readable : IsReadableAt names keys s w bytes pos x)
    → HeldAt s knows bytes pos (w.value x readable.written.state) × (erased (w.value x readable.written.state) ≡ w.plain x)

-- ---- views

-- where a value is written that is seen as another, so is the other, regardless of what its resolver is kept as
module _ {A R : Type 0} (w : Spelling A R) where
  abbrev pub SeenIsWritten : Type 0 → Type 0
  SeenIsWritten B =
      (view : B → A) (x : B) (bytes : List ℕ) (pos : ℕ) (keys : Keys)
      → IsWrittenAt keys (seen_as view w) bytes pos x
      → IsWrittenAt keys w bytes pos (view x)

  abbrev pub KeptIsWritten : Type 0 → Type 0
  KeptIsWritten Q =
      (make : R → Q) (get : Q → R) (x : A) (bytes : List ℕ) (pos : ℕ) (keys : Keys)
      → ((r : R) → get (make r) ≡ r)
      → IsWrittenAt keys (kept_as make get w) bytes pos x
      → IsWrittenAt keys w bytes pos x

-- and can be read there, where that value can
module _ {A R : Type 0} (s : Shape) (w : Spelling A R) where
  abbrev pub SeenIsReadable : Type 0 → Type 0
  SeenIsReadable B =
      (view : B → A) (x : B) (bytes : List ℕ) (pos : ℕ) (names : Names) (keys : Keys)
      → IsReadableAt names keys s (seen_as view w) bytes pos x
      → IsReadableAt names keys s w bytes pos (view x)

  abbrev pub KeptIsReadable : Type 0 → Type 0
  KeptIsReadable Q =
      (make : R → Q) (get : Q → R) (x : A) (bytes : List ℕ) (pos : ℕ) (names : Names) (keys : Keys)
      → ((r : R) → get (make r) ≡ r)
      → IsReadableAt names keys s (kept_as make get w) bytes pos x
      → IsReadableAt names keys s w bytes pos x

-- ---- fields

-- where a tuple is written whose shared values have keys that denote them, so is each field, at its position; and each
-- can be read there, where the tuple can
module _ {A B R Q : Type 0} (s : Shape) (v : Spelling A R) (t : Shape) (w : Spelling B Q) where
  abbrev pub Fields2AreWritten : Type 0
  Fields2AreWritten =
      let whole = tuple2_spelling s v t w in
      (x : A × B) (bytes : List ℕ) (pos : ℕ) (fit : Fit) (keys : Keys)
      → whole.suits fit keys x
      → IsWrittenAt keys whole bytes pos x
      → IsWrittenAt keys v bytes pos x.0 × IsWrittenAt keys w bytes (second_position s t pos) x.1

  abbrev pub Fields2AreReadable : (Names → Type 0) → (Names → Type 0) → Type 0
  Fields2AreReadable knows others =
      let whole = tuple2_spelling s v t w in
      (x : A × B) (bytes : List ℕ) (pos : ℕ) (fit : Fit) (names : Names) (keys : Keys)
      → both knows others names
      → whole.suits fit keys x
      → IsReadableAt names keys (tuple2 s t) whole bytes pos x
      → IsReadableAt names keys s v bytes pos x.0 × IsReadableAt names keys t w bytes (second_position s t pos) x.1

module _ {A B C R Q P : Type 0} (s : Shape) (v : Spelling A R) (t : Shape) (w : Spelling B Q) (u : Shape) (z : Spelling C P) where
  abbrev pub Fields3AreWritten : Type 0
  Fields3AreWritten =
      let whole = tuple3_spelling s v t w u z in
      (x : A × B × C) (bytes : List ℕ) (pos : ℕ) (fit : Fit) (keys : Keys)
      → whole.suits fit keys x
      → IsWrittenAt keys whole bytes pos x
      → IsWrittenAt keys v bytes pos x.0
      × IsWrittenAt keys w bytes (second_position s t pos) x.1
      × IsWrittenAt keys z bytes (third_position s t u pos) x.2

  abbrev pub Fields3AreReadable : (Names → Type 0) → (Names → Type 0) → (Names → Type 0) → Type 0
  Fields3AreReadable knows others further =
      let whole = tuple3_spelling s v t w u z in
      (x : A × B × C) (bytes : List ℕ) (pos : ℕ) (fit : Fit) (names : Names) (keys : Keys)
      → all_three knows others further names
      → whole.suits fit keys x
      → IsReadableAt names keys (tuple3 s t u) whole bytes pos x
      → IsReadableAt names keys s v bytes pos x.0
      × IsReadableAt names keys t w bytes (second_position s t pos) x.1
      × IsReadableAt names keys u z bytes (third_position s t u pos) x.2

module _ {A B C D R Q P O : Type 0} (s₁ : Shape) (w₁ : Spelling A R) (s₂ : Shape) (w₂ : Spelling B Q) (s₃ : Shape) (w₃ : Spelling C P) (s₄ : Shape) (w₄ : Spelling D O) where
  abbrev pub Fields4AreWritten : Type 0
  Fields4AreWritten =
      let whole = tuple4_spelling s₁ w₁ s₂ w₂ s₃ w₃ s₄ w₄ in
      (x : A × B × C × D) (bytes : List ℕ) (pos : ℕ) (fit : Fit) (keys : Keys)
      → whole.suits fit keys x
      → IsWrittenAt keys whole bytes pos x
      → IsWrittenAt keys w₁ bytes pos x.0
      × IsWrittenAt keys w₂ bytes (second_position s₁ s₂ pos) x.1
      × IsWrittenAt keys w₃ bytes (third_position s₁ s₂ s₃ pos) x.2
      × IsWrittenAt keys w₄ bytes (fourth_position s₁ s₂ s₃ s₄ pos) x.3

  abbrev pub Fields4AreReadable : (Names → Type 0) → (Names → Type 0) → (Names → Type 0) → (Names → Type 0) → Type 0
  Fields4AreReadable knows others further last =
      let whole = tuple4_spelling s₁ w₁ s₂ w₂ s₃ w₃ s₄ w₄ in
      (x : A × B × C × D) (bytes : List ℕ) (pos : ℕ) (fit : Fit) (names : Names) (keys : Keys)
      → all_four knows others further last names
      → whole.suits fit keys x
      → IsReadableAt names keys (tuple4 s₁ s₂ s₃ s₄) whole bytes pos x
      → IsReadableAt names keys s₁ w₁ bytes pos x.0
      × IsReadableAt names keys s₂ w₂ bytes (second_position s₁ s₂ pos) x.1
      × IsReadableAt names keys s₃ w₃ bytes (third_position s₁ s₂ s₃ pos) x.2
      × IsReadableAt names keys s₄ w₄ bytes (fourth_position s₁ s₂ s₃ s₄ pos) x.3

-- ---- elements

module _ {A R : Type 0} (s : Shape) (w : Spelling A R) where
  -- where a vector is written, each of its elements is, from where the vector leads on
  abbrev pub ElementsAreWritten : Type 0
  ElementsAreWritten =
      let whole = vec_spelling s w in
      (x : Vec A Global) (bytes : List ℕ) (pos to : ℕ) (fit : Fit) (keys : Keys)
      → whole.suits fit keys x
      → IsWrittenAt keys whole bytes pos x
      → PointsTo bytes pos to
      → (i : ℕ) (y : A) → slice_get x.items i ≡ Some y → IsWrittenAt keys w bytes (to + i * size_of s) y

  -- and each can be read there, where the vector can
  abbrev pub ElementsAreReadable : (Names → Type 0) → Type 0
  ElementsAreReadable knows =
      let whole = vec_spelling s w in
      (x : Vec A Global) (bytes : List ℕ) (pos to : ℕ) (fit : Fit) (names : Names) (keys : Keys)
      → knows names
      → whole.suits fit keys x
      → IsReadableAt names keys (vector s) whole bytes pos x
      → PointsTo bytes pos to
      → (i : ℕ) (y : A) → slice_get x.items i ≡ Some y → IsReadableAt names keys s w bytes (to + i * size_of s) y

-- ---- options, results and boxes

-- where an option is written that is some value, the value is, and can be read there, where the option can
module _ {A R : Type 0} (s : Shape) (w : Spelling A R) where
  abbrev pub SomeIsWritten : Type 0
  SomeIsWritten =
      (x : A) (bytes : List ℕ) (pos : ℕ) (keys : Keys)
      → IsWrittenAt keys (option_spelling s w) bytes pos (Some x)
      → IsWrittenAt keys w bytes (some_position s pos) x

  abbrev pub SomeIsReadable : Type 0
  SomeIsReadable =
      (x : A) (bytes : List ℕ) (pos : ℕ) (names : Names) (keys : Keys)
      → IsReadableAt names keys (option s) (option_spelling s w) bytes pos (Some x)
      → IsReadableAt names keys s w bytes (some_position s pos) x

-- where a result is written that is a value, the value is, and can be read there, where the result can; so is its error
module _ {A B R Q : Type 0} (s t : Shape) (v : Spelling A R) (w : Spelling B Q) where
  abbrev pub OkIsWritten : Type 0
  OkIsWritten =
      (x : A) (bytes : List ℕ) (pos : ℕ) (keys : Keys)
      → IsWrittenAt keys (result_spelling s t v w) bytes pos (Ok x)
      → IsWrittenAt keys v bytes (outcome_position s t pos) x

  abbrev pub OkIsReadable : Type 0
  OkIsReadable =
      (x : A) (bytes : List ℕ) (pos : ℕ) (names : Names) (keys : Keys)
      → IsReadableAt names keys (result s t) (result_spelling s t v w) bytes pos (Ok x)
      → IsReadableAt names keys s v bytes (outcome_position s t pos) x

  abbrev pub ErrIsWritten : Type 0
  ErrIsWritten =
      (e : B) (bytes : List ℕ) (pos : ℕ) (keys : Keys)
      → IsWrittenAt keys (result_spelling s t v w) bytes pos (Err e)
      → IsWrittenAt keys w bytes (outcome_position s t pos) e

  abbrev pub ErrIsReadable : Type 0
  ErrIsReadable =
      (e : B) (bytes : List ℕ) (pos : ℕ) (names : Names) (keys : Keys)
      → IsReadableAt names keys (result s t) (result_spelling s t v w) bytes pos (Err e)
      → IsReadableAt names keys t w bytes (outcome_position s t pos) e

-- where a box is written, its value is, where the box leads, and can be read there, where the box can
module _ {A R : Type 0} (s : Shape) (w : Spelling A R) where
  abbrev pub BoxedIsWritten : Type 0
  BoxedIsWritten =
      (x : Box A Global) (bytes : List ℕ) (pos to : ℕ) (keys : Keys)
      → IsWrittenAt keys (boxed_spelling s w) bytes pos x
      → PointsTo bytes pos to
      → IsWrittenAt keys w bytes to x.value

  abbrev pub BoxedIsReadable : Type 0
  BoxedIsReadable =
      (x : Box A Global) (bytes : List ℕ) (pos to : ℕ) (names : Names) (keys : Keys)
      → IsReadableAt names keys (box (sized s)) (boxed_spelling s w) bytes pos x
      → PointsTo bytes pos to
      → IsReadableAt names keys s w bytes to x.value

-- ---- values of maps

-- what is found is the value of this entry, which suits the fit and can be read there, and nothing if there is no entry
abbrev pub FindsReadable : {A B C Q : Type 0} (fit : Fit) (names : Names) (keys : Keys) (s : Shape) (w : Spelling B Q) (first : Option (A × B)) (found : Option (Ref C)) → Type 0
FindsReadable fit names keys s w first found =
    MatchOption first (found ≡ None) (λ e. w.suits fit keys e.1 × IsSomeAnd found (λ r. IsReadableAt names keys s w r.bytes.now r.pos e.1))
