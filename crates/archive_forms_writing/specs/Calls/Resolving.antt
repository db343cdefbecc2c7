-- What is required of a call that writes the own bytes of a value at its place, and what it ensures, for each type that is
-- made of others. The shapes and spellings are those of the others.
use Rattle.std.specs.Prelude.{ℕ, List, Option, Result, Box, Vec}
use Rattle.std.specs.Global.{Global}
use Rattle.std.specs.Box.{boxed_slice_items, boxed_str_bytes}
use Rattle.std.specs.declared.boxed.BoxedSlice.{BoxedSlice}
use Rattle.std.specs.declared.boxed.BoxedStr.{BoxedStr}
use denote.Ref.{MutBor}
use denote.Bor.{Bor}
use Rattle.archive_shape_layout.specs.Shape.{Shape, Pointee}
use Rattle.archive_shape_layout.specs.Shape.Shape.{array, box, option, vector, result as result_shape}
use Rattle.archive_shape_layout.specs.Shape.Pointee.{sized, slice, str}
use Rattle.archive_shape_layout.specs.declared.error.Error.{Error}
use Rattle.archive_shape.specs.declared.references.place.Place.{Place}
use Rattle.archive_forms_values.specs.Tuples.{tuple1, tuple2, tuple3, tuple4}
use Rattle.archive_forms_values.specs.declared.reading.resolving.BoxResolver.{BoxResolver}
use Rattle.archive_forms_values.specs.declared.reading.resolving.VecResolver.{VecResolver}
use Rattle.archive_forms_laws.specs.Spelling.{Spelling}
use Rattle.archive_forms_laws.specs.Forms.{seen_as}
use Rattle.archive_forms_laws.specs.Arrays.{array_spelling}
use Rattle.archive_forms_laws.specs.Fields.{tuple1_spelling, tuple2_spelling, tuple3_spelling, tuple4_spelling}
use Rattle.archive_forms_laws.specs.Options.{option_spelling}
use Rattle.archive_forms_laws.specs.Pointers.{box_spelling, slice_spelling}
use Rattle.archive_forms_laws.specs.Results.{result_spelling}
use Rattle.archive_forms_laws.specs.Texts.{boxed_text_spelling}
use Rattle.archive_forms_laws.specs.Serializing.{CanResolveAt, ResolvesAt}
use Rattle.archive_forms_writing.specs.Elements.{elements_spelling}
use Rattle.archive_forms_writing.specs.Owned.{vec_spelling, boxed_spelling, boxed_slice_spelling, boxed_str_spelling}
use Rattle.archive_forms_writing.specs.Pointed.{box_of}

module _ {A R T : Type 0} (s : Shape) (w : Spelling A R) where
  -- an option
  abbrev pub CanResolveOption : Option A → Option R → Place T → Type 0
  CanResolveOption x r out = CanResolveAt (option_spelling s w) (option s) x r out

  abbrev pub ResolvesOption : {E : Type 0} → Option A → Option R → Place T → MutBor (List ℕ) × E → Result (Unit {0}) Error → Type 0
  ResolvesOption x r out end result = ResolvesAt (option_spelling s w) (option s) x r out end result

  -- an array of so many elements
  abbrev pub CanResolveArray : ℕ → List A → List R → Place T → Type 0
  CanResolveArray n xs rs out = CanResolveAt (array_spelling n s w) (array n s) xs rs out

  abbrev pub ResolvesArray : {E : Type 0} → ℕ → List A → List R → Place T → MutBor (List ℕ) × E → Result (Unit {0}) Error → Type 0
  ResolvesArray n xs rs out end result = ResolvesAt (array_spelling n s w) (array n s) xs rs out end result

  -- a vector
  abbrev pub CanResolveVec : Vec A Global → VecResolver → Place T → Type 0
  CanResolveVec x r out = CanResolveAt (vec_spelling s w) (vector s) x r out

  abbrev pub ResolvesVec : {E : Type 0} → Vec A Global → VecResolver → Place T → MutBor (List ℕ) × E → Result (Unit {0}) Error → Type 0
  ResolvesVec x r out end result = ResolvesAt (vec_spelling s w) (vector s) x r out end result

  -- the vector of a slice's elements
  abbrev pub CanResolveSlice : List A → VecResolver → Place T → Type 0
  CanResolveSlice xs r out = CanResolveAt (elements_spelling s w) (vector s) xs r out

  abbrev pub ResolvesSlice : {E : Type 0} → List A → VecResolver → Place T → MutBor (List ℕ) × E → Result (Unit {0}) Error → Type 0
  ResolvesSlice xs r out end result = ResolvesAt (elements_spelling s w) (vector s) xs r out end result

  -- a box
  abbrev pub CanResolveBoxed : Box A Global → BoxResolver → Place T → Type 0
  CanResolveBoxed x r out = CanResolveAt (boxed_spelling s w) (box (sized s)) x r out

  abbrev pub ResolvesBoxed : {E : Type 0} → Box A Global → BoxResolver → Place T → MutBor (List ℕ) × E → Result (Unit {0}) Error → Type 0
  ResolvesBoxed x r out end result = ResolvesAt (boxed_spelling s w) (box (sized s)) x r out end result

  -- a box of a slice
  abbrev pub CanResolveBoxedSlice : BoxedSlice A Global → BoxResolver → Place T → Type 0
  CanResolveBoxedSlice x r out =
      CanResolveAt (seen_as boxed_slice_items (boxed_slice_spelling s w)) (box (slice s)) x r out

  abbrev pub ResolvesBoxedSlice : {E : Type 0} → BoxedSlice A Global → BoxResolver → Place T → MutBor (List ℕ) × E → Result (Unit {0}) Error → Type 0
  ResolvesBoxedSlice x r out end result =
      ResolvesAt (seen_as boxed_slice_items (boxed_slice_spelling s w)) (box (slice s)) x r out end result

-- a box of a text
module _ {T : Type 0} where
  abbrev pub CanResolveBoxedStr : BoxedStr Global → BoxResolver → Place T → Type 0
  CanResolveBoxedStr x r out = CanResolveAt (seen_as boxed_str_bytes boxed_str_spelling) (box str) x r out

  abbrev pub ResolvesBoxedStr : {E : Type 0} → BoxedStr Global → BoxResolver → Place T → MutBor (List ℕ) × E → Result (Unit {0}) Error → Type 0
  ResolvesBoxedStr x r out end result = ResolvesAt (seen_as boxed_str_bytes boxed_str_spelling) (box str) x r out end result

-- ---- boxes of borrowed values

-- the box of what a pointer of a spelling leads to
module _ {A T : Type 0} (p : Pointee) (w : Spelling A ℕ) where
  abbrev pub CanResolveBoxOf : A → BoxResolver → Place T → Type 0
  CanResolveBoxOf x r out = CanResolveAt (box_of w) (box p) x r out

  abbrev pub ResolvesBoxOf : {E : Type 0} → A → BoxResolver → Place T → MutBor (List ℕ) × E → Result (Unit {0}) Error → Type 0
  ResolvesBoxOf x r out end result = ResolvesAt (box_of w) (box p) x r out end result

module _ {A R T : Type 0} (s : Shape) (w : Spelling A R) where
  -- of a value
  abbrev pub CanResolveBoxOfValue : Bor A → BoxResolver → Place T → Type 0
  CanResolveBoxOfValue x r out = CanResolveBoxOf (sized s) (seen_as (λ r. r.now) (box_spelling s w)) x r out

  abbrev pub ResolvesBoxOfValue : {E : Type 0} → Bor A → BoxResolver → Place T → MutBor (List ℕ) × E → Result (Unit {0}) Error → Type 0
  ResolvesBoxOfValue x r out end result = ResolvesBoxOf (sized s) (seen_as (λ r. r.now) (box_spelling s w)) x r out end result

  -- of a slice
  abbrev pub CanResolveBoxOfSlice : Bor (List A) → BoxResolver → Place T → Type 0
  CanResolveBoxOfSlice x r out = CanResolveBoxOf (slice s) (seen_as (λ r. r.now) (slice_spelling s w)) x r out

  abbrev pub ResolvesBoxOfSlice : {E : Type 0} → Bor (List A) → BoxResolver → Place T → MutBor (List ℕ) × E → Result (Unit {0}) Error → Type 0
  ResolvesBoxOfSlice x r out end result = ResolvesBoxOf (slice s) (seen_as (λ r. r.now) (slice_spelling s w)) x r out end result

-- of a text
module _ {T : Type 0} where
  abbrev pub CanResolveBoxOfStr : Bor (List ℕ) → BoxResolver → Place T → Type 0
  CanResolveBoxOfStr x r out = CanResolveBoxOf str (seen_as (λ r. r.now) boxed_text_spelling) x r out

  abbrev pub ResolvesBoxOfStr : {E : Type 0} → Bor (List ℕ) → BoxResolver → Place T → MutBor (List ℕ) × E → Result (Unit {0}) Error → Type 0
  ResolvesBoxOfStr x r out end result = ResolvesBoxOf str (seen_as (λ r. r.now) boxed_text_spelling) x r out end result

-- ---- results and tuples

module _ {A B R Q T : Type 0} (s t : Shape) (w : Spelling A R) (u : Spelling B Q) where
  -- a result
  abbrev pub CanResolveResult : Result A B → Result R Q → Place T → Type 0
  CanResolveResult x r out = CanResolveAt (result_spelling s t w u) (result_shape s t) x r out

  abbrev pub ResolvesResult : {E : Type 0} → Result A B → Result R Q → Place T → MutBor (List ℕ) × E → Result (Unit {0}) Error → Type 0
  ResolvesResult x r out end result = ResolvesAt (result_spelling s t w u) (result_shape s t) x r out end result

-- tuples of one to four fields
module _ {A R T : Type 0} (s : Shape) (w : Spelling A R) where
  abbrev pub CanResolveTuple1 : record { 0 : A } → record { 0 : R } → Place T → Type 0
  CanResolveTuple1 x r out = CanResolveAt (tuple1_spelling s w) (tuple1 s) x r out

  abbrev pub ResolvesTuple1 : {E : Type 0} → record { 0 : A } → record { 0 : R } → Place T → MutBor (List ℕ) × E → Result (Unit {0}) Error → Type 0
  ResolvesTuple1 x r out end result = ResolvesAt (tuple1_spelling s w) (tuple1 s) x r out end result

module _ {A B R Q T : Type 0} (s₁ : Shape) (w₁ : Spelling A R) (s₂ : Shape) (w₂ : Spelling B Q) where
  abbrev pub CanResolveTuple2 : A × B → R × Q → Place T → Type 0
  CanResolveTuple2 x r out = CanResolveAt (tuple2_spelling s₁ w₁ s₂ w₂) (tuple2 s₁ s₂) x r out

  abbrev pub ResolvesTuple2 : {E : Type 0} → A × B → R × Q → Place T → MutBor (List ℕ) × E → Result (Unit {0}) Error → Type 0
  ResolvesTuple2 x r out end result = ResolvesAt (tuple2_spelling s₁ w₁ s₂ w₂) (tuple2 s₁ s₂) x r out end result

module _ {A B C R Q P T : Type 0} (s₁ : Shape) (w₁ : Spelling A R) (s₂ : Shape) (w₂ : Spelling B Q) (s₃ : Shape) (w₃ : Spelling C P) where
  abbrev pub CanResolveTuple3 : A × B × C → R × Q × P → Place T → Type 0
  CanResolveTuple3 x r out = CanResolveAt (tuple3_spelling s₁ w₁ s₂ w₂ s₃ w₃) (tuple3 s₁ s₂ s₃) x r out

  abbrev pub ResolvesTuple3 : {E : Type 0} → A × B × C → R × Q × P → Place T → MutBor (List ℕ) × E → Result (Unit {0}) Error → Type 0
  ResolvesTuple3 x r out end result = ResolvesAt (tuple3_spelling s₁ w₁ s₂ w₂ s₃ w₃) (tuple3 s₁ s₂ s₃) x r out end result

module _ {A B C D R Q P O T : Type 0} (s₁ : Shape) (w₁ : Spelling A R) (s₂ : Shape) (w₂ : Spelling B Q) (s₃ : Shape) (w₃ : Spelling C P)
    (s₄ : Shape) (w₄ : Spelling D O) where
  abbrev pub CanResolveTuple4 : A × B × C × D → R × Q × P × O → Place T → Type 0
  CanResolveTuple4 x r out = CanResolveAt (tuple4_spelling s₁ w₁ s₂ w₂ s₃ w₃ s₄ w₄) (tuple4 s₁ s₂ s₃ s₄) x r out

  abbrev pub ResolvesTuple4 : {E : Type 0} → A × B × C × D → R × Q × P × O → Place T → MutBor (List ℕ) × E → Result (Unit {0}) Error → Type 0
  ResolvesTuple4 x r out end result = ResolvesAt (tuple4_spelling s₁ w₁ s₂ w₂ s₃ w₃ s₄ w₄) (tuple4 s₁ s₂ s₃ s₄) x r out end result
