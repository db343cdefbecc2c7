-- What the checks of forms with parts ensure, and what they need of their steps. `kept` is what a context keeps.
use Rattle.std.specs.Prelude.{ℕ, List, Result}
use denote.Ref.{MutBor}
use denote.Param.Members.{Shared}
use Rattle.archive_shape_layout.specs.Shape.{Shape, Pointee}
use Rattle.archive_shape_layout.specs.Shape.Shape.{result as result_shape, box}
use Rattle.archive_shape_layout.specs.Shape.Pointee.{sized, slice, str}
use Rattle.archive_shape_layout.specs.Content.{Names}
use Rattle.archive_shape_layout.specs.Content.Part.{at, behind}
use Rattle.archive_shape.specs.Kept.{Kept}
use Rattle.archive_shape.specs.Checks.{Checks, ChecksAt}
use Rattle.archive_shape.specs.Steps.{StepTakes}
use Rattle.archive_shape_layout.specs.declared.error.Error.{Error}
use Rattle.archive_forms_values.specs.Tuples.{tuple1, tuple2, tuple3, tuple4}

-- ---- of one type of parts, under all names that it knows

-- the check of a box at a position
abbrev pub ChecksBox : {C : Type 0} → (C → Kept) → (Names → Type 0) → List ℕ → ℕ → Pointee → C → Result (Unit {0}) Error → C → Type 0
ChecksBox kept knows bytes pos p old result new = ChecksAt kept knows bytes pos (box p) old result new

-- the check of the one value that a pointer leads to
abbrev pub ChecksTarget : {C : Type 0} → (C → Kept) → (Names → Type 0) → List ℕ → (target : ℕ) → Shape
    → C → Result (Unit {0}) Error → C → Type 0
ChecksTarget kept knows bytes target s old result new =
    (names : Names) → knows names → Checks names bytes (behind target (sized s) 1) (kept old) result (kept new)

-- the check of the elements that a pointer leads to
abbrev pub ChecksSlice : {C : Type 0} → (C → Kept) → (Names → Type 0) → List ℕ → (target : ℕ) → Shape → (len : ℕ)
    → C → Result (Unit {0}) Error → C → Type 0
ChecksSlice kept knows bytes target s len old result new =
    (names : Names) → knows names → Checks names bytes (behind target (slice s) len) (kept old) result (kept new)

-- the check of the bytes of a text that a pointer leads to, which is the same under all names
abbrev pub ChecksText : {C : Type 0} → (C → Kept) → List ℕ → (start len : ℕ) → C → Result (Unit {0}) Error → C → Type 0
ChecksText kept bytes start len old result new =
    (names : Names) → Checks names bytes (behind start str len) (kept old) result (kept new)

-- ---- of parts of several types, under all names that each of them knows

-- the check of a part at a position, where there are two types
abbrev pub ChecksAtBoth : {C : Type 0} → (C → Kept) → (knows others : Names → Type 0) → List ℕ → ℕ → Shape
    → C → Result (Unit {0}) Error → C → Type 0
ChecksAtBoth kept knows others bytes pos s old result new =
    (names : Names) → knows names → others names → Checks names bytes (at pos s) (kept old) result (kept new)

-- the check of a result at a position
abbrev pub ChecksResult : {C : Type 0} → (C → Kept) → (knows others : Names → Type 0) → List ℕ → ℕ → (s t : Shape)
    → C → Result (Unit {0}) Error → C → Type 0
ChecksResult kept knows others bytes pos s t old result new = ChecksAtBoth kept knows others bytes pos (result_shape s t) old result new

-- the check of a tuple at a position, of one field
abbrev pub ChecksTuple1 : {C : Type 0} → (C → Kept) → (Names → Type 0) → List ℕ → ℕ → Shape → C → Result (Unit {0}) Error → C → Type 0
ChecksTuple1 kept knows bytes pos s old result new = ChecksAt kept knows bytes pos (tuple1 s) old result new

-- of two fields
abbrev pub ChecksTuple2 : {C : Type 0} → (C → Kept) → (knows others : Names → Type 0) → List ℕ → ℕ → (s t : Shape)
    → C → Result (Unit {0}) Error → C → Type 0
ChecksTuple2 kept knows others bytes pos s t old result new = ChecksAtBoth kept knows others bytes pos (tuple2 s t) old result new

-- of three
abbrev pub ChecksTuple3 : {C : Type 0} → (C → Kept) → (knows others further : Names → Type 0) → List ℕ → ℕ → (s t u : Shape)
    → C → Result (Unit {0}) Error → C → Type 0
ChecksTuple3 kept knows others further bytes pos s t u old result new =
    (names : Names) → knows names → others names → further names
    → Checks names bytes (at pos (tuple3 s t u)) (kept old) result (kept new)

-- of four
abbrev pub ChecksTuple4 : {C : Type 0} → (C → Kept) → (knows others further last : Names → Type 0) → List ℕ → ℕ → (s t u v : Shape)
    → C → Result (Unit {0}) Error → C → Type 0
ChecksTuple4 kept knows others further last bytes pos s t u v old result new =
    (names : Names) → knows names → others names → further names → last names
    → Checks names bytes (at pos (tuple4 s t u v)) (kept old) result (kept new)

-- ---- what they need of steps

-- a step may be called for a part that lies in the form's own bytes
abbrev pub TakesPart : {F C : Type 0} → Shared F (MutBor C × (ℕ × Unit {0})) (Result (Unit {0}) Error × (MutBor C × Unit {0}))
    → (C → Kept) → List ℕ → Shape → F → C → Type 0
TakesPart call kept bytes s step context = StepTakes call kept bytes s step (kept context) 0
