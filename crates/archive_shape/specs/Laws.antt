-- Laws of faults, as statements.
use Rattle.std.specs.Prelude.{◌≡◌, ◌≢◌, ℕ, ◌<◌, List}
use Rattle.archive_shape_layout.specs.Bytes.{window, word_at}
use Rattle.archive_shape_layout.specs.Shape.{Shape}
use Rattle.archive_shape_layout.specs.Content.{Names, Part}
use Rattle.archive_shape_layout.specs.Content.Part.{child}
use Rattle.archive_shape_layout.specs.Holds.{Visit, OpenShared}
use Rattle.archive_shape.specs.Range.{Range}
use Rattle.archive_shape.specs.Accepts.{Passes}
use Rattle.archive_shape.specs.Questions.{questions_of, AreAnswered}
use Rattle.archive_shape.specs.PartFault.{PartFault}
use Rattle.archive_shape_layout.specs.declared.error.Error.{Error}
use Rattle.archive_shape_layout.specs.declared.error.Error.TheVariants.{TooManyLevels}

-- a part with a fault is not accepted
abbrev pub FaultRefuses : Type 0
FaultRefuses =
    (names : Names) (bytes : List ℕ) (inside : List OpenShared) (before : List Visit) (p : Part) (k : Range) (e : Error)
    → PartFault names bytes inside before p k e
    → Passes names bytes inside before p k
    → ⊥

-- two faults of a part are the same
abbrev pub OneFault : Type 0
OneFault =
    (names : Names) (bytes : List ℕ) (inside : List OpenShared) (before : List Visit) (p : Part) (k : Range) (e d : Error)
    → PartFault names bytes inside before p k e
    → PartFault names bytes inside before p k d
    → e ≡ d

-- where a part is accepted, all its questions are answered by yes
abbrev pub AcceptedIsAnswered : Type 0
AcceptedIsAnswered =
    (names : Names) (bytes : List ℕ) (inside : List OpenShared) (before : List Visit) (p : Part) (k : Range)
    → Passes names bytes inside before p k
    → AreAnswered k (questions_of names bytes p)

-- a pointer to a child below level 32 is refused before any question about where it leads; the word 1 is no child
abbrev pub DeepChildIsRefused : Type 0
DeepChildIsRefused =
    (names : Names) (bytes : List ℕ) (inside : List OpenShared) (before : List Visit) (level most : ℕ) (key value : Shape) (pos : ℕ) (k : Range)
    → 32 < level
    → word_at (window bytes pos 4) 0 ≢ 1
    → PartFault names bytes inside before (child level most key value pos) k TooManyLevels
