-- What a check ensures.
use Rattle.std.specs.Prelude.{◌≡◌, ◌≢◌, ℕ, List, Result, MatchResult, IfOk}
use Rattle.archive_shape_layout.specs.Shape.{Shape}
use Rattle.archive_shape_layout.specs.Content.{Names, Part}
use Rattle.archive_shape_layout.specs.Content.Part.{at}
use Rattle.archive_shape_layout.specs.Holds.{Visit, OpenShared, end_after}
use Rattle.archive_shape.specs.Accepts.{Passes, PassesAll}
use Rattle.archive_shape.specs.PartFault.{PartFault, PartsFault}
use Rattle.archive_shape.specs.Kept.{Kept, Seen, Records, range_of, started_again, Advances}
use Rattle.archive_shape_layout.specs.declared.error.Error.{Error}
use Rattle.archive_shape_layout.specs.declared.error.Error.TheVariants.{OutOfMemory}

module _ (names : Names) (bytes : List ℕ) (inside : List OpenShared) (before : List Visit) where
  -- a part is accepted, and the context was started again after its last region
  pub record Checked (p : Part) (old new : Kept) : Type 0 where
    pub passes : Passes names bytes inside before p (range_of old)
    pub seen : Seen
    pub moves : new ≡ started_again old (end_after old.start passes.regions) seen
    pub records : Records seen inside passes.after

  pub record CheckedAll (ps : List Part) (old new : Kept) : Type 0 where
    pub passes : PassesAll names bytes inside before ps (range_of old)
    pub seen : Seen
    pub moves : new ≡ started_again old (end_after old.start passes.regions) seen
    pub records : Records seen inside passes.after

-- Ok where the part is accepted; else the error is that of the first fault, except where it is OutOfMemory
abbrev pub Checks : Names → List ℕ → Part → Kept → Result (Unit {0}) Error → Kept → Type 0
Checks names bytes p old result new =
    (inside : List OpenShared) (before : List Visit) → Records old.seen inside before
    → MatchResult result
    (λ _. Checked names bytes inside before p old new)
    (λ e. e ≢ OutOfMemory → PartFault names bytes inside before p (range_of old) e)

-- the same of parts in order
abbrev pub ChecksAll : Names → List ℕ → List Part → Kept → Result (Unit {0}) Error → Kept → Type 0
ChecksAll names bytes ps old result new =
    (inside : List OpenShared) (before : List Visit) → Records old.seen inside before
    → MatchResult result
    (λ _. CheckedAll names bytes inside before ps old new)
    (λ e. e ≢ OutOfMemory → PartsFault names bytes inside before ps (range_of old) e)

-- the check of a part at a position, under all names that its type knows; `kept` is what a context keeps
abbrev pub ChecksAt : {C : Type 0} → (C → Kept) → (Names → Type 0) → List ℕ → ℕ → Shape → C → Result (Unit {0}) Error → C → Type 0
ChecksAt kept knows bytes pos s old result new =
    (names : Names) → knows names → Checks names bytes (at pos s) (kept old) result (kept new)

-- what a check keeps of the context, for any names
abbrev pub Moves : Kept → Result (Unit {0}) Error → Kept → Type 0
Moves old result new = IfOk result (λ _. Advances old new)
