-- What a check of a tree's node guarantees that also counts its items. A count is a usize, which stops at its greatest.
use Rattle.std.specs.Prelude.{◌≡◌, ◌≢◌, ℕ, ◌+◌, List, Result, MatchResult}
use Rattle.archive_shape_layout.specs.Value.{Values, count_values}
use Rattle.archive_shape_layout.specs.Value.Values.{no_values, more_values}
use Rattle.archive_shape_layout.specs.Content.{Names, Part, members}
use Rattle.archive_shape_layout.specs.Holds.{Visit, OpenShared}
use Rattle.archive_shape.specs.PartFault.{PartFault, PartsFault}
use Rattle.archive_shape.specs.Kept.{Kept, Records, range_of}
use Rattle.archive_shape.specs.Checks.{Checked, CheckedAll}
use Rattle.archive_shape_layout.specs.declared.error.Error.{Error}
use Rattle.archive_shape_layout.specs.declared.error.Error.TheVariants.{OutOfMemory}
use Rattle.archive_forms_values.specs.Claims.{as_usize}

-- the total number of items of values, each of which is a group of items
abbrev pub count_each : Values → ℕ
count_each no_values = 0
count_each (more_values v vs) = count_values (members v) + count_each vs

module _ (names : Names) (bytes : List ℕ) (inside : List OpenShared) (before : List Visit) where
  -- a part is accepted, and has n items
  pub record Counted (p : Part) (old new : Kept) (n : ℕ) : Type 0 where
    pub checked : Checked names bytes inside before p old new
    pub count : n ≡ as_usize (count_values (members checked.passes.value))

  -- parts in order are accepted, and have n items together
  pub record CountedAll (ps : List Part) (old new : Kept) (n : ℕ) : Type 0 where
    pub checked : CheckedAll names bytes inside before ps old new
    pub count : n ≡ as_usize (count_each checked.passes.values)

-- Ok with the number of items where the part is accepted; else the error of the first fault, except for OutOfMemory
abbrev pub Counts : Names → List ℕ → Part → Kept → Result ℕ Error → Kept → Type 0
Counts names bytes p old result new =
    (inside : List OpenShared) (before : List Visit) → Records old.seen inside before
    → MatchResult result
    (λ n. Counted names bytes inside before p old new n)
    (λ e. e ≢ OutOfMemory → PartFault names bytes inside before p (range_of old) e)

-- the same of parts in order
abbrev pub CountsAll : Names → List ℕ → List Part → Kept → Result ℕ Error → Kept → Type 0
CountsAll names bytes ps old result new =
    (inside : List OpenShared) (before : List Visit) → Records old.seen inside before
    → MatchResult result
    (λ n. CountedAll names bytes inside before ps old new n)
    (λ e. e ≢ OutOfMemory → PartsFault names bytes inside before ps (range_of old) e)
