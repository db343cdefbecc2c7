-- What a check accepts has a value.
use Rattle.std.proofs.Common.{ℕ, ◌+◌, ◌≤◌, List, length}
use Rattle.archive_shape_layout.specs.Shape.{Shape, size_of}
use Rattle.archive_shape_layout.specs.Content.{Names}
use Rattle.archive_shape_layout.specs.Content.Part.{at}
use Rattle.archive_shape_layout.specs.Holds.{Visit, OpenShared}
use Rattle.archive_shape_layout.specs.Visited.{AllStand}
use Rattle.archive_shape_layout.proofs.Visited.{claimed_raised}
use Rattle.archive_shape.specs.Range.{Range}
use Rattle.archive_shape.specs.Accepts.{Passes}
use Rattle.archive_forms_values.specs.Parts.{HasValue}

-- where the range that it claims from lies before it, and the visited positions are below the range
pub accepted_has_value :
    (s : Shape) (knows : Names → Type 0) (names : Names) (bytes : List ℕ) (inside : List OpenShared) (before : List Visit) (pos : ℕ) (k : Range)
    → knows names
    → AllStand names bytes k.start before
    → k.start ≤ k.end
    → k.end ≤ pos
    → pos + size_of s ≤ length bytes
    → Passes names bytes inside before (at pos s) k
    → HasValue s knows bytes pos
accepted_has_value s knows names bytes inside before pos k known stand ordered below fits passes =
    record {
      value = passes.value;
      held = record {
        names = names;
        known = known;
        level = k.level;
        inside = inside;
        regions = passes.regions;
        before = before;
        after = passes.after;
        own_within = fits;
        low = k.start;
        claimed = claimed_raised below (record { stand = stand; below = ordered; ascends = passes.accepts.ascends });
        holds = passes.accepts.holds;
      };
    }
