-- Values with one part below them.
use Rattle.std.proofs.Common.{◌≡◌, ℕ, List, [], ◌∷◌, Some, Ok, Err, Result, refl, sym, subst, append-nil}
use Rattle.archive_shape_layout.specs.Shape.{Shape}
use Rattle.archive_shape_layout.specs.Value.{Value}
use Rattle.archive_shape_layout.specs.Value.Values.{no_values, more_values}
use Rattle.archive_shape_layout.specs.Content.{Names, Part, Label, content_of, made, IsLegal}
use Rattle.archive_shape_layout.specs.Content.Part.{at}
use Rattle.archive_shape_layout.specs.Content.Content.{plain}
use Rattle.archive_shape_layout.specs.Holds.Holds.{holds_plain}
use Rattle.archive_shape_layout.specs.Holds.HoldAll.{holds_none, holds_more}
use Rattle.archive_shape.specs.PartFault.PartFault.{fault_plain}
use Rattle.archive_shape.specs.PartFault.PartsFault.{fault_here}
use Rattle.archive_shape.specs.Kept.{Kept}
use Rattle.archive_shape.specs.Checks.{Checks}
use Rattle.archive_shape_layout.specs.declared.error.Error.{Error}
use Rattle.archive_shape.proofs.Questions.{shape_answered}
use Rattle.archive_shape.proofs.Inverted.{IsKnown}

module _ (names : Names) (bytes : List ℕ) (pos : ℕ) (s : Shape) (label : Label) (q : Part) (k l : Kept) where
  -- the check of the one part is that of the value
  pub below_checked :
      (r : Result (Unit {0}) Error)
      → content_of names bytes (at pos s) ≡ plain label (q ∷ [])
      → IsLegal label
      → ((v : Value) → (w : Value) × (made label (more_values v no_values) ≡ Some w))
      → Checks names bytes q k r l
      → Checks names bytes (at pos s) k r l
  below_checked (Ok x) is legal makes h inside before records =
      let below = h inside before records in
      let held = below.passes.accepts in
      let value = makes below.passes.value in
      record {
        passes = record {
          value = value.0;
          regions = below.passes.regions;
          after = below.passes.after;
          accepts = record {
            holds = holds_plain is legal (holds_more held.holds (holds_none refl refl refl) refl (sym (append-nil below.passes.regions))) value.1;
            ascends = held.ascends;
            nests = held.nests;
          };
        };
        seen = below.seen;
        moves = below.moves;
        records = below.records;
      }
  below_checked (Err e) is legal makes h inside before records =
      λ other. fault_plain (shape_answered names _ pos _ s (subst IsKnown (sym is) tt)) is (fault_here (h inside before records other))
