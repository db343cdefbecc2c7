-- Values that are made of parts in order, as tuples and arrays.
use Rattle.std.proofs.Common.{◌≡◌, ℕ, List, Ok, Err, Result, sym, subst, refl}
use Rattle.archive_shape_layout.specs.Shape.{Shape}
use Rattle.archive_shape_layout.specs.Shape.Shape.{array}
use Rattle.archive_shape_layout.specs.Value.Value.{group}
use Rattle.archive_shape_layout.specs.Content.{Names, Part, content_of, elements, made, shape_content}
use Rattle.archive_shape_layout.specs.Content.Part.{at}
use Rattle.archive_shape_layout.specs.Content.Label.{whole}
use Rattle.archive_shape_layout.specs.Content.Content.{plain}
use Rattle.archive_shape_layout.specs.Holds.Holds.{holds_plain}
use Rattle.archive_shape.specs.PartFault.PartFault.{fault_plain}
use Rattle.archive_shape.specs.Kept.{Kept}
use Rattle.archive_shape.specs.Checks.{Checks, ChecksAll}
use Rattle.archive_shape_layout.specs.declared.error.Error.{Error}
use Rattle.archive_shape.proofs.Questions.{shape_answered}
use Rattle.archive_shape.proofs.Inverted.{IsKnown}

-- the check of all parts is that of the value
pub whole_checked :
    (names : Names) (bytes : List ℕ) (pos : ℕ) (s : Shape) (ps : List Part) (k l : Kept) (r : Result (Unit {0}) Error)
    → content_of names bytes (at pos s) ≡ plain whole ps
    → ChecksAll names bytes ps k r l
    → Checks names bytes (at pos s) k r l
unfolding made
whole_checked names bytes pos s ps k l (Ok x) is h inside before records =
    let below = h inside before records in
    let held = below.passes.accepts in
    record {
      passes = record {
        value = group below.passes.values;
        regions = below.passes.regions;
        after = below.passes.after;
        accepts = record { holds = holds_plain is tt held.all refl; ascends = held.ascends; nests = held.nests };
      };
      seen = below.seen;
      moves = below.moves;
      records = below.records;
    }
whole_checked names bytes pos s ps k l (Err e) is h inside before records =
    λ other. fault_plain (shape_answered names _ pos _ s (subst IsKnown (sym is) tt)) is (h inside before records other)

-- so is that of the elements of an array
pub array_checked :
    (names : Names) (bytes : List ℕ) (pos n : ℕ) (s : Shape) (k l : Kept) (r : Result (Unit {0}) Error)
    → ChecksAll names bytes (elements pos n s) k r l
    → Checks names bytes (at pos (array n s)) k r l
unfolding shape_content
array_checked names bytes pos n s k l r h = whole_checked names bytes pos (array n s) (elements pos n s) k l r refl h
