-- The check of the bytes that a text out of line claims.
use Rattle.std.proofs.Common.{◌≡◌, ◌≢◌, ℕ, ◌+◌, List, [], ◌∷◌, length, Result, Ok, Err, IsUtf8, refl}
use Rattle.archive_shape_layout.specs.Bytes.{window}
use Rattle.archive_shape_layout.specs.Shape.Pointee.{str}
use Rattle.archive_shape_layout.specs.Value.Value.{string}
use Rattle.archive_shape_layout.specs.Content.{Names, content_of, made, pointee_content}
use Rattle.archive_shape_layout.specs.Content.Part.{behind}
use Rattle.archive_shape_layout.specs.Content.Label.{written}
use Rattle.archive_shape_layout.specs.Content.Content.{claimed}
use Rattle.archive_shape_layout.specs.Holds.{region_of, Ascends, end_after}
use Rattle.archive_shape_layout.specs.Holds.Holds.{holds_claimed}
use Rattle.archive_shape_layout.specs.Holds.HoldAll.{holds_none}
use Rattle.archive_shape.specs.Range.{InRange}
use Rattle.archive_shape.specs.Accepts.{NestsBelow}
use Rattle.archive_shape.specs.Questions.{AreAnswered, FirstUnanswered, claim, pointee_span}
use Rattle.archive_shape.specs.PartFault.PartFault.{fault_unanswered, fault_text_behind}
use Rattle.archive_shape.specs.Kept.{Kept, range_of, started_again}
use Rattle.archive_shape.specs.Checks.{Checks}
use Rattle.archive_shape_layout.specs.declared.error.Error.{Error}
use Rattle.archive_shape_layout.specs.declared.error.Error.TheVariants.{OutOfMemory, InvalidUtf8}

module _ (names : Names) (bytes : List ℕ) (start len : ℕ) where
  behind_is : content_of names bytes (behind start str len) ≡ claimed (pointee_span start str len) (written (window bytes start len)) []
  unfolding pointee_content
  behind_is = refl

  pub behind_unclaimed : (k l : Kept) (r : Result (Unit {0}) Error) (e : Error) → r ≡ Err e → (e ≢ OutOfMemory → FirstUnanswered (range_of k) e (claim (pointee_span start str len))) → Checks names bytes (behind start str len) k r l
  behind_unclaimed k l r e is f inside before records = rw is (λ other. fault_unanswered (f other))

  pub behind_illegal : (k l : Kept) → AreAnswered (range_of k) (claim (pointee_span start str len)) → (IsUtf8 (window bytes start len) → ⊥) → Checks names bytes (behind start str len) k (Err InvalidUtf8) l
  behind_illegal k l answered illegal inside before records other = fault_text_behind answered behind_is illegal refl

  pub behind_passes : (k l : Kept) → AreAnswered (range_of k) (claim (pointee_span start str len)) → IsUtf8 (window bytes start len) → l ≡ started_again k (start + len) k.seen → Checks names bytes (behind start str len) k (Ok tt) l
  unfolding Ascends end_after NestsBelow made
  behind_passes k l answered legal again inside before records =
      let within : InRange (range_of k) start len = answered.0 in
      record {
        passes = record {
          value = string (window bytes start len);
          regions = region_of (pointee_span start str len) (length k.pushes) ∷ [];
          after = before;
          accepts = record {
            holds = holds_claimed behind_is legal (holds_none refl refl refl) refl refl;
            ascends = (record { after = within.begins; aligned = answered.1.0; inside = within.ends }, tt);
            nests = (answered.1.1.0, tt);
          };
        };
        seen = k.seen;
        moves = again;
        records = records;
      }
